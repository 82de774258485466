use Rattle.std.proofs.Common.{rules, of_calls}
use Rattle.std.proofs.lemmas.Result.{IfOk-weaker}
use Rattle.gw_rules.proofs.EachField.{fields_alike}
use Rattle.gw_policy_drafts.specs.suggestion.Own.{own_ranges}
use Rattle.gw_policy_drafts.proofs.suggestion.group.own_ranges.Goals as goal

pub returns : goal.returns
returns c =
    IfOk-weaker c.try_from_each.result _ _ (λ fields each. fields_alike fields (own_ranges c.args.keeps c.args.ask.now) (λ field. let called = each field in search (of_calls, rules))) c.try_from_each.ensures
