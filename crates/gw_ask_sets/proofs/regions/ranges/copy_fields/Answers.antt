use Rattle.std.proofs.Common.{rules, of_calls}
use Rattle.std.proofs.lemmas.Result.{IfOk-weaker}
use Rattle.gw_rules.proofs.EachField.{fields_alike}
use Rattle.gw_ask_sets.proofs.regions.ranges.copy_fields.Goals as goal

pub returns : goal.returns
returns c =
    IfOk-weaker c.try_from_each.result _ _ (λ fields each. fields_alike fields c.args.fields.now (λ field. let called = each field in search (of_calls, rules))) c.try_from_each.ensures
