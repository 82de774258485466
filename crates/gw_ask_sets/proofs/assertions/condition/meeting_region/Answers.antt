use Rattle.std.proofs.Common.{rules, of_calls}
use Rattle.std.proofs.lemmas.Result.{IfOk-weaker}
use Rattle.gw_ask_sets.proofs.assertions_lemmas.ConditionLaw.{meeting_lies}
use Rattle.gw_ask_sets.proofs.assertions.condition.meeting_region.Goals as goal

pub returns : goal.returns
returns c =
    IfOk-weaker c.try_from_each.result _ _ (λ made each. meeting_lies c.args.condition.now c.args.region.now made (λ field. let called = each field in search (of_calls, rules))) c.try_from_each.ensures
