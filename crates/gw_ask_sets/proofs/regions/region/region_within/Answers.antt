use Rattle.std.proofs.Common.{rules, of_calls}
use Rattle.std.proofs.lemmas.Result.{IfOk-weaker}
use Rattle.gw_ask_sets.proofs.regions_lemmas.RegionLaw.{within_lies}
use Rattle.gw_ask_sets.proofs.regions.region.region_within.Goals as goal

pub returns : goal.returns
returns c =
    IfOk-weaker c.try_from_each.result _ _ (λ made each. within_lies c.args.rule.now c.args.region.now made (λ field. let called = each field in search (of_calls, rules))) c.try_from_each.ensures
