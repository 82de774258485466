use Rattle.std.proofs.Common.{◌≡◌, ◌∙◌, sym, rules, of_calls}
use Rattle.std.proofs.lemmas.Result.{IfOk-weaker}
use Rattle.gw_rules.specs.Fields.{value_of}
use Rattle.gw_rules.specs.Rule.{ranges_of}
use Rattle.gw_rules.proofs.EachField.{fields_alike}
use Rattle.gw_ask_sets.specs.regions.Tidying.{tidy, tidy_each}
use Rattle.gw_ask_sets.proofs.regions_lemmas.TidyLaw.{tidy_at}
use Rattle.gw_ask_sets.proofs.regions.tidying.tidy_ranges.Goals as goal

pub returns : goal.returns
returns c =
    let rule = c.args.rule.now in
    IfOk-weaker c.try_from_each.result _ _
    (λ fields each. fields_alike fields (tidy_each rule.ranges) (
    λ field.
    let called = each field in
    let made : value_of field fields ≡ tidy (ranges_of field rule) = search (of_calls, rules) in
    made ∙ sym (tidy_at field rule)))
    c.try_from_each.ensures
