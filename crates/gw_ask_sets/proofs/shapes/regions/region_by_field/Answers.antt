use Rattle.std.proofs.Common.{◌∙◌, rules, of_calls, sym}
use Rattle.std.proofs.lemmas.Result.{IfOk-weaker}
use Rattle.gw_rules.proofs.EachField.{fields_alike}
use Rattle.gw_ask_sets.specs.shapes.Regions.{region_of}
use Rattle.gw_ask_sets.proofs.shapes_lemmas.RegionLaw.{at}
use Rattle.gw_ask_sets.proofs.shapes.regions.region_by_field.Goals as goal

pub returns : goal.returns
returns c =
    IfOk-weaker c.try_from_each.result _ _ (λ fields each. fields_alike fields (region_of c.args.shape.now)
    (λ field. (let called = each field in search (of_calls, rules)) ∙ sym (at field c.args.shape.now))) c.try_from_each.ensures
