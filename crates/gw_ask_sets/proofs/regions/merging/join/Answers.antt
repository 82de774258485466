use Rattle.std.proofs.Common.{◌∙◌, ◌||◌, ap, refl}
use Rattle.gw_rules.specs.Fields.{value_of}
use Rattle.gw_ask_sets.specs.regions.Regions.{Region, lies}
use Rattle.gw_ask_sets.specs.regions.Values.{has}
use Rattle.gw_ask_sets.specs.declared.regions.values.Values.{Values}
use Rattle.gw_ask_sets.proofs.regions_lemmas.MergingLaw.{joined_regions}
use Rattle.gw_ask_sets.proofs.regions.merging.join.Goals as goal

pub returns : goal.returns
returns c = λ joint.
    let field = c.args.field in
    let one = c.args.one in
    let other = c.args.other in
    let values = c.in_ok-values.values in
    record {
      regions = λ ask. ap (λ (r : Region). lies r ask) c.set.ensures
          ∙ joined_regions field one.region other.region values ask
          (c.in_ok-values.ensures (value_of field ask)
          ∙ ap (λ (v : Values). has v (value_of field ask) || has c.get-there.result.now (value_of field ask)) c.get-here.ensures
          ∙ ap (λ (v : Values). has (value_of field one.region) (value_of field ask) || has v (value_of field ask)) c.get-there.ensures)
          (joint.regions ask);
      ask = refl;
      allows = refl;
      old_rules = refl;
      new_rules = refl;
      same_allows = joint.allows;
      same_old_rules = joint.old_rules;
      same_new_rules = joint.new_rules;
    }
