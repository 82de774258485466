use Rattle.gw_rules.specs.declared.field.TheConstants.FieldName.{ALL}
use Rattle.gw_ask_sets.proofs.regions_lemmas.RegionLaw.{inside_step, pieces_step}
use Rattle.gw_ask_sets.proofs.regions.region.part_fields.Goals as goal

pub loop-field-preserved : goal.loop-field-preserved
loop-field-preserved c =
    let rule = c.args.rule.now in
    let region = c.loop-field.region in
    let next = c.part_at.new.region in
    record {
      pieces = pieces_step ALL c.loop-field.field-index _ c.loop-field.out.items _ _ rule region next c.loop-field-test.true
          c.in_ok-part_at.ensures.pieces c.in_ok-part_at.ensures.inside c.loop-field.invariant.pieces;
      inside = inside_step ALL c.loop-field.field-index _ rule region next _ c.loop-field-test.true
          c.in_ok-part_at.ensures.inside c.loop-field.invariant.inside;
    }
