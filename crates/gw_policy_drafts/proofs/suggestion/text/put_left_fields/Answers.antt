use Rattle.gw_rules.specs.declared.field.TheConstants.FieldName.{ALL}
use Rattle.gw_ask_sets.proofs.shapes_lemmas.Listing.{flat_step}
use Rattle.gw_policy_drafts.specs.suggestion.Text.{left_ranges}
use Rattle.gw_policy_drafts.proofs.suggestion.text.put_left_fields.Goals as goal

pub loop-field-preserved : goal.loop-field-preserved
loop-field-preserved c =
    flat_step (left_ranges c.args.rule.now) ALL c.loop-field.field-index _ c.args.out.now.items c.loop-field.out.items _ c.loop-field-test.true
    c.loop-field.invariant c.in_ok-put_left_ranges.ensures
