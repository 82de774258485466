use Rattle.std.proofs.Common.{Some}
use Rattle.std.specs.List.{list_any}
use Rattle.gw_rules.specs.Fields.{value_of}
use Rattle.gw_rules.specs.declared.field.TheConstants.FieldName.{ALL}
use Rattle.gw_ask_sets.specs.regions.Values.{has}
use Rattle.gw_ask_sets.proofs.regions_lemmas.Growing.{last_end, last_step}
use Rattle.gw_ask_sets.proofs.regions_lemmas.MeetingLaw.{some_field}
use Rattle.gw_ask_sets.proofs.regions.meeting.last_number.Goals as goal

pub loop-field-preserved : goal.loop-field-preserved
loop-field-preserved c =
    last_step (λ n field. list_any (λ shape. has (value_of field shape) (Some n)) c.args.shapes.now) ALL c.loop-field.field-index _ c.loop-field.last
    c.last_for-last.result c.loop-field-test.true c.last_for-last.ensures.least c.last_for-last.ensures.all c.loop-field.invariant

pub returns : goal.returns
returns c = λ field n t.
    last_end (λ n field. list_any (λ shape. has (value_of field shape) (Some n)) c.args.shapes.now) ALL c.loop-field.field-index c.loop-field.last
    c.loop-field-test.false c.loop-field.invariant n (some_field (λ f. list_any (λ shape. has (value_of f shape) (Some n)) c.args.shapes.now) field t)
