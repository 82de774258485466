use Rattle.std.proofs.Common.{◌≡◌, ◌<◌, ℕ, get_or}
use Rattle.gw_rules.specs.Fields.{value_of}
use Rattle.gw_rules.specs.declared.field.FieldName.{FieldName}
use Rattle.gw_rules.specs.declared.field.TheConstants.FieldName.{ALL}
use Rattle.gw_configuration.proofs.sameness.same.have_same_ranges.Given as goal

abbrev pub invariant-loop-field : goal.invariant-loop-field
invariant-loop-field l = (k : ℕ) (d : FieldName) → k < l.field-index → value_of (get_or ALL k d) l.ranges ≡ value_of (get_or ALL k d) l.other
