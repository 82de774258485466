use Rattle.std.proofs.Common.{◌≡◌, ◌<◌, ℕ, get_or}
use Rattle.gw_rules.specs.Rule.{ranges_of}
use Rattle.gw_rules.specs.declared.field.FieldName.{FieldName}
use Rattle.gw_rules.specs.declared.field.TheConstants.FieldName.{ALL}
use Rattle.gw_ask_sets.proofs.regions.comparing.same_fields.Given as goal

abbrev pub invariant-loop-field : goal.invariant-loop-field
invariant-loop-field l = (k : ℕ) (d : FieldName) → k < l.field-index → ranges_of (get_or ALL k d) l.a ≡ ranges_of (get_or ALL k d) l.b
