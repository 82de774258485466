use Rattle.std.proofs.Common.{◌≡◌, ◌++◌, take}
use Rattle.std.specs.List.{flat_map}
use Rattle.gw_rules.specs.declared.field.TheConstants.FieldName.{ALL}
use Rattle.gw_policy_drafts.specs.suggestion.Text.{left_ranges}
use Rattle.gw_policy_drafts.proofs.suggestion.text.put_left_fields.Given as goal

abbrev pub invariant-loop-field : goal.invariant-loop-field
invariant-loop-field l = l.out.items ≡ l.fn.out.items ++ flat_map (left_ranges l.rule) (take l.field-index ALL)
