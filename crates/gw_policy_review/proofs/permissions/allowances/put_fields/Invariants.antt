use Rattle.std.proofs.Common.{◌≡◌, ◌++◌, take}
use Rattle.std.specs.List.{flat_map}
use Rattle.gw_policy_review.specs.permissions.Allowances.{field_words}
use Rattle.gw_policy_review.proofs.permissions.allowances.put_fields.Given as goal

abbrev pub invariant-loop-field : goal.invariant-loop-field
invariant-loop-field l = l.out.items ≡ l.fn.out.items ++ flat_map (field_words l.rule) (take l.field-index l.fields)
