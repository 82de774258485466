use Rattle.std.proofs.Common.{◌≡◌, ◌≤◌, ℕ, true, take, Some}
use Rattle.std.specs.List.{list_any}
use Rattle.gw_rules.specs.Fields.{value_of}
use Rattle.gw_rules.specs.declared.field.TheConstants.FieldName.{ALL}
use Rattle.gw_ask_sets.specs.regions.Values.{has}
use Rattle.gw_ask_sets.proofs.regions.meeting.last_number.Given as goal

abbrev pub invariant-loop-field : goal.invariant-loop-field
invariant-loop-field l = (number : ℕ) →
    list_any (λ field. list_any (λ shape. has (value_of field shape) (Some number)) l.shapes) (take l.field-index ALL) ≡ true → number ≤ l.last
