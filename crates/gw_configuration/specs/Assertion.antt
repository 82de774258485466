-- Which asks an assertion means.
use Rattle.std.specs.Prelude.{ℕ, ◌==◌, ◌&&◌, ◌||◌, Bool, true, false, not, List, length, nat_eq, Option, None, is_some}
use Rattle.std.specs.List.{list_any}
use Rattle.std.specs.Option.{option_map_or}
use Rattle.gw_rules.specs.declared.field.FieldName.{FieldName}
use Rattle.gw_rules.specs.declared.field.FieldName.TheVariants as fields
use Rattle.gw_rules.specs.declared.operation.Operation.{Operation}
use Rattle.gw_rules.specs.declared.operation.Operation.TheVariants.{Cast, Read, Route, Write}
use Rattle.gw_rules.specs.Ask.{Ask}
use Rattle.gw_rules.specs.Fields.{value_of}
use Rattle.gw_rules.specs.Operation.{operation_number}
use Rattle.gw_rules.specs.Range.{admits}
use Rattle.gw_rules.specs.Rule.{each_field}
use Rattle.gw_configuration.specs.declared.assertion.Assertion.{Assertion}
use Rattle.gw_configuration.specs.declared.assertion.TheConstants.{READING_SERVICES, WRITING_SERVICES}

-- fields

-- what a message may leave unsaid of what it does: the object, the property, the priority and the one station
abbrev pub may_lack : FieldName → Bool
may_lack fields.ObjectType = true
may_lack fields.Instance = true
may_lack fields.Property = true
may_lack fields.Priority = true
may_lack fields.Station = true
may_lack _ = false

-- a field is met where the assertion doesn't name it, where the ask has it and a range holds its value, or where the ask lacks
-- it and may
abbrev pub meets : Assertion → Ask → FieldName → Bool
meets assertion ask field =
    admits (value_of field assertion.ranges) (value_of field ask)
    || (assertion.unnamed && (may_lack field && not (is_some (value_of field ask))))

-- the operation alone isn't looked at
abbrev pub is_operation : FieldName → Bool
is_operation fields.Operation = true
is_operation _ = false

abbrev pub meets_but_operation : Assertion → Ask → Bool
meets_but_operation assertion ask = each_field (λ field. is_operation field || meets assertion ask field)

-- neither the operation nor what is said of an object
abbrev pub passes_object : FieldName → Bool
passes_object fields.Operation = true
passes_object fields.ObjectType = true
passes_object fields.Instance = true
passes_object fields.Property = true
passes_object fields.Priority = true
passes_object _ = false

abbrev pub meets_but_object : Assertion → Ask → Bool
meets_but_object assertion ask = each_field (λ field. passes_object field || meets assertion ask field)

-- asks

-- an ask for an operation
abbrev pub is_for : Operation → Ask → Bool
is_for operation ask = option_map_or (λ number. number == operation_number operation) ask.operation false

-- a message that is sent on or distributed
abbrev pub is_passed : Ask → Bool
is_passed ask = is_for Route ask || is_for Cast ask

-- of one of these services
abbrev pub is_of_service : List ℕ → Ask → Bool
is_of_service services ask = option_map_or (λ number. list_any (nat_eq number) services) ask.service false

-- as an ask for this operation, or as one that passes on what one of these services does
abbrev pub is_meant_by : Operation → List ℕ → Assertion → Ask → Bool
is_meant_by operation services assertion ask =
    (is_for operation ask && meets_but_operation assertion ask)
    || (is_passed ask && (is_of_service services ask && meets_but_object assertion ask))

-- it means whatever reads, or whatever writes
abbrev pub is_any : Assertion → Bool
is_any assertion = assertion.any_read || assertion.any_write

-- by its ranges, where it doesn't name what reads or writes alone in the place of an operation
abbrev pub is_meant_plainly : Assertion → Ask → Bool
is_meant_plainly assertion ask =
    (not (is_any assertion) || not (length assertion.ranges.operation == 0)) && each_field (meets assertion ask)

-- the asks that an assertion means
abbrev pub is_meant : Assertion → Ask → Bool
is_meant assertion ask =
    is_meant_plainly assertion ask
    || ((assertion.any_read && is_meant_by Read READING_SERVICES assertion ask)
    || (assertion.any_write && is_meant_by Write WRITING_SERVICES assertion ask))
