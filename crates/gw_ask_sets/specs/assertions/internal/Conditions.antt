-- The conditions of which an assertion's asks meet one, and what of a region meets one.
use Rattle.std.specs.Prelude.{ℕ, Bool, not, ◌&&◌, ◌||◌, ◌==◌, if◌then◌else◌, List, [], ◌∷◌, length, map, is_some}
use Rattle.std.specs.List.{list_any}
use Rattle.gw_configuration.specs.Assertion.{may_lack}
use Rattle.gw_configuration.specs.declared.assertion.Assertion.{Assertion}
use Rattle.gw_rules.specs.Ask.{Ask}
use Rattle.gw_rules.specs.Fields.{value_of}
use Rattle.gw_rules.specs.Operation.{operation_number}
use Rattle.gw_rules.specs.Range.{admits}
use Rattle.gw_rules.specs.Rule.{each_field}
use Rattle.gw_rules.specs.declared.field.FieldName.{FieldName}
use Rattle.gw_rules.specs.declared.operation.Operation.{Operation}
use Rattle.gw_rules.specs.declared.operation.Operation.TheVariants.{Cast, Route}
use Rattle.gw_rules.specs.declared.range.Range.{Range}
use Rattle.gw_ask_sets.specs.regions.Ranges.{between, shared}
use Rattle.gw_ask_sets.specs.declared.assertions.condition.Condition.{Condition}
use Rattle.gw_ask_sets.specs.declared.regions.values.Values.{Values}

-- an ask has what a condition names for a field, or may lack it
abbrev pub meets : Condition → Ask → FieldName → Bool
meets condition ask field =
    admits (value_of field condition.ranges) (value_of field ask)
    || (condition.unnamed && (may_lack field && not (is_some (value_of field ask))))

abbrev pub is_met : Condition → Ask → Bool
is_met condition ask = each_field (meets condition ask)

abbrev pub is_one_met : List Condition → Ask → Bool
is_one_met conditions ask = list_any (λ condition. is_met condition ask) conditions

-- what of some values these ranges admit, and absence too, where the field may be lacking
abbrev pub meeting : Bool → Values → List Range → Values
meeting lacking values ranges =
    if length ranges == 0 then values
    else record { absent = lacking && values.absent; ranges = shared values.ranges ranges }

-- ---- those of an assertion's `any-read` or `any-write`

-- those of some services that the assertion names, or all, where it names none
abbrev pub named_services : Assertion → List ℕ → List Range
named_services assertion services =
    if length assertion.ranges.service == 0 then map (λ service. between service service) services
    else shared (map (λ service. between service service) services) assertion.ranges.service

-- an ask for an operation, which meets what the assertion names beside it
abbrev pub operation_condition : Assertion → Operation → Condition
operation_condition assertion operation = record {
  ranges = record assertion.ranges { operation = between (operation_number operation) (operation_number operation) ∷ [] };
  unnamed = assertion.unnamed;
}

-- a `cast` or `route` ask of one of these services, which meets what the assertion names beside an object
abbrev pub passing_condition : Assertion → List Range → Condition
passing_condition assertion services = record {
  ranges = record assertion.ranges {
    operation = between (operation_number Cast) (operation_number Route) ∷ [];
    service = services;
    object_type = [];
    instance = [];
    property = [];
    priority = [];
  };
  unnamed = assertion.unnamed;
}
