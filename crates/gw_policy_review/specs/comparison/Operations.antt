-- The operations that a line names: those that asks of its region have.
use Rattle.std.specs.Prelude.{◌≡◌, ℕ, Bool, true, false, ◌&&◌, List, [], ◌∷◌, Option}
use Rattle.std.specs.List.{AllByRecursion, list_all}
use Rattle.gw_ask_sets.specs.regions.Ranges.{shared}
use Rattle.gw_ask_sets.specs.regions.Regions.{Region, lies, lies_in_one}
use Rattle.gw_ask_sets.specs.regions.Values.{has, has_operation}
use Rattle.gw_ask_sets.specs.declared.regions.comparison.Found.{Found}
use Rattle.gw_ask_sets.specs.declared.regions.values.Values.{Values}
use Rattle.gw_rules.specs.Ask.{Ask}
use Rattle.gw_rules.specs.Fields.{value_of}
use Rattle.gw_rules.specs.declared.field.FieldName.{FieldName}
use Rattle.gw_rules.specs.declared.field.FieldName.TheVariants.{DestinationNetwork, Instance, ObjectType, Priority, Property}
use Rattle.gw_rules.specs.declared.field.FieldName.TheVariants.{Service, Station}
use Rattle.gw_rules.specs.declared.operation.TheConstants.Operation.{ALL}

-- the fields that say what an ask is for, beside its operation
abbrev pub what : List FieldName
what = DestinationNetwork ∷ Service ∷ ObjectType ∷ Instance ∷ Property ∷ Priority ∷ Station ∷ []

-- a region says nothing of what its asks are for: any operation, and each of those fields may be absent
abbrev pub is_open : Region → Bool
is_open region = list_all (has_operation region.operation) ALL && list_all (λ field. (value_of field region).absent) what

-- an ask of a shape lies in a region, and has this operation, or none
pub record IsAsking (shapes : List Region) (region : Region) (operation : Option ℕ) : Type 0 where
  pub ask : Ask
  pub there : lies region ask ≡ true
  pub in_shape : lies_in_one shapes ask ≡ true
  pub named : ask.operation ≡ operation

-- these are the operations of the asks of the shapes that lie in a region
pub record AreAsked (shapes : List Region) (region : Region) (operations : Values) : Type 0 where
  pub enough : (ask : Ask) → lies region ask ≡ true → lies_in_one shapes ask ≡ true → has operations ask.operation ≡ true
  pub asked : (operation : Option ℕ) → has operations operation ≡ true → IsAsking shapes region operation

-- unless a region says nothing of what its asks are for, each of its operations is that of such an ask
abbrev pub OperationIsMeant : List Region → Region → Type 0
OperationIsMeant shapes region =
    is_open region ≡ false → (operation : Option ℕ) → has region.operation operation ≡ true → IsAsking shapes region operation

-- and this holds for each region that was found
abbrev pub OperationsAreMeant : List Region → List Found → Type 0
OperationsAreMeant shapes found = AllByRecursion (λ f. OperationIsMeant shapes f.region) found

-- the values of both
abbrev pub values_of_both : Values → Values → Values
values_of_both a b = record { absent = a.absent && b.absent; ranges = shared a.ranges b.ranges }
