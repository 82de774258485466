-- Fields that an ask of a region may lack.
use Rattle.std.specs.Prelude.{◌≡◌, ℕ, true, false, List, [], Option, None}
use Rattle.std.specs.List.{AllByRecursion}
use Rattle.gw_rules.specs.Ask.{Ask}
use Rattle.gw_rules.specs.Fields.{value_of}
use Rattle.gw_rules.specs.declared.field.FieldName.{FieldName}
use Rattle.gw_ask_sets.specs.regions.Regions.{Region, lies, lies_in_one}
use Rattle.gw_ask_sets.specs.regions.Values.{has, is_any}
use Rattle.gw_ask_sets.specs.declared.regions.comparison.Found.{Found}
use Rattle.gw_ask_sets.specs.declared.regions.values.Values.{Values}

-- absent, and no number
abbrev pub absence : Values
absence = record { absent = true; ranges = [] }

-- the numbers alone
abbrev pub present : Values → Values
present values = record { absent = false; ranges = values.ranges }

-- an ask of a shape lies in a region and lacks a field
pub record IsLacking (shapes : List Region) (region : Region) (field : FieldName) : Type 0 where
  pub ask : Ask
  pub there : lies region ask ≡ true
  pub in_shape : lies_in_one shapes ask ≡ true
  pub lacks : value_of field ask ≡ None

-- if these values of a field may be absent, but aren't just any, an ask of a shape in the region lacks the field
abbrev pub IsMeantBy : List Region → Region → FieldName → Values → Type 0
IsMeantBy shapes region field values = values.absent ≡ true → is_any values ≡ false → IsLacking shapes region field

-- values for a field of a region, from which absence is dropped if no ask of a shape there lacks the field
pub record AreMeant (shapes : List Region) (region : Region) (field : FieldName) (values : Values) : Type 0 where
  pub fewer : (value : Option ℕ) → has values value ≡ true → has (value_of field region) value ≡ true
  pub enough : (ask : Ask) → lies region ask ≡ true → lies_in_one shapes ask ≡ true → has values (value_of field ask) ≡ true
  pub meant : IsMeantBy shapes region field values

-- a field of a region that may be absent, but isn't just anything, is absent in an ask of a shape there
abbrev pub NoneIsMeant : List Region → Region → Type 0
NoneIsMeant shapes region = (field : FieldName) → IsMeantBy shapes region field (value_of field region)

-- and this holds for each region that was found
abbrev pub OrNoneIsMeant : List Region → List Found → Type 0
OrNoneIsMeant shapes found = AllByRecursion (λ f. NoneIsMeant shapes f.region) found
