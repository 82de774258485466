-- A commandable property (clause 19.2): slots by priority, a default, and the present value.
use Rattle.std.specs.Prelude.{◌≡◌, ◌≢◌, ◌⊎◌, ℕ, ◌-◌, ◌<◌, ◌≤◌, List, [], ◌∷◌, replicate, Option, Some, None}
use Rattle.std.specs.Prelude.{slice_index_or, slice_set}
use Rattle.gw_tables.specs.declared.priority.array.TheConstants.{PRIORITIES}

-- the slots, that of priority 1 first, each with a value or empty, and the default
pub record Commandable (A : Type 0) : Type 0 where
  pub slots : List (Option A)
  pub default : A

-- priorities are 1 to 16
abbrev pub IsPriority : ℕ → Type 0
IsPriority priority = (1 ≤ priority) × (priority ≤ PRIORITIES)

-- the slot of a priority
abbrev pub slot : {A : Type 0} → ℕ → Commandable A → Option A
slot priority property = slice_index_or property.slots (priority - 1) None

-- the value of the first slot that isn't empty, else the default
abbrev pub first_or : {A : Type 0} → A → List (Option A) → A
first_or default [] = default
first_or default (Some value ∷ slots) = value
first_or default (None ∷ slots) = first_or default slots

-- the present value, as it is computed
abbrev pub present : {A : Type 0} → Commandable A → A
present property = first_or property.default property.slots

-- every slot of a higher priority, that is of a lesser number, is empty
abbrev pub AreEmptyBelow : {A : Type 0} → Commandable A → ℕ → Type 0
AreEmptyBelow property priority =
    (lesser : ℕ) → 1 ≤ lesser → lesser < priority → slot lesser property ≡ None

-- this priority's slot holds the value, and it is the least priority whose slot isn't empty
abbrev pub IsLeast : {A : Type 0} → Commandable A → ℕ → A → Type 0
IsLeast property priority value =
    IsPriority priority × (slot priority property ≡ Some value) × AreEmptyBelow property priority

-- every slot is empty
abbrev pub AreEmpty : {A : Type 0} → Commandable A → Type 0
AreEmpty property = (priority : ℕ) → IsPriority priority → slot priority property ≡ None

-- the present value, in words: that of the least priority whose slot isn't empty, else the default
abbrev pub IsPresent : {A : Type 0} → Commandable A → A → Type 0
IsPresent property value =
    ((priority : ℕ) × IsLeast property priority value)
    ⊎ (AreEmpty property × (value ≡ property.default))

-- sixteen empty slots and a default
abbrev pub no_command : {A : Type 0} → A → Commandable A
no_command default = record { slots = replicate PRIORITIES None; default = default }

-- with this in the slot of a priority: a value, or nothing
abbrev pub with_slot : {A : Type 0} → ℕ → Option A → Commandable A → Commandable A
with_slot priority content property =
    record { slots = slice_set property.slots (priority - 1) content; default = property.default }

-- with another default
abbrev pub with_default : {A : Type 0} → A → Commandable A → Commandable A
with_default default property = record { slots = property.slots; default = default }

-- one slot has this content now; every other slot and the default are as they were
pub record ChangesSlot {A : Type 0} (old : Commandable A) (priority : ℕ)
    (content : Option A) (new : Commandable A) : Type 0 where
  pub this : slot priority new ≡ content
  pub others : (other : ℕ) → IsPriority other → other ≢ priority → slot other new ≡ slot other old
  pub default : new.default ≡ old.default
