-- When the text of metrics is replaced, and what a store holds of it.
use Rattle.std.specs.Prelude.{◌≡◌, ◌⊎◌, ℕ, ◌+◌, ◌-◌, ◌<◌, Bool, true, false, nat_le, List, Option, Some, None}
use Rattle.gw_wire.specs.Store.{Holds}
use Rattle.gw_wire.specs.declared.store.StoreFault.{StoreFault}
use Rattle.gw_decisions.specs.tally.Tally.{one_more}

-- the store, the tick of the last try, how many tries failed so far, and why the last one did, if it did
pub record Writing (S : Type 0) : Type 0 where
  pub store : S
  pub last : Option ℕ
  pub lost : ℕ
  pub failing : Option StoreFault

abbrev pub nothing_written : {S : Type 0} → S → Writing S
nothing_written store = record { store = store; last = None; lost = 0; failing = None }

-- none was tried yet, or the last ten ticks ago or more
abbrev pub is_due : Option ℕ → ℕ → Bool
is_due None ticks = true
is_due (Some last) ticks = nat_le 10 (ticks - last)

-- a try at a tick: the store holds the text then
pub record IsWritten {S : Type 0} (held : S → Option (List ℕ)) (m : Writing S) (ticks : ℕ)
    (text : List ℕ) (after : Writing S) : Type 0 where
  pub holds : Holds (held after.store) text
  pub last : after.last ≡ Some ticks
  pub lost : after.lost ≡ m.lost
  pub failing : after.failing ≡ None

-- or it failed, and the store holds the text or what it held before
pub record IsLost {S : Type 0} (held : S → Option (List ℕ)) (m : Writing S) (ticks : ℕ) (text : List ℕ)
    (after : Writing S) : Type 0 where
  pub holds : (held after.store ≡ held m.store) ⊎ Holds (held after.store) text
  pub last : after.last ≡ Some ticks
  pub lost : after.lost ≡ one_more m.lost
  pub fault : StoreFault
  pub failing : after.failing ≡ Some fault

-- by whether it succeeded
abbrev pub Tries : {S : Type 0} → (S → Option (List ℕ)) → Writing S → ℕ → List ℕ → Writing S → Bool → Type 0
Tries held m ticks text after true = IsWritten held m ticks text after
Tries held m ticks text after false = IsLost held m ticks text after

-- by whether a text is due
abbrev pub WritesBy : {S : Type 0} → Bool → (S → Option (List ℕ)) → Writing S → ℕ → List ℕ → Writing S → Type 0
WritesBy true held m ticks text after = (succeeds : Bool) × Tries held m ticks text after succeeds
WritesBy false held m ticks text after = after ≡ m

-- what is done at a tick
abbrev pub WritesAtTick : {S : Type 0} → (S → Option (List ℕ)) → Writing S → ℕ → List ℕ → Writing S → Type 0
WritesAtTick held m ticks text after = WritesBy (is_due m.last ticks) held m ticks text after

-- a try whenever it is
abbrev pub IsTried : {S : Type 0} → (S → Option (List ℕ)) → Writing S → ℕ → List ℕ → Writing S → Type 0
IsTried held m ticks text after = (succeeds : Bool) × Tries held m ticks text after succeeds

-- ---- without what is written

-- the tick of the last try, how many tries failed so far, and why the last one did, if it did
pub record Metering : Type 0 where
  pub last : Option ℕ
  pub lost : ℕ
  pub failing : Option StoreFault

abbrev pub metering_of : {S : Type 0} → Writing S → Metering
metering_of m = record { last = m.last; lost = m.lost; failing = m.failing }

-- after a try at a tick, by why it failed, if it did
abbrev pub tried_at : Metering → ℕ → Option StoreFault → Metering
tried_at m ticks None = record { last = Some ticks; lost = m.lost; failing = None }
tried_at m ticks (Some fault) = record { last = Some ticks; lost = one_more m.lost; failing = Some fault }

abbrev pub IsTriedAt : Metering → ℕ → Metering → Type 0
IsTriedAt m ticks after = (fault : Option StoreFault) × (after ≡ tried_at m ticks fault)

-- by whether a text is due
abbrev pub MetersBy : Bool → Metering → ℕ → Metering → Type 0
MetersBy true m ticks after = IsTriedAt m ticks after
MetersBy false m ticks after = after ≡ m

-- what is done at a tick
abbrev pub MetersAtTick : Metering → ℕ → Metering → Type 0
MetersAtTick m ticks after = MetersBy (is_due m.last ticks) m ticks after

-- So it is at each tick, and at each try, of any store and text.
abbrev pub TicksAreMetered : {S : Type 0} → (S → Option (List ℕ)) → Type 0
TicksAreMetered {S} held =
    (m after : Writing S) (ticks : ℕ) (text : List ℕ) → WritesAtTick held m ticks text after
    → MetersAtTick (metering_of m) ticks (metering_of after)

abbrev pub TriesAreMetered : {S : Type 0} → (S → Option (List ℕ)) → Type 0
TriesAreMetered {S} held =
    (m after : Writing S) (ticks : ℕ) (text : List ℕ) → IsTried held m ticks text after
    → IsTriedAt (metering_of m) ticks (metering_of after)

-- a text was tried fewer than ten ticks before this one
abbrev pub IsRecent : Option ℕ → ℕ → Type 0
IsRecent None ticks = ⊥
IsRecent (Some last) ticks = ticks < last + 10

-- so it is after each tick
abbrev pub TicksKeepRecent : {S : Type 0} → (S → Option (List ℕ)) → Type 0
TicksKeepRecent {S} held =
    (m after : Writing S) (ticks : ℕ) (text : List ℕ) → WritesAtTick held m ticks text after → IsRecent after.last ticks
