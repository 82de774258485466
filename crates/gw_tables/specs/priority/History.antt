-- What a history, the list of what was done, newest first, says of the slots and the default.
use Rattle.std.specs.Prelude.{◌≡◌, ℕ, Bool, false, ◌==◌, IsTrue, IsFalse, List, ◌∷◌, ◌++◌, map, find, filter_map, All}
use Rattle.std.specs.Prelude.{slice_index_or, Option, Some, None, option_and_then}
use Rattle.std.specs.List.{range_with_len}
use Rattle.gw_tables.specs.declared.priority.array.TheConstants.{PRIORITIES}
use Rattle.gw_tables.specs.priority.Commandable.{Commandable}

-- what is done to a commandable property: a command at a priority, a relinquish at one, a new default
pub data Act (A : Type 0) : Type 0 where
  Command : ℕ → A → Act A
  Relinquish : ℕ → Act A
  SetDefault : A → Act A

-- whether an act is a command or a relinquish at this priority
abbrev pub is_at : {A : Type 0} → ℕ → Act A → Bool
is_at priority (Command at _) = at == priority
is_at priority (Relinquish at) = at == priority
is_at priority (SetDefault _) = false

-- the value that an act commands
abbrev pub value_of : {A : Type 0} → Act A → Option A
value_of (Command _ value) = Some value
value_of (Relinquish _) = None
value_of (SetDefault _) = None

-- the default that an act gives
abbrev pub default_of : {A : Type 0} → Act A → Option A
default_of (Command _ _) = None
default_of (Relinquish _) = None
default_of (SetDefault value) = Some value

-- a slot: the value that the last act at its priority commanded, empty if that was a relinquish
-- or there was none
abbrev pub slot_after : {A : Type 0} → List (Act A) → ℕ → Option A
slot_after history priority = option_and_then value_of (find (is_at priority) history)

-- the default: that of the last act that gave one, else the one at the start
abbrev pub default_after : {A : Type 0} → A → List (Act A) → A
default_after start history = slice_index_or (filter_map default_of history) 0 start

-- the slots and the default after a history
abbrev pub state_after : {A : Type 0} → A → List (Act A) → Commandable A
state_after start history =
    record {
      slots = map (slot_after history) (range_with_len 1 PRIORITIES);
      default = default_after start history;
    }

-- these are the slots and the default after a history that began with a default
abbrev pub IsStateAfter : {A : Type 0} → A → List (Act A) → Commandable A → Type 0
IsStateAfter start history property = property ≡ state_after start history

-- no act of the history is at this priority
abbrev pub HasNoneAt : {A : Type 0} → ℕ → List (Act A) → Type 0
HasNoneAt priority history = All (λ act. IsFalse (is_at priority act)) history

-- the last act of the history at this priority: none that is newer is at it
pub record IsLastAt {A : Type 0} (priority : ℕ) (history : List (Act A))
    (act : Act A) : Type 0 where
  pub newer : List (Act A)
  pub older : List (Act A)
  pub whole : history ≡ newer ++ act ∷ older
  pub there : IsTrue (is_at priority act)
  pub since : HasNoneAt priority newer
