-- What a history of successful writes, newest first, says of the slots and the defaults.
use Rattle.std.specs.Prelude.{◌≡◌, ℕ, ◌==◌, if◌then◌else◌, List, length, filter_map, slice_get, slice_set, Option, Some}
use Rattle.std.specs.Prelude.{None}
use Rattle.std.specs.Option.{option_map}
use Rattle.gw_tables.specs.priority.Commandable.{with_slot, with_default}
use Rattle.gw_tables.specs.priority.History.{Act, Command, Relinquish, SetDefault, state_after}
use Rattle.gw_objects.specs.declared.value.PropertyValue.{PropertyValue}
use Rattle.gw_objects.specs.Objects.{Slots, Database}
use Rattle.gw_objects.specs.Write.{Write}

-- the slots and the default after an act: one slot or the default is another
abbrev pub acted : Act PropertyValue → Slots → Slots
acted (Command priority value) slots = with_slot priority (Some value) slots
acted (Relinquish priority) slots = with_slot priority None slots
acted (SetDefault value) slots = with_default value slots

-- after a write, the value object at its place has acted, and nothing else is another
abbrev pub put_at : ℕ → Option Slots → List Slots → List Slots
put_at place None states = states
put_at place (Some slots) states = slice_set states place slots

abbrev pub after_write : Write → List Slots → List Slots
after_write write states =
    put_at write.place (option_map (acted write.act) (slice_get states write.place)) states

abbrev pub with_write : Write → Database → Database
with_write write d = record d { states = after_write write d.states }

-- what the writes to the value object at a place did, newest first
abbrev pub act_at : ℕ → Write → Option (Act PropertyValue)
act_at place write = if write.place == place then Some write.act else None

abbrev pub acts_at : ℕ → List Write → List (Act PropertyValue)
acts_at place history = filter_map (act_at place) history

-- the slots and the default of the value object at a place after a history, where it began with a
-- default: a slot holds what the last write at its priority put there, and the default is that of
-- the last write of one, else that at the start
abbrev pub slots_after : List Write → ℕ → PropertyValue → Slots
slots_after history place start = state_after start (acts_at place history)

-- the value objects that began with these defaults are as a history of writes leaves them
pub record IsStateAfter
    (starts : List PropertyValue) (history : List Write) (states : List Slots) : Type 0 where
  pub count : length states ≡ length starts
  pub each : (place : ℕ) →
      slice_get states place ≡ option_map (slots_after history place) (slice_get starts place)
