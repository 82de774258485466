-- Each object keeps its sixteen slots, and the sixth stays empty.
use Rattle.std.proofs.Common.{◌≡◌, ◌∙◌, sym, ap, refl, subst, ℕ, zero, suc, ◌-◌, arith, Bool, true, false, cond, List, [], ◌∷◌, get_or, map, set, Option, Some, None}
use Rattle.std.specs.Prelude.{find, slice_get, IfSome}
use Rattle.std.specs.List.{AllByRecursion}
use Rattle.std.specs.Option.{option_map}
use Rattle.std.proofs.lemmas.List.{get_or-set_other, length-map, length-set}
use Rattle.gw_configuration.specs.Configuration.{Configuration}
use Rattle.gw_configuration.specs.declared.object.Object.{Object as ConfiguredObject}
use Rattle.gw_objects.specs.declared.configured.Details.{Details}
use Rattle.gw_objects.specs.declared.value.PropertyValue.{PropertyValue}
use Rattle.gw_objects.specs.History.{acted, put_at}
use Rattle.gw_objects.specs.Objects.{Database, Slots, default_of, details_of}
use Rattle.gw_objects.specs.Write.{CanAct, Write}
use Rattle.gw_tables.specs.priority.Commandable.{IsPriority, no_command}
use Rattle.gw_tables.specs.priority.History.{Act, Command, Relinquish, SetDefault}
use Rattle.gw_relay.specs.State.{moved_by}
use Rattle.gw_rules.specs.declared.format.Format.{Format}
use Rattle.gw_rules.specs.declared.rule.Rule.{Rule}
use Rattle.gw_state.specs.Carried.{is_object, slot_from, slots_from, states_carried}
use Rattle.gw_state.specs.Saved.{OriginObject, SavedObject, saved_objects}
use Rattle.gw_script.specs.Event.{Event}
use Rattle.gw_device.specs.declared.context.Context.{Context}
use Rattle.gw_device.proofs.Writes.{changes_can_be_made}
use Rattle.gw_core.specs.Effects.{apdu_change, change_at, change_for, changed}
use Rattle.gw_core.specs.History.{acts_of, next, state_after, state_from, written}
use Rattle.gw_core.specs.Receive.{Received, barred, dropped, managed, message, receive, unregistered}
use Rattle.gw_core.specs.Reply.{apdu_for, context_of}
use Rattle.gw_core.specs.State.{State, device_network}
use Rattle.gw_core.specs.declared.event.Counts.{Counts}
use Rattle.gw_core.proofs.HistoryLemmas.{state_next}
use Rattle.gw_state_laws.specs.continuity.Laws.{SlotsAreCarried, SlotsAreKept, SlotsAreSaved, SlotsGoOn}
use Rattle.gw_state_laws.specs.continuity.StateOf.{HasItsSlots, HaveTheirSlots}
use Rattle.gw_state_laws.proofs.continuity_lemmas.Ranges.{put_more}

-- ---- a write

apdu_can : (rules : List Rule) (d : Database) (context : Context) (apdu : Option (List ℕ)) (write : Write)
    → apdu_change rules d context apdu ≡ Some write → CanAct write.act
apdu_can rules d context None write e = absurd cc
apdu_can rules d context (Some octets) write e = changes_can_be_made rules d context octets write e

change_can : (rules : List Rule) (format : Format) (d : Database) (received : Received) (write : Write)
    → change_for rules format d received ≡ Some write → CanAct write.act
change_can rules format d dropped write e = absurd cc
change_can rules format d (managed on from frame) write e = absurd cc
change_can rules format d (unregistered m) write e = absurd cc
change_can rules format d (barred m) write e = absurd cc
change_can rules format d (message m) write e =
    apdu_can rules d (context_of format (device_network d) m) (apdu_for (device_network d) m.npdu) write e

-- a write that an event is granted is at another priority
granted_can : (w : State) (e : Event) (write : Write) → change_at w e ≡ Some write → CanAct write.act
unfolding change_at
granted_can w e write is = change_can w.rules w.relay.format w.device (receive w e) write is

set_has : (slots : Slots) (priority : ℕ) (content : Option PropertyValue) (default : PropertyValue) → IsPriority priority
    → (priority ≡ 6 → ⊥) → HasItsSlots slots → HasItsSlots (record { slots = set slots.slots (priority - 1) content; default = default })
set_has slots priority content default is other has = record {
  sixteen = length-set slots.slots (priority - 1) content ∙ has.sixteen;
  sixth = get_or-set_other slots.slots (priority - 1) 5 content None (λ same. other (omega (arith, is.0, same))) ∙ has.sixth;
}

acted_has : (act : Act PropertyValue) (slots : Slots) → CanAct act → HasItsSlots slots → HasItsSlots (acted act slots)
acted_has (Command priority value) slots can has = set_has slots priority (Some value) slots.default can.0 can.1 has
acted_has (Relinquish priority) slots can has = set_has slots priority None slots.default can.0 can.1 has
acted_has (SetDefault value) slots can has = record { sixteen = has.sixteen; sixth = has.sixth }

put_has : (states : List Slots) (place : ℕ) (act : Act PropertyValue) → CanAct act → HaveTheirSlots states
    → HaveTheirSlots (put_at place (option_map (acted act) (slice_get states place)) states)
put_has [] place act can each = tt
put_has (slots ∷ states) zero act can each = (acted_has act slots can each.0, each.1)
put_has (slots ∷ states) (suc place) act can each =
    subst HaveTheirSlots (sym (put_more place (option_map (acted act) (slice_get states place)) slots states))
    (each.0, put_has states place act can each.1)

changed_has : (granted : Option Write) (d : Database) → ((write : Write) → granted ≡ Some write → CanAct write.act)
    → HaveTheirSlots d.states → HaveTheirSlots (changed granted d).states
changed_has None d can each = each
changed_has (Some write) d can each = put_has d.states write.place write.act (can write refl) each

next_has : (w : State) (e : Event) → HaveTheirSlots w.device.states → HaveTheirSlots (next w e).device.states
unfolding next
next_has w e each = changed_has (change_at w e) w.device (granted_can w e) each

-- ---- over events

pub slots_go_on : SlotsGoOn
unfolding state_from
slots_go_on w [] each = each
slots_go_on w (e ∷ l) each = slots_go_on (next w e) l (next_has w e each)

begin_has : (objects : List ConfiguredObject) → HaveTheirSlots (map (λ object. no_command (default_of object.value)) objects)
begin_has [] = tt
begin_has (o ∷ objects) = (record { sixteen = refl; sixth = refl }, begin_has objects)

begins : (c : Configuration) (k : Counts) → HaveTheirSlots (state_after c k []).device.states
unfolding acts_of moved_by written
begins c k = begin_has c.objects

pub slots_are_kept : (c : Configuration) → SlotsAreKept c
slots_are_kept c k [] = begins c k
slots_are_kept c k (e ∷ h) =
    subst (λ (w : State). HaveTheirSlots w.device.states) (sym (state_next c k h e)) (next_has (state_after c k h) e (slots_are_kept c k h))

-- ---- saved and taken over

objects_have : (objects : List OriginObject) (states : List Slots) → HaveTheirSlots states
    → AllByRecursion (λ object. HasItsSlots object.slots) (saved_objects objects states)
objects_have [] states each = tt
objects_have (o ∷ objects) [] each = tt
objects_have (o ∷ objects) (slots ∷ states) each = (each.0, objects_have objects states each.1)

pub slots_are_saved : (c : Configuration) → SlotsAreSaved c
slots_are_saved c w each = objects_have _ w.device.states each

empty_from : (d : Details) (slots : List (Option PropertyValue)) (i : ℕ) → get_or slots i None ≡ None
    → get_or (map (slot_from d) slots) i None ≡ None
empty_from d [] i empty = refl
empty_from d (slot ∷ slots) zero empty = ap (slot_from d) empty
empty_from d (slot ∷ slots) (suc i) empty = empty_from d slots i empty

from_has : (object : ConfiguredObject) (s : Option SavedObject) → IfSome s (λ o. HasItsSlots o.slots) → HasItsSlots (slots_from object s)
from_has object None has = record { sixteen = refl; sixth = refl }
from_has object (Some s) has = record {
  sixteen = length-map s.slots.slots (slot_from (details_of object.value)) ∙ has.sixteen;
  sixth = empty_from (details_of object.value) s.slots.slots 5 has.sixth;
}

found_has : (is : SavedObject → Bool) (objects : List SavedObject) → AllByRecursion (λ object. HasItsSlots object.slots) objects
    → IfSome (find is objects) (λ o. HasItsSlots o.slots)
found_has is [] each = tt
found_has is (o ∷ objects) each = by (is o) (found_has is objects each.1)
  where
    by : (b : Bool) → IfSome (find is objects) (λ x. HasItsSlots x.slots)
        → IfSome (cond b (Some o) (find is objects)) (λ x. HasItsSlots x.slots)
    by true later = each.0
    by false later = later

carried_have : (objects : List ConfiguredObject) (saved : List SavedObject) → AllByRecursion (λ object. HasItsSlots object.slots) saved
    → HaveTheirSlots (states_carried objects saved)
carried_have [] saved each = tt
carried_have (o ∷ objects) saved each =
    (from_has o (find (is_object o) saved) (found_has (is_object o) saved each), carried_have objects saved each)

pub slots_are_carried : (c : Configuration) → SlotsAreCarried c
slots_are_carried c s each = carried_have c.objects s.objects each
