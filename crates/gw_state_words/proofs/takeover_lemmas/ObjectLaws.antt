-- What is said of objects is so.
use Rattle.std.proofs.Common.{◌≡◌, ◌∙◌, refl, sym, ap, ap₂, ℕ, ◌+◌, Bool, true, false, not, ◌&&◌, List, [], ◌∷◌, ◌++◌}
use Rattle.std.proofs.Common.{map, take, Option, Some, None}
use Rattle.std.specs.Prelude.{◌↔◌, ◌==◌, count_by, find, filter_map, is_some, if◌then◌else◌}
use Rattle.std.specs.Option.{option_map_or}
use Rattle.std.specs.List.{flat_map, list_any}
use Rattle.std.proofs.lemmas.Bool.{and_parts, eqb-true}
use Rattle.std.proofs.lemmas.List.{append-nil}
use Rattle.std.proofs.lemmas.List.Elements.{filter_map-append}
use Rattle.gw_configuration.specs.Configuration.{Configuration}
use Rattle.gw_configuration.specs.declared.object.Object.{Object as ConfiguredObject}
use Rattle.gw_configuration.specs.declared.port.Port.{Port as ConfiguredPort}
use Rattle.gw_objects.proofs.SameValues.{same_values_are_equal}
use Rattle.gw_objects.specs.declared.configured.Details.{Details}
use Rattle.gw_objects.specs.declared.value.PropertyValue.{PropertyValue}
use Rattle.gw_objects.specs.Objects.{default_of, details_of}
use Rattle.gw_objects.specs.Values.{fits, same_value}
use Rattle.gw_tables.specs.routes.Table.{Routed}
use Rattle.gw_state.specs.Carried.{default_from, is_object, is_port, slot_from, slots_from, states_carried}
use Rattle.gw_state.specs.declared.port.SavedPort.{SavedPort}
use Rattle.gw_state.specs.Saved.{SavedObject, id_of}
use Rattle.gw_state_words.proofs.takeover_lemmas.Firsts.{absent, firsts}
use Rattle.gw_state_words.specs.declared.takeover.finding.Absence.{Absence}
use Rattle.gw_state_words.specs.declared.takeover.finding.TakeoverFinding.{TakeoverFinding}
use Rattle.gw_state_words.specs.declared.takeover.finding.TakeoverFinding.TheVariants as found
use Rattle.gw_state_words.specs.declared.takeover.finding.HeldPlace.TheVariants.{Default, Slot}
use Rattle.gw_state_words.specs.declared.takeover.finding.ObjectName.{ObjectName}
use Rattle.gw_state_words.specs.declared.takeover.finding.ValueFate.{ValueFate}
use Rattle.gw_state_words.specs.declared.takeover.finding.ValueFate.TheVariants as values
use Rattle.gw_state_words.specs.takeover.Findings.{default_fate, default_finding, finding_of_route, is_same_object, is_written}
use Rattle.gw_state_words.specs.takeover.Findings.{lost_objects, lost_ports, object_absence, object_finding, object_findings}
use Rattle.gw_state_words.specs.takeover.Findings.{object_name, objects_found, port_absence, port_finding, port_findings}
use Rattle.gw_state_words.specs.takeover.Findings.{port_name, ports_found, routes_kept, sizes_of, slot_findings, value_finding}
use Rattle.gw_state_words.specs.takeover.Laws.{DefaultsAreAsSaid, DroppedSlotsAreEmpty, LostObjectsAreLost, SlotValue}
use Rattle.gw_state_words.specs.takeover.Laws.{SlotsAreAsSaid, held_by, held_in, lost_in, name_of, said_dropped, said_kept}

-- ---- slots

kept_slots : (name : ObjectName) (d : Details) (priority : ℕ) (slots : List (Option PropertyValue))
    → filter_map said_kept (slot_findings name d priority slots) ≡ held_in name priority (map (slot_from d) slots)
kept_slots name d priority [] = refl
kept_slots name d priority (None ∷ slots) = kept_slots name d (priority + 1) slots
kept_slots name d priority (Some value ∷ slots) =
    by (fits d value) (slot_findings name d (priority + 1) slots) (kept_slots name d (priority + 1) slots)
  where
    by : (b : Bool) (later : List TakeoverFinding) → filter_map said_kept later ≡ held_in name (priority + 1) (map (slot_from d) slots)
        → filter_map said_kept (value_finding name (Slot priority) value (if b then values.TakenOver else values.OutOfRange) ∷ later)
        ≡ held_in name priority ((if b then Some value else None) ∷ map (slot_from d) slots)
    by true later ih = ap (λ (vs : List SlotValue). (name, priority, value) ∷ vs) ih
    by false later ih = ih

dropped_slots : (name : ObjectName) (d : Details) (priority : ℕ) (slots : List (Option PropertyValue))
    → filter_map said_dropped (slot_findings name d priority slots) ≡ lost_in name priority slots (map (slot_from d) slots)
dropped_slots name d priority [] = refl
dropped_slots name d priority (None ∷ slots) = dropped_slots name d (priority + 1) slots
dropped_slots name d priority (Some value ∷ slots) =
    by (fits d value) (slot_findings name d (priority + 1) slots) (dropped_slots name d (priority + 1) slots)
  where
    by : (b : Bool) (later : List TakeoverFinding)
        → filter_map said_dropped later ≡ lost_in name (priority + 1) slots (map (slot_from d) slots)
        → filter_map said_dropped (value_finding name (Slot priority) value (if b then values.TakenOver else values.OutOfRange) ∷ later)
        ≡ lost_in name priority (Some value ∷ slots) ((if b then Some value else None) ∷ map (slot_from d) slots)
    by true later ih = ih
    by false later ih = ap (λ (vs : List SlotValue). (name, priority, value) ∷ vs) ih

-- a default is in no slot
no_slot_kept : (name : ObjectName) (value : PropertyValue) (fate : ValueFate)
    → filter_map said_kept (value_finding name Default value fate ∷ []) ≡ []
no_slot_kept name value values.TakenOver = refl
no_slot_kept name value values.OutOfRange = refl
no_slot_kept name value values.OtherDefault = refl

no_slot_dropped : (name : ObjectName) (value : PropertyValue) (fate : ValueFate)
    → filter_map said_dropped (value_finding name Default value fate ∷ []) ≡ []
no_slot_dropped name value values.TakenOver = refl
no_slot_dropped name value values.OutOfRange = refl
no_slot_dropped name value values.OtherDefault = refl

default_kept : (object : ConfiguredObject) (s : SavedObject) → filter_map said_kept (default_finding object s) ≡ []
default_kept object s = by (is_written s)
  where
    by : (b : Bool) → filter_map said_kept
        (if b then value_finding (name_of object) Default s.slots.default (default_fate object s) ∷ [] else []) ≡ []
    by true = no_slot_kept (name_of object) s.slots.default (default_fate object s)
    by false = refl

default_dropped : (object : ConfiguredObject) (s : SavedObject) → filter_map said_dropped (default_finding object s) ≡ []
default_dropped object s = by (is_written s)
  where
    by : (b : Bool) → filter_map said_dropped
        (if b then value_finding (name_of object) Default s.slots.default (default_fate object s) ∷ [] else []) ≡ []
    by true = no_slot_dropped (name_of object) s.slots.default (default_fate object s)
    by false = refl

object_kept : (object : ConfiguredObject) (s : Option SavedObject)
    → filter_map said_kept (object_finding object s) ≡ held_in (name_of object) 1 (slots_from object s).slots
object_kept object None = refl
object_kept object (Some s) =
    let d = details_of object.value in
    filter_map-append said_kept (slot_findings (name_of object) d 1 s.slots.slots) (default_finding object s)
    ∙ ap₂ (λ (a b : List SlotValue). a ++ b) (kept_slots (name_of object) d 1 s.slots.slots) (default_kept object s)
    ∙ append-nil (held_in (name_of object) 1 (map (slot_from d) s.slots.slots))

pub dropped_slots_are_empty : DroppedSlotsAreEmpty
dropped_slots_are_empty object s =
    let d = details_of object.value in
    filter_map-append said_dropped (slot_findings (name_of object) d 1 s.slots.slots) (default_finding object s)
    ∙ ap₂ (λ (a b : List SlotValue). a ++ b) (dropped_slots (name_of object) d 1 s.slots.slots) (default_dropped object s)
    ∙ append-nil (lost_in (name_of object) 1 s.slots.slots (map (slot_from d) s.slots.slots))

objects_kept : (objects : List ConfiguredObject) (saved : List SavedObject)
    → filter_map said_kept (flat_map (object_findings saved) objects) ≡ held_by objects (states_carried objects saved)
objects_kept [] saved = refl
objects_kept (object ∷ objects) saved =
    filter_map-append said_kept (object_findings saved object) (flat_map (object_findings saved) objects)
    ∙ ap₂ (λ (a b : List SlotValue). a ++ b) (object_kept object (find (is_object object) saved)) (objects_kept objects saved)

-- ---- no slot is said of elsewhere

ports_none : (number : ℕ) (ports : List ConfiguredPort) (saved : List SavedPort)
    → filter_map said_kept (port_findings number ports saved) ≡ []
ports_none number [] saved = refl
ports_none number (p ∷ ports) saved =
    by (find (is_port p) saved) (port_findings (number + 1) ports saved) (ports_none (number + 1) ports saved)
  where
    by : (s : Option SavedPort) (later : List TakeoverFinding) → filter_map said_kept later ≡ []
        → filter_map said_kept (port_finding number p s ∷ later) ≡ []
    by None later ih = ih
    by (Some s) later ih = ih

lost_ports_none : (ports : List ConfiguredPort) (all : List SavedPort) (place : ℕ) (saved : List SavedPort)
    → filter_map said_kept (lost_ports ports all place saved) ≡ []
lost_ports_none ports all place [] = refl
lost_ports_none ports all place (s ∷ saved) =
    by (port_absence ports (take place all) s) (lost_ports ports all (place + 1) saved) (lost_ports_none ports all (place + 1) saved)
  where
    by : (a : Option Absence) (later : List TakeoverFinding) → filter_map said_kept later ≡ []
        → filter_map said_kept
        (option_map_or (λ absence. found.LostPort (port_name s.network s.address) (sizes_of s) absence ∷ []) a [] ++ later) ≡ []
    by None later ih = ih
    by (Some absence) later ih = ih

lost_objects_none : (objects : List ConfiguredObject) (all : List SavedObject) (place : ℕ) (saved : List SavedObject)
    → filter_map said_kept (lost_objects objects all place saved) ≡ []
lost_objects_none objects all place [] = refl
lost_objects_none objects all place (s ∷ saved) =
    by (object_absence objects (take place all) s) (lost_objects objects all (place + 1) saved)
    (lost_objects_none objects all (place + 1) saved)
  where
    by : (a : Option Absence) (later : List TakeoverFinding) → filter_map said_kept later ≡ []
        → filter_map said_kept
        (option_map_or
        (λ absence. found.LostObject (object_name s.object) (count_by is_some s.slots.slots) (is_written s) absence ∷ []) a [] ++ later)
        ≡ []
    by None later ih = ih
    by (Some absence) later ih = ih

routes_none : (c : Configuration) (ports : List SavedPort) (kept routes : Routed)
    → filter_map said_kept (map (finding_of_route c ports kept) routes) ≡ []
routes_none c ports kept [] = refl
routes_none c ports kept (route ∷ routes) = routes_none c ports kept routes

both_none : (xs ys : List TakeoverFinding) → filter_map said_kept xs ≡ [] → filter_map said_kept ys ≡ [] → filter_map said_kept (xs ++ ys) ≡ []
both_none xs ys e f = filter_map-append said_kept xs ys ∙ ap₂ (λ (a b : List SlotValue). a ++ b) e f

skipped : (xs ys : List TakeoverFinding) → filter_map said_kept xs ≡ [] → filter_map said_kept (xs ++ ys) ≡ filter_map said_kept ys
skipped xs ys e = filter_map-append said_kept xs ys ∙ ap (λ (a : List SlotValue). a ++ filter_map said_kept ys) e

pub slots_are_as_said : SlotsAreAsSaid
slots_are_as_said c s =
    let routes = map (finding_of_route c s.ports (routes_kept c s)) s.routes in
    let objects = flat_map (object_findings s.objects) c.objects in
    let lost = lost_objects c.objects s.objects 0 s.objects in
    skipped (ports_found c s) (routes ++ objects_found c s)
    (both_none (port_findings 1 c.ports s.ports) (lost_ports c.ports s.ports 0 s.ports) (ports_none 1 c.ports s.ports)
    (lost_ports_none c.ports s.ports 0 s.ports))
    ∙ skipped routes (objects_found c s) (routes_none c s.ports (routes_kept c s) s.routes)
    ∙ filter_map-append said_kept objects lost
    ∙ ap₂ (λ (a b : List SlotValue). a ++ b) (objects_kept c.objects s.objects) (lost_objects_none c.objects s.objects 0 s.objects)
    ∙ append-nil (held_by c.objects (states_carried c.objects s.objects))

-- ---- defaults

not_false : (b : Bool) → not b ≡ false → b ≡ true
not_false true e = refl
not_false false e = absurd cc

equal : (a b : PropertyValue) → same_value a b ≡ true → a ≡ b
equal a b e = (same_values_are_equal a b).0 e

differ : (value configured : PropertyValue) → same_value value configured ≡ false → configured ≡ value → ⊥
differ value configured e f =
    let same = (same_values_are_equal value configured).1 (sym f) in
    absurd cc

-- the default of an object: by whether it is the configured one, whether that is the one of then, and whether it fits
said : (value configured : PropertyValue) (same unchanged inside : Bool) → same_value value configured ≡ same
    → (if same then values.TakenOver
    else if unchanged then (if inside then values.TakenOver else values.OutOfRange) else values.OtherDefault)
    ≡ values.TakenOver ↔ ((if unchanged && inside then value else configured) ≡ value)
said value configured true true true e = (λ f. refl, λ f. refl)
said value configured true true false e = (λ f. sym (equal value configured e), λ f. refl)
said value configured true false inside e = (λ f. sym (equal value configured e), λ f. refl)
said value configured false true true e = (λ f. refl, λ f. refl)
said value configured false true false e = (λ f. absurd cc, λ f. absurd (differ value configured e f))
said value configured false false inside e = (λ f. absurd cc, λ f. absurd (differ value configured e f))

unwritten : (object : ConfiguredObject) (s : SavedObject) → is_written s ≡ false → default_from object s ≡ default_of object.value
unwritten object s e = by (same_value s.configured (default_of object.value)) (fits (details_of object.value) s.slots.default) refl
  where
    by : (same inside : Bool) → same_value s.configured (default_of object.value) ≡ same
        → (if same && inside then s.slots.default else default_of object.value) ≡ default_of object.value
    by true true f =
        equal s.slots.default s.configured (not_false (same_value s.slots.default s.configured) e)
        ∙ equal s.configured (default_of object.value) f
    by true false f = refl
    by false inside f = refl

pub defaults_are_as_said : DefaultsAreAsSaid
defaults_are_as_said object s = (
  said s.slots.default (default_of object.value) (same_value s.slots.default (default_of object.value))
      (same_value s.configured (default_of object.value)) (fits (details_of object.value) s.slots.default) refl,
  unwritten object s,
)

-- ---- which objects are lost

alike : (s : SavedObject) (object : ConfiguredObject) (other : SavedObject) → is_object object s ≡ true
    → is_object object other ≡ is_same_object s other
alike s object other e =
    let id = id_of object in
    let parts = and_parts (id.kind == s.object.kind) (id.instance == s.object.instance) e in
    ap₂ (λ (k i : ℕ). (k == other.object.kind) && (i == other.object.instance))
    (eqb-true id.kind s.object.kind parts.0) (eqb-true id.instance s.object.instance parts.1)

pub lost_objects_are_lost : LostObjectsAreLost
lost_objects_are_lost objects before s =
    absent (list_any (λ object. is_object object s) objects) (list_any (is_same_object s) before)
    ∙ ap not (sym (firsts is_object (is_same_object s) before s (alike s) objects))
