-- What is kept stays current, event by event and turn by turn.
use Rattle.std.proofs.Common.{◌≡◌, ◌∙◌, refl, sym, ap, ap₂, subst, true≢false, inl, ℕ, Bool, true, false, List, [], ◌∷◌, ◌++◌, map, Option, Some, None}
use Rattle.std.specs.Prelude.{Result, Ok, Err}
use Rattle.std.proofs.lemmas.List.Concat.{flat_map-cons}
use Rattle.gw_addr.specs.declared.entry.BdtEntry.{BdtEntry}
use Rattle.gw_objects.specs.Objects.{Database}
use Rattle.gw_relay.specs.declared.port.PortState.{PortState}
use Rattle.gw_state.specs.declared.origin.OriginPort.{OriginPort}
use Rattle.gw_state.specs.declared.port.SavedPort.{SavedPort}
use Rattle.gw_state.specs.Saved.{Origin, Saved, SavedObject, saved_objects}
use Rattle.gw_script.specs.Event.{Event}
use Rattle.gw_state_text.specs.Text.{state_text}
use Rattle.gw_core.specs.History.{next, state_from}
use Rattle.gw_core.specs.Lasting.{lasts}
use Rattle.gw_core.specs.Resumed.{saved_of, saved_ports}
use Rattle.gw_core.specs.State.{State}
use Rattle.gw_state_laws.specs.continuity.Laws.{entries_of}
use Rattle.gw_state_laws.proofs.continuity_lemmas.LastingChanges.{only_lasting_changes}
use Rattle.gw_turns.specs.Keeping.{HasPassed, IsHeld, IsUnkept, IsUpToDate, KeepsBy, KeepsChanged, Keeping, KeptBy, PassesBy, TicksBy, Tries, due_of, is_due, is_kept, lasting_of, lasting_port, spared, spared_by}
use Rattle.gw_turns.specs.Pace.{may_try}
use Rattle.gw_wire.specs.Store.{Holds}
use Rattle.gw_turns.specs.Serve.{Turn, empty_turn, events_of, failed_turn, lost_event, taken_event, turn_events}
use Rattle.gw_turns.specs.Stretch.{AreGuarded, GoOn, GuardsTurn, IsFaulty, Moment, asked_until}
use Rattle.gw_turns.specs.declared.serving.ServeFault.{ServeFault}
use Rattle.gw_turns.specs.declared.serving.ServeFault.TheVariants as serving
use Rattle.gw_turns.specs.declared.stretch.StretchEnd.TheVariants.{Turns, Tick, Withheld}
use Rattle.gw_script.specs.Event as event
use Rattle.gw_turns.specs.declared.alike.SavedPart.TheVariants.{AllButTicks, Lasting}
use Rattle.gw_wire.specs.declared.store.StoreFault.{StoreFault}
use Rattle.gw_turns.proofs.AlikeLemmas.{alike_is_equal}
use Rattle.gw_turns.proofs.ServeLemmas.{state_along}
use Rattle.gw_state_laws.specs.keeping.Laws.{AnsweredIsKept, CurrentIsUpToDate, FaultsKeep, HeldStays, IsCurrent, LastsAs, PausesKeep, TicksKeepCurrent, TriedIsCurrent, TriedLastIsCurrent, WithheldIsOldOrNew}

-- ---- what doesn't last leaves what lasts

-- what lasts of the ports is their tables of peers
ports_last : (ports : List OriginPort) (states others : List PortState) → entries_of states ≡ entries_of others
    → map lasting_port (saved_ports ports states) ≡ map lasting_port (saved_ports ports others)
ports_last [] states others same = refl
ports_last (port ∷ ports) [] [] same = refl
ports_last (port ∷ ports) [] (other ∷ others) same = absurd cc
ports_last (port ∷ ports) (state ∷ states) [] same = absurd cc
ports_last (port ∷ ports) (state ∷ states) (other ∷ others) same =
    let head : state.bdt ≡ other.bdt = cc in
    let tail : entries_of states ≡ entries_of others = cc in
    ap₂ (λ (entries : List BdtEntry) (rest : List SavedPort). record {
      network = port.network;
      address = port.address;
      peers = port.peers;
      entries = entries;
      devices = [];
    } ∷ rest) head (ports_last ports states others tail)

lasting_stays : (o : Origin) (w : State) (event : Event) → lasts w event ≡ false
    → lasting_of (saved_of o (next w event)) ≡ lasting_of (saved_of o w)
lasting_stays o w event still =
    let stays = only_lasting_changes w event still in
    ap₂ (λ (ports : List SavedPort) (objects : List SavedObject). record (lasting_of (saved_of o w)) { ports = ports; objects = objects })
    (ports_last o.ports (next w event).relay.ports w.relay.ports stays.0) (ap (λ (d : Database). saved_objects o.objects d.states) stays.1)

-- ---- one event

lasts_on : (kept : Result Saved StoreFault) (a b : Saved) → lasting_of a ≡ lasting_of b → LastsAs kept b → LastsAs kept a
lasts_on (Ok s) a b same lasts = lasts ∙ sym same
lasts_on (Err fault) a b same lasts = tt

alike_lasts : (kept : Result Saved StoreFault) (due : Saved) → is_kept Lasting kept due ≡ true → LastsAs kept due
alike_lasts (Ok s) due alike = alike_is_equal s due alike
alike_lasts (Err fault) due alike = tt

-- what a keeper has, of this state and in this store
abbrev Has : {S : Type 0} → (S → Option (List ℕ)) → Keeping S → Saved → Type 0
Has held k due = IsHeld (held k.store) k.kept × LastsAs k.kept due

-- a keeper that has a state of which the same lasts is current
current_by : {S : Type 0} (held : S → Option (List ℕ)) (k l : Keeping S) (w : State) (due : Saved)
    → lasting_of (saved_of k.origin w) ≡ lasting_of due → Has held l due × (l.origin ≡ k.origin) → IsCurrent held l w
current_by held k l w due same has = record {
  text = has.0.0;
  lasts = subst (λ (o : Origin). LastsAs l.kept (saved_of o w)) (sym has.1) (lasts_on l.kept (saved_of k.origin w) due same has.0.1);
}

-- so is one that has what is due of this state
has_current : {S : Type 0} (held : S → Option (List ℕ)) (k l : Keeping S) (w : State) → Has held l (due_of k w) × (l.origin ≡ k.origin)
    → IsCurrent held l w
has_current held k l w has = current_by held k l w (due_of k w) refl has

-- what was just kept
just_kept : {S : Type 0} (held : S → Option (List ℕ)) (l : Keeping S) (due : Saved) → l.kept ≡ Ok due → Holds (held l.store) (state_text due)
    → Has held l due
just_kept held l due kept text = (
  subst (λ (r : Result Saved StoreFault). IsHeld (held l.store) r) (sym kept) text,
  subst (λ (r : Result Saved StoreFault). LastsAs r due) (sym kept) refl,
)

kept_has : {S : Type 0} (held : S → Option (List ℕ)) (k l : Keeping S) (due : Saved) (is : Bool) → is_kept Lasting k.kept due ≡ is
    → KeptBy is held k due l → IsHeld (held k.store) k.kept → Has held l due × (l.origin ≡ k.origin)
kept_has held k l due true alike same has =
    subst (λ (j : Keeping _). Has held j due × (j.origin ≡ k.origin)) (sym same) ((has, alike_lasts k.kept due alike), refl)
kept_has held k l due false alike kept has = (just_kept held l due kept.kept kept.text, kept.origin)

unkept_has : {S : Type 0} (held : S → Option (List ℕ)) (k l : Keeping S) (due : Saved) → IsUnkept held k due l
    → Has held l due × (l.origin ≡ k.origin)
unkept_has held k l due failed = (
  (
    subst (λ (r : Result Saved StoreFault). IsHeld (held l.store) r) (sym failed.kept) tt,
    subst (λ (r : Result Saved StoreFault). LastsAs r due) (sym failed.kept) tt,
  ),
  failed.origin,
)

-- what passes was tried, or was kept
passed_changed : {S : Type 0} (held : S → Option (List ℕ)) (k l : Keeping S) (due : Saved) (may : Bool) → KeepsBy may held k due l true
    → KeepsChanged Lasting held k due l true
passed_changed held k l due true p = p
passed_changed held k l due false p = absurd (true≢false p.1)

-- what is withheld is so after a try, or without one
withheld_unkept : {S : Type 0} (held : S → Option (List ℕ)) (k l : Keeping S) (due : Saved) (may : Bool) → KeepsBy may held k due l false
    → IsUnkept held k due l
withheld_unkept held k l due true p = p.unkept
withheld_unkept {S} held k l due false p = record {
  fault = spared_by k.kept;
  kept = ap (λ (j : Keeping S). j.kept) p.0;
  text = inl (ap (λ (j : Keeping S). held j.store) p.0);
  origin = ap (λ (j : Keeping S). j.origin) p.0;
  unkept = ap (λ (j : Keeping S). j.unkept) p.0;
}

pub passed_has : {S : Type 0} (held : S → Option (List ℕ)) (k l : Keeping S) (w : State) (event : Event) (is passes : Bool) → lasts w event ≡ is
    → PassesBy is held k (due_of k (next w event)) l passes → IsHeld (held k.store) k.kept → LastsAs k.kept (saved_of k.origin w)
    → Has held l (due_of k (next w event)) × (l.origin ≡ k.origin)
passed_has held k l w event true true is p has lasted =
    let due = due_of k (next w event) in
    kept_has held k l due (is_kept Lasting k.kept due) refl (passed_changed held k l due (may_try k.pace) p) has
passed_has held k l w event true false is p has lasted =
    let due = due_of k (next w event) in
    unkept_has held k l due (withheld_unkept held k l due (may_try k.pace) p)
passed_has held k l w event false passes is p has lasted =
    let due = due_of k (next w event) in
    subst (λ (j : Keeping _). Has held j due × (j.origin ≡ k.origin)) (sym p.0)
    ((has, lasts_on k.kept due (saved_of k.origin w) (lasting_stays k.origin w event is) lasted), refl)

-- a keeper stays current at an event
pub event_current : {S : Type 0} (held : S → Option (List ℕ)) (k l : Keeping S) (w : State) (event : Event) (passes : Bool)
    → HasPassed held k w event l passes → IsCurrent held k w → IsCurrent held l (next w event)
event_current held k l w event passes p current =
    has_current held k l (next w event) (passed_has held k l w event (lasts w event) passes refl p current.text current.lasts)

held_by : {S : Type 0} (held : S → Option (List ℕ)) (k l : Keeping S) (w : State) (event : Event) (is passes : Bool)
    → PassesBy is held k (due_of k (next w event)) l passes → IsHeld (held k.store) k.kept → IsHeld (held l.store) l.kept
held_by held k l w event true true p has =
    let due = due_of k (next w event) in
    (kept_has held k l due (is_kept Lasting k.kept due) refl (passed_changed held k l due (may_try k.pace) p) has).0.0
held_by held k l w event true false p has =
    let due = due_of k (next w event) in
    (unkept_has held k l due (withheld_unkept held k l due (may_try k.pace) p)).0.0
held_by held k l w event false passes p has = subst (λ (j : Keeping _). IsHeld (held j.store) j.kept) (sym p.0) has

pub held_stays : {S : Type 0} (held : S → Option (List ℕ)) → HeldStays held
held_stays held k l w event passes p has = held_by held k l w event (lasts w event) passes p has

-- ---- in the store

up_to_date : (o : Origin) (w : State) (text : Option (List ℕ)) (s : Saved) → Holds text (state_text s)
    → lasting_of s ≡ lasting_of (saved_of o w) → IsUpToDate o w text
up_to_date o w None s holds lasting = tt
up_to_date o w (Some held) s holds lasting = (s, holds, lasting)

pub current_is_up_to_date : {S : Type 0} (held : S → Option (List ℕ)) → CurrentIsUpToDate held
current_is_up_to_date held k w s is current =
    up_to_date k.origin w (held k.store) s
    (subst (λ (r : Result Saved StoreFault). IsHeld (held k.store) r) is current.text)
    (subst (λ (r : Result Saved StoreFault). LastsAs r (saved_of k.origin w)) is current.lasts)

-- what is kept is there, if it was alike or was just kept
is_there : {S : Type 0} (held : S → Option (List ℕ)) (k l : Keeping S) (due : Saved) (is : Bool) → is_kept Lasting k.kept due ≡ is
    → KeptBy is held k due l → (s : Saved) × (l.kept ≡ Ok s)
is_there {S} held k l due true alike same = of_kept k.kept alike (ap (λ (j : Keeping S). j.kept) same)
  where
    of_kept : (kept : Result Saved StoreFault) → is_kept Lasting kept due ≡ true → l.kept ≡ kept → (s : Saved) × (l.kept ≡ Ok s)
    of_kept (Ok s) e p = (s, p)
    of_kept (Err fault) e p = absurd (true≢false (sym e))
is_there held k l due false alike kept = (due, kept.kept)

answered_by : {S : Type 0} (held : S → Option (List ℕ)) (k l : Keeping S) (w : State) (event : Event) (is : Bool) → lasts w event ≡ is → is ≡ true
    → PassesBy is held k (due_of k (next w event)) l true → IsHeld (held k.store) k.kept
    → IsUpToDate l.origin (next w event) (held l.store)
answered_by held k l w event true is so p has =
    let due = due_of k (next w event) in
    let alike = is_kept Lasting k.kept due in
    let changed = passed_changed held k l due (may_try k.pace) p in
    let then = kept_has held k l due alike refl changed has in
    let there = is_there held k l due alike refl changed in
    current_is_up_to_date held l (next w event) there.0 there.1 (has_current held k l (next w event) then)
answered_by held k l w event false is so p has = absurd (true≢false (sym so))

pub answered_is_kept : {S : Type 0} (held : S → Option (List ℕ)) → AnsweredIsKept held
answered_is_kept held k l w event p lasting has = answered_by held k l w event (lasts w event) refl lasting p has

withheld_by : {S : Type 0} (held : S → Option (List ℕ)) (k l : Keeping S) (w : State) (event : Event) (is : Bool)
    → PassesBy is held k (due_of k (next w event)) l false → (is ≡ true) × IsUnkept held k (due_of k (next w event)) l
withheld_by held k l w event true p = (refl, withheld_unkept held k l (due_of k (next w event)) (may_try k.pace) p)
withheld_by held k l w event false p = absurd (true≢false (sym p.1))

pub withheld_is_old_or_new : {S : Type 0} (held : S → Option (List ℕ)) → WithheldIsOldOrNew held
withheld_is_old_or_new held k l w event p = withheld_by held k l w event (lasts w event) p

-- ---- at each try

tried_has : {S : Type 0} (held : S → Option (List ℕ)) (k l : Keeping S) (due : Saved) (kept : Bool) → Tries held k due l kept
    → Has held l due × (l.origin ≡ k.origin)
tried_has held k l due true p = (just_kept held l due p.kept p.text, p.origin)
tried_has held k l due false p = unkept_has held k l due p.unkept

tried_by : {S : Type 0} (held : S → Option (List ℕ)) (k l : Keeping S) (w : State) (kept : Bool) → Tries held k (due_of k w) l kept
    → IsCurrent held l w
tried_by held k l w kept p = has_current held k l w (tried_has held k l (due_of k w) kept p)

pub tried_is_current : {S : Type 0} (held : S → Option (List ℕ)) → TriedIsCurrent held
tried_is_current held k l w p = tried_by held k l w p.0 p.1

pub tried_last_is_current : {S : Type 0} (held : S → Option (List ℕ)) → TriedLastIsCurrent held
tried_last_is_current held k l w p =
    current_by held k l w (saved_of k.origin w) refl (tried_has held k l (saved_of k.origin w) p.0 p.1)

stays_current : {S : Type 0} (held : S → Option (List ℕ)) (k l : Keeping S) (w : State) → l ≡ k → IsCurrent held k w → IsCurrent held l w
stays_current held k l w same current = subst (λ (j : Keeping _). IsCurrent held j w) (sym same) current

changed_current : {S : Type 0} (held : S → Option (List ℕ)) (k l : Keeping S) (w : State) (is : Bool)
    → KeptBy is held k (due_of k w) l → IsCurrent held k w → IsCurrent held l w
changed_current held k l w true same current = stays_current held k l w same current
changed_current held k l w false kept current = tried_by held k l w true kept

ticked_by : {S : Type 0} (held : S → Option (List ℕ)) (k l : Keeping S) (w : State) (is : Bool)
    → TicksBy is held k (due_of k w) l → IsCurrent held k w → IsCurrent held l w
ticked_by {S} held k l w true p current = by p.0 p.1
  where
    by : (b : Bool) → KeepsChanged AllButTicks held k (due_of k w) l b → IsCurrent held l w
    by true q = changed_current held k l w (is_kept AllButTicks k.kept (due_of k w)) q current
    by false q = tried_by held k l w false q
ticked_by {S} held k l w false same current =
    subst (λ (j : Keeping S). IsCurrent held j w) (sym same) (record { text = current.text; lasts = current.lasts })

pub ticks_keep_current : {S : Type 0} (held : S → Option (List ℕ)) → TicksKeepCurrent held
ticks_keep_current {S} held k l w p current =
    let done = ticked_by held k p.0 w (is_due k.kept k.pace w) p.1 current in
    subst (λ (j : Keeping S). IsCurrent held j w) (sym p.2) (record { text = done.text; lasts = done.lasts })

-- ---- turn by turn

turn_current : {S : Type 0} (held : S → Option (List ℕ)) (k l : Keeping S) (w : State) (turn : Turn) → GuardsTurn (HasPassed held) k w turn l
    → IsCurrent held k w → IsCurrent held l (state_from w (turn_events turn))
unfolding state_from
turn_current held k l w empty_turn p current = subst (λ (j : Keeping _). IsCurrent held j w) (sym p) current
turn_current held k l w failed_turn p current = subst (λ (j : Keeping _). IsCurrent held j w) (sym p) current
turn_current held k l w (lost_event event) p current = subst (λ (j : Keeping _). IsCurrent held j w) (sym p) current
turn_current held k l w (taken_event event tries) p current = event_current held k l w event true p current

turns_current : {S : Type 0} (held : S → Option (List ℕ)) (k l : Keeping S) (w : State) (turns : List Turn)
    → AreGuarded (HasPassed held) k w turns l → IsCurrent held k w → IsCurrent held l (state_from w (events_of turns))
unfolding AreGuarded state_from
turns_current held k l w [] p current = subst (λ (j : Keeping _). IsCurrent held j w) (sym p) current
turns_current held k l w (turn ∷ turns) p current =
    let moved = state_from w (turn_events turn) in
    let same : state_from w (events_of (turn ∷ turns)) ≡ state_from moved (events_of turns) =
    ap (state_from w) (flat_map-cons turn_events turn turns) ∙ state_along w (turn_events turn) (events_of turns) in
    subst (λ (v : State). IsCurrent held l v) (sym same)
    (turns_current held p.0 l moved turns p.2 (turn_current held k p.0 w turn p.1 current))

-- ---- at each end

went_current : {S : Type 0} (held : S → Option (List ℕ)) (before after : Moment (Keeping S)) (turns : List Turn)
    → GoOn (HasPassed held) before turns after → IsCurrent held before.guard before.scene.gateway
    → IsCurrent held after.guard after.scene.gateway
went_current held before after turns p current =
    subst (λ (v : State). IsCurrent held after.guard v) (sym p.went.gateway)
    (turns_current held before.guard after.guard before.scene.gateway turns p.guarded current)

pub pauses_keep : {S : Type 0} (held : S → Option (List ℕ)) → PausesKeep held
pauses_keep held count before after Turns unwritten p current = went_current held before after p.turns p.went current
pauses_keep held count before after Tick unwritten p current = went_current held before after (p.turns ++ taken_event event.Tick p.tries ∷ []) p.went current
pauses_keep held count before after Withheld unwritten p current =
    let then = p.then in
    subst (λ (v : State). IsCurrent held after.guard v) (sym p.last.logged.taken.gateway)
    (event_current held then.guard after.guard then.scene.gateway p.event false p.last.passes (went_current held before then p.turns p.went current))

-- the last event of a fault
fault_current : {S : Type 0} (held : S → Option (List ℕ)) (fault : ServeFault) (unwritten : List ℕ) (then after : Moment (Keeping S))
    (event : Event) → IsFaulty (HasPassed held) fault unwritten then event after → IsCurrent held then.guard then.scene.gateway
    → IsCurrent held after.guard (asked_until fault then.scene.gateway after.scene.gateway)
fault_current held serving.Log unwritten then after event p current =
    subst (λ (v : State). IsCurrent held after.guard v) (sym p.last.taken.gateway)
    (event_current held then.guard after.guard then.scene.gateway event p.guard.0 p.guard.1 current)
fault_current held serving.Memory unwritten then after event p current =
    subst (λ (j : Keeping _). IsCurrent held j then.scene.gateway) (sym p.guard) current
fault_current held serving.CountEnd unwritten then after event p current =
    subst (λ (j : Keeping _). IsCurrent held j then.scene.gateway) (sym p.guard) current

pub faults_keep : {S : Type 0} (held : S → Option (List ℕ)) → FaultsKeep held
faults_keep held count before after fault unwritten p current =
    fault_current held fault unwritten p.then after p.event p.last (went_current held before p.then p.turns p.went current)
