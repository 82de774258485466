-- A history goes on by one event, and a list of events is history_after one after the other.
use Rattle.std.proofs.Common.{◌≡◌, ℕ, suc, ◌+◌, ◌-◌, ◌<◌, ◌≤◌, List, [], ◌∷◌, ◌++◌, length, get_or, take, drop, Option, Some, None, true, refl, sym, ap, ◌∙◌, arith, add_assoc, add-zero, append_assoc}
use Rattle.std.specs.Prelude.{map, slice_get, IsErrAnd, IsErrOf, Result, Ok, Err}
use Rattle.gw_core.specs.declared.fault.StepFault.{StepFault}
use Rattle.std.specs.Option.{option_map}
use Rattle.std.proofs.lemmas.List.{take_at, length-map}
use Rattle.std.proofs.Math.Seq.{take-length}
use Rattle.gw_addr.specs.declared.bip.BipAddr.{BipAddr}
use Rattle.gw_core.specs.declared.effects.Effects.{Effects}
use Rattle.gw_core.specs.declared.event.Counts.{Counts}
use Rattle.gw_script.specs.declared.event.Event.{Event as LentEvent}
use Rattle.gw_script.specs.Event.{Event, Datagram, Tick, event_view}
use Rattle.gw_configuration.specs.Configuration.{Configuration}
use Rattle.gw_objects.specs.Objects.{Database, database_of}
use Rattle.gw_objects.specs.Write.{Write}
use Rattle.gw_configuration.specs.declared.port.Port.{Port}
use Rattle.gw_relay.specs.declared.change.Change.{Change}
use Rattle.gw_relay.specs.Initial.{initial, port_states_from}
use Rattle.gw_relay.specs.internal.Ticks.{AreAlike}
use Rattle.gw_relay.proofs.Places.{length_after}
use Rattle.gw_relay.proofs.Ticks.{after_alike, initial_alike, later_alike}
use Rattle.gw_relay.specs.State.{Move, Relay, later, port_later, moved, moved_by}
use Rattle.gw_relay.specs.State as move
use Rattle.gw_core.specs.Denials.{denials_at}
use Rattle.gw_core.specs.Effects.{change_at, changed, effects_at, move_at, passes_end, relay_change_for, ticks_of}
use Rattle.gw_core.specs.History.{acts_of, state_after, with_granted, with_move, written, next, IsStateAfter, run_after, run_from, state_from, history_after, StopsAtEnd}
use Rattle.gw_core.specs.Receive.{receive}
use Rattle.gw_core.specs.State.{State}

abbrev counted : Configuration → Relay → Database → ℕ → ℕ → State
counted c relay device ticks denials = record {
  relay = relay;
  device = device;
  rules = c.rules;
  ticks = ticks;
  denials = denials;
}

-- a granted write changes the device that those before it left
written_more : (granted : Option Write) (writes : List Write) (d : Database)
    → written (with_granted granted writes) d ≡ changed granted (written writes d)
unfolding written
written_more None writes d = refl
written_more (Some write) writes d = refl

-- a move changes the relay that those before it left
moved_more : (m : Option Move) (moves : List Move) (relay : Relay) → moved_by (with_move m moves) relay ≡ moved m (moved_by moves relay)
unfolding moved_by
moved_more None moves relay = refl
moved_more (Some m) moves relay = refl

-- the state after one event more is the next state
pub state_next : (c : Configuration) (k : Counts) (h : List Event) (e : Event) → state_after c k (e ∷ h) ≡ next (state_after c k h) e
unfolding acts_of next
state_next c k h e =
    let w = state_after c k h in
    let acts = acts_of c k h in
    let denied = length (denials_at w e) in
    let ticks = k.ticks + (acts.ticks + ticks_of e) in
    let denials = k.denials + (acts.denials + denied) in
    ap (λ (r : Relay). counted c r (written (with_granted (change_at w e) acts.writes) (database_of c)) ticks denials)
    (moved_more (move_at w e) acts.moves (initial c))
    ∙ ap (λ (d : Database). counted c (moved (move_at w e) w.relay) d ticks denials)
    (written_more (change_at w e) acts.writes (database_of c))
    ∙ ap (λ (t : ℕ). counted c (moved (move_at w e) w.relay) (changed (change_at w e) w.device) t denials)
    (sym (add_assoc k.ticks acts.ticks (ticks_of e)))
    ∙ ap (λ (d : ℕ). counted c (moved (move_at w e) w.relay) (changed (change_at w e) w.device) (k.ticks + acts.ticks + ticks_of e) d)
    (sym (add_assoc k.denials acts.denials denied))

-- the next state of the state after a history is that after one event more
pub after_next : (w v : State) (c : Configuration) (k : Counts) (h : List Event) (e : Event) → v ≡ next w e → IsStateAfter w c k h
    → IsStateAfter v c k (e ∷ h)
after_next w v c k h e goes after = goes ∙ ap (λ (x : State). next x e) after ∙ sym (state_next c k h e)

-- a fresh gateway is in the state after the empty history
pub after_none : (c : Configuration) (k : Counts) (relay : Relay) (device : Database) → relay ≡ initial c → device ≡ database_of c
    → IsStateAfter (counted c relay device k.ticks k.denials) c k []
unfolding acts_of written moved_by
after_none c k relay device starts is =
    ap (λ (r : Relay). counted c r device k.ticks k.denials) starts
    ∙ ap (λ (d : Database). counted c (initial c) d k.ticks k.denials) is
    ∙ ap (λ (t : ℕ). counted c (initial c) (database_of c) t k.denials) (sym (add-zero k.ticks))
    ∙ ap (λ (d : ℕ). counted c (initial c) (database_of c) (k.ticks + 0) d) (sym (add-zero k.denials))

-- a state with other parts
abbrev at : State → Relay → Database → ℕ → ℕ → State
at w relay device ticks denials = record w { relay = relay; device = device; ticks = ticks; denials = denials }

-- a datagram moves on the relay and the device, by its change and its write, and the number of denials
pub moves_on : (w v : State) (port : ℕ) (from : BipAddr) (octets : List ℕ) (m : Option Move) (change : Option Write) (n : ℕ)
    → v ≡ record w { relay = moved m w.relay; device = changed change w.device; denials = w.denials + n }
    → m ≡ move_at w (Datagram port from octets) → change ≡ change_at w (Datagram port from octets)
    → n ≡ length (denials_at w (Datagram port from octets))
    → v ≡ next w (Datagram port from octets)
unfolding next
moves_on w v port from octets m change n is moves granted counted =
    is
    ∙ ap (λ (t : ℕ). at w (moved m w.relay) (changed change w.device) t (w.denials + n)) (sym (add-zero w.ticks))
    ∙ ap (λ (d : ℕ). at w (moved m w.relay) (changed change w.device) (w.ticks + 0) (w.denials + d)) counted
    ∙ ap (λ (g : Option Write). at w (moved m w.relay) (changed g w.device) (w.ticks + 0)
    (w.denials + length (denials_at w (Datagram port from octets)))) granted
    ∙ ap (λ (x : Option Move). at w (moved x w.relay) (changed (change_at w (Datagram port from octets)) w.device) (w.ticks + 0)
    (w.denials + length (denials_at w (Datagram port from octets)))) moves

-- a tick moves on the relay by a tick, and the count of ticks
pub moves_ticks : (w : State) → record w { relay = later w.relay; ticks = w.ticks + 1 } ≡ next w Tick
unfolding next denials_at change_at move_at receive
moves_ticks w = ap (λ (d : ℕ). record w { relay = later w.relay; ticks = w.ticks + 1; denials = d }) (sym (add-zero w.denials))

-- ---- a list of events, one after the other

pub state_from-append : (w : State) (l : List Event) (e : Event) → state_from w (l ++ e ∷ []) ≡ next (state_from w l) e
unfolding state_from
state_from-append w [] e = refl
state_from-append w (d ∷ l) e = state_from-append (next w d) l e

-- how far a list of events has come: these are done, and those are left
pub record RunProgress (first w : State) (all rest : List Event) (given : List Effects) : Type 0 where
  pub done : List Event
  pub parts : all ≡ done ++ rest
  pub state : w ≡ state_from first done
  pub wording : given ++ run_from w rest ≡ run_from first all

pub run_begins : (w : State) (all : List Event) (given : List Effects) → given ≡ [] → RunProgress w w all all given
unfolding state_from
run_begins w all given none = record {
  done = [];
  parts = refl;
  state = refl;
  wording = ap (λ (g : List Effects). g ++ run_from w all) none;
}

pub run_goes_on : (first w v : State) (all rest later : List Event) (given more : List Effects) (e : Event) (x : Effects)
    → RunProgress first w all rest given → rest ≡ e ∷ later → v ≡ next w e → x ≡ effects_at w e → more ≡ given ++ x ∷ []
    → RunProgress first v all later more
unfolding run_from
run_goes_on first w v all rest others given more e x p split goes does pushed = record {
  done = p.done ++ e ∷ [];
  parts = p.parts ∙ ap (λ (l : List Event). p.done ++ l) split ∙ sym (append_assoc p.done (e ∷ []) others);
  state = goes ∙ ap (λ (s : State). next s e) p.state ∙ sym (state_from-append first p.done e);
  wording = ap (λ (g : List Effects). g ++ run_from v others) pushed
      ∙ append_assoc given (x ∷ []) (run_from v others)
      ∙ ap (λ (s : State). given ++ x ∷ run_from s others) goes
      ∙ ap (λ (y : Effects). given ++ y ∷ run_from (next w e) others) does
      ∙ ap (λ (l : List Event). given ++ run_from w l) (sym split)
      ∙ p.wording;
}

-- the events that are done are the first ones
pub first_events : (all done rest : List Event) → all ≡ done ++ rest → take (length done) all ≡ done
first_events all done rest parts = ap (take (length done)) parts ∙ take_at done rest (length done) refl

-- the event after those that are done
pub next_event : (done : List Event) (e : Event) (later : List Event) → slice_get (done ++ e ∷ later) (length done) ≡ Some e
next_event [] e later = refl
next_event (d ∷ done) e later = next_event done e later

fault_is : {T : Type 0} (fault other : StepFault) → IsErrOf {T = T} {E = StepFault} (Err fault) other → fault ≡ other
fault_is fault other e = cc

-- a fault that is passed on
pub fault_of_call : {T : Type 0} (result : Result T StepFault) (fault other : StepFault) → IsErrAnd result (λ e. e ≡ fault)
    → IsErrOf result other → fault ≡ other
fault_of_call (Ok given) fault other is wording = absurd is
fault_of_call {T} (Err known) fault other is wording = sym is ∙ fault_is {T = T} known other wording

-- where the next event would pass the end of a count
pub run_stops : (first w v : State) (all rest later : List Event) (given : List Effects) (e : Event) → RunProgress first w all rest given
    → rest ≡ e ∷ later → v ≡ w → passes_end w e ≡ true → StopsAtEnd first all v
run_stops first w v all rest later given e p split same passes = record {
  count = length p.done;
  event = e;
  took = same ∙ p.state ∙ ap (state_from first) (sym (first_events all p.done rest p.parts));
  next_is = ap (λ (l : List Event). slice_get l (length p.done)) (p.parts ∙ ap (λ (l : List Event). p.done ++ l) split)
      ∙ next_event p.done e later;
  passes = ap (λ (s : State). passes_end s e) same ∙ passes;
}

-- the first of some events that are lent, and the later ones
pub first_split : (events : List LentEvent) (d : LentEvent) → 1 ≤ length events
    → map event_view events ≡ event_view (get_or events 0 d) ∷ map event_view (take (length events - 1) (drop 1 events))
first_split [] d some = absurd (omega arith)
first_split (x ∷ xs) d some =
    let len : length (x ∷ xs) - 1 ≡ length xs = omega arith in
    ap (λ (l : List LentEvent). event_view x ∷ map event_view l) (sym (ap (λ (n : ℕ). take n xs) len ∙ take-length xs))

-- no events are left where there is not one
pub none_left : (events : List LentEvent) → length events < 1 → map event_view events ≡ []
none_left [] none = refl
none_left (x ∷ xs) none = absurd (omega arith)

-- ---- from a state, and after a history

-- a list of events moves on the state after a history to that after a longer one
pub state_from-after : (c : Configuration) (k : Counts) (h l : List Event)
    → state_from (state_after c k h) l ≡ state_after c k (history_after h l)
unfolding state_from history_after
state_from-after c k h [] = refl
state_from-after c k h (e ∷ l) = ap (λ (x : State). state_from x l) (sym (state_next c k h e)) ∙ state_from-after c k (e ∷ h) l

-- what events do from the state after a history is what they do after it
pub run_from-after : (c : Configuration) (k : Counts) (h l : List Event) → run_from (state_after c k h) l ≡ run_after c k h l
unfolding run_from run_after
run_from-after c k h [] = refl
run_from-after c k h (e ∷ l) =
    let given = effects_at (state_after c k h) e in
    ap (λ (x : State). given ∷ run_from x l) (sym (state_next c k h e))
    ∙ ap (λ (x : List Effects). given ∷ x) (run_from-after c k (e ∷ h) l)

-- one event more after a history
pub history_more : (h l : List Event) (e : Event) → history_after h (l ++ e ∷ []) ≡ e ∷ history_after h l
unfolding history_after
history_more h [] e = refl
history_more h (d ∷ l) e = history_more (d ∷ h) l e

-- ---- the states

-- a move leaves the number of ports
pub length_moved : (m : Option Move) (relay : Relay) → length (moved m relay).ports ≡ length relay.ports
length_moved None relay = refl
length_moved (Some (move.Commit change)) relay = length_after change relay.ports
length_moved (Some move.Tick) relay = length-map relay.ports port_later

length_by : (moves : List Move) (relay : Relay) → length (moved_by moves relay).ports ≡ length relay.ports
unfolding moved_by
length_by [] relay = refl
length_by (m ∷ moves) relay = length_moved (Some m) (moved_by moves relay) ∙ length_by moves relay

pub length_from : (number : ℕ) (ports : List Port) → length (port_states_from number ports) ≡ length ports
length_from number [] = refl
length_from number (p ∷ ports) = ap suc (length_from (number + 1) ports)

-- so each configured port has its state, whatever came
pub ports_stay : (c : Configuration) (k : Counts) (h : List Event) → length (state_after c k h).relay.ports ≡ length c.ports
ports_stay c k h = length_by (acts_of c k h).moves (initial c) ∙ length_from 1 c.ports

-- a change is no tick
pub same_ticks : (change : Option Change) (relay : Relay) → (moved (option_map move.Commit change) relay).ticks ≡ relay.ticks
same_ticks None relay = refl
same_ticks (Some change) relay = refl

-- the relay's ticks are those of the history
ticks_moved : (c : Configuration) (k : Counts) (h : List Event) → (state_after c k h).relay.ticks ≡ (acts_of c k h).ticks
unfolding acts_of moved_by move_at receive
ticks_moved c k [] = refl
ticks_moved c k (Datagram port from octets ∷ h) =
    let w = state_after c k h in
    let e = Datagram port from octets in
    ap (λ (r : Relay). r.ticks) (moved_more (move_at w e) (acts_of c k h).moves (initial c))
    ∙ same_ticks (relay_change_for w.rules w.relay (receive w e)) w.relay ∙ ticks_moved c k h ∙ sym (add-zero (acts_of c k h).ticks)
ticks_moved c k (Tick ∷ h) = ap (λ (n : ℕ). n + 1) (ticks_moved c k h)

pub relay_ticks : (c : Configuration) (k : Counts) (h : List Event) → (state_after c k h).relay.ticks ≡ (acts_of c k h).ticks
relay_ticks = ticks_moved

-- all tables have seen the same ticks
alike_moved : (m : Option Move) (relay : Relay) → AreAlike relay.ticks relay.ports → AreAlike (moved m relay).ticks (moved m relay).ports
alike_moved None relay alike = alike
alike_moved (Some (move.Commit change)) relay alike = after_alike change relay.ticks relay.ports alike
alike_moved (Some move.Tick) relay alike = later_alike relay.ticks relay.ports alike

alike_by : (moves : List Move) (relay : Relay) → AreAlike relay.ticks relay.ports
    → AreAlike (moved_by moves relay).ticks (moved_by moves relay).ports
unfolding moved_by
alike_by [] relay alike = alike
alike_by (m ∷ moves) relay alike = alike_moved (Some m) (moved_by moves relay) (alike_by moves relay alike)

pub ports_alike : (c : Configuration) (k : Counts) (h : List Event)
    → AreAlike (state_after c k h).relay.ticks (state_after c k h).relay.ports
ports_alike c k h = alike_by (acts_of c k h).moves (initial c) (initial_alike 1 c.ports)

-- whether networks are announced is as it is configured, whatever comes
announce_moved : (m : Option Move) (relay : Relay) → (moved m relay).announce ≡ relay.announce
announce_moved None relay = refl
announce_moved (Some (move.Commit change)) relay = refl
announce_moved (Some move.Tick) relay = refl

announce_by : (moves : List Move) (relay : Relay) → (moved_by moves relay).announce ≡ relay.announce
unfolding moved_by
announce_by [] relay = refl
announce_by (m ∷ moves) relay = announce_moved (Some m) (moved_by moves relay) ∙ announce_by moves relay

pub announce_after : (c : Configuration) (k : Counts) (h : List Event) → (state_after c k h).relay.announce ≡ c.announce
announce_after c k h = announce_by (acts_of c k h).moves (initial c)

pub announce_next : (w : State) (e : Event) → (next w e).relay.announce ≡ w.relay.announce
unfolding next
announce_next w e = announce_moved (move_at w e) w.relay

pub announce_stays : (w : State) (l : List Event) → (state_from w l).relay.announce ≡ w.relay.announce
unfolding state_from
announce_stays w [] = refl
announce_stays w (e ∷ l) = announce_stays (next w e) l ∙ announce_next w e
