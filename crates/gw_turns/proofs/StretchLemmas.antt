-- The result of the turns of a stretch, one after the other.
use Rattle.std.proofs.Common.{◌≡◌, ℕ, ◌+◌, ◌<◌, ◌≤◌, List, [], ◌∷◌, ◌++◌, Bool, true, false, refl, sym, ap, subst, ◌∙◌, arith}
use Rattle.std.specs.Prelude.{Ok, Err}
use Rattle.std.proofs.lemmas.Grind.{flat_map-append}
use Rattle.std.proofs.lemmas.List.{length-append}
use Rattle.std.proofs.lemmas.List.Concat.{flat_map-cons}
use Rattle.gw_script.specs.Event.{Datagram, Event, Tick}
use Rattle.gw_core.specs.History.{next, state_from}
use Rattle.gw_core.specs.State.{State}
use Rattle.gw_turns.specs.Serve.{Try, Turn, count_turn, counts_after, empty_turn, events_of, failed_turn, lost_event, taken_event, turn_events}
use Rattle.gw_turns.specs.ServeTurn.{GuardedEnd}
use Rattle.gw_turns.specs.Stretch.{AreGuarded, EndsAtTick, EndsAtTurns, EndsFaulty, EndsWithheld, GoOn, Moment}
use Rattle.gw_turns.specs.Tally.{tally_from}
use Rattle.gw_turns.specs.declared.serving.Served.{Served}
use Rattle.gw_turns.specs.declared.serving.ServeFault.{ServeFault}
use Rattle.gw_turns.specs.declared.tally.DropTally.{DropTally}
use Rattle.gw_turns.proofs.ReportLemmas.{tally_along}
use Rattle.gw_turns.proofs.ServeLemmas.{counts_more, lead_along, lead_nowhere, single, state_along}

-- one list of guarded turns, and another from there
guarded_along : {G : Type 0} (Passes : G → State → Event → G → Bool → Type 0) (a m b : G) (w : State) (turns more : List Turn)
    → AreGuarded Passes a w turns m → AreGuarded Passes m (state_from w (events_of turns)) more b → AreGuarded Passes a w (turns ++ more) b
unfolding AreGuarded state_from
guarded_along Passes a m b w [] more p q = subst (λ g. AreGuarded Passes g w more b) p q
guarded_along Passes a m b w (turn ∷ turns) more p q =
    let moved = state_from w (turn_events turn) in
    let same : state_from w (events_of (turn ∷ turns)) ≡ state_from moved (events_of turns) =
    ap (state_from w) (flat_map-cons turn_events turn turns) ∙ state_along w (turn_events turn) (events_of turns) in
    (p.0, p.1, guarded_along Passes p.0 m b moved turns more p.2 (subst (λ (v : State). AreGuarded Passes m v more b) same q))

-- no turns lead nowhere
pub go_nowhere : {G : Type 0} (Passes : G → State → Event → G → Bool → Type 0) (a : Moment G) → GoOn Passes a [] a
unfolding AreGuarded counts_after tally_from
go_nowhere Passes a = record { went = lead_nowhere a.scene; guarded = refl; counts = refl; tally = refl }

-- one turn more
pub go_along : {G : Type 0} (Passes : G → State → Event → G → Bool → Type 0) (a m b : Moment G) (turns : List Turn) (turn : Turn)
    → GoOn Passes a turns m → GoOn Passes m (turn ∷ []) b → GoOn Passes a (turns ++ turn ∷ []) b
unfolding counts_after
go_along Passes a m b turns turn p q = record {
  went = lead_along a.scene m.scene b.scene turns (turn ∷ []) p.went q.went;
  guarded = guarded_along Passes a.guard m.guard b.guard a.scene.gateway turns (turn ∷ []) p.guarded
      (subst (λ (v : State). AreGuarded Passes m.guard v (turn ∷ []) b.guard) p.went.gateway q.guarded);
  counts = q.counts ∙ ap (λ (s : Served). count_turn s turn) p.counts ∙ sym (counts_more a.served turns turn);
  tally = q.tally
      ∙ ap (λ (v : State). tally_from v m.tally (events_of (turn ∷ []))) p.went.gateway
      ∙ ap (λ (k : DropTally). tally_from (state_from a.scene.gateway (events_of turns)) k (events_of (turn ∷ []))) p.tally
      ∙ sym (tally_along a.scene.gateway a.tally (events_of turns) (events_of (turn ∷ [])))
      ∙ ap (tally_from a.scene.gateway a.tally) (sym (flat_map-append turn_events turns (turn ∷ [])));
}

-- ---- a stretch, turn by turn

-- the ticks rise by one at most in a turn
turn_ticks : (w : State) (turn : Turn)
    → (w.ticks ≤ (state_from w (turn_events turn)).ticks) × ((state_from w (turn_events turn)).ticks ≤ w.ticks + 1)
unfolding state_from next
turn_ticks w empty_turn = (omega arith, omega arith)
turn_ticks w failed_turn = (omega arith, omega arith)
turn_ticks w (lost_event event) = (omega arith, omega arith)
turn_ticks w (taken_event (Datagram port from octets) tries) = (omega arith, omega arith)
turn_ticks w (taken_event Tick tries) = (omega arith, omega arith)

pub ticks_step : {G : Type 0} (Passes : G → State → Event → G → Bool → Type 0) (m b : Moment G) (unwritten : List ℕ)
    → GuardedEnd Passes m (Ok true) unwritten b
    → (m.scene.gateway.ticks ≤ b.scene.gateway.ticks) × (b.scene.gateway.ticks ≤ m.scene.gateway.ticks + 1)
ticks_step Passes m b unwritten last =
    let turn = last.0 in
    let w = m.scene.gateway in
    let moved : b.scene.gateway ≡ state_from w (turn_events turn) = last.1.went.gateway ∙ ap (state_from w) (single turn_events turn) in
    let rise = turn_ticks w turn in
    let same : b.scene.gateway.ticks ≡ (state_from w (turn_events turn)).ticks = ap (λ (v : State). v.ticks) moved in
    (omega (arith, rise.0, same), omega (arith, rise.1, same))

-- nothing was done yet
pub stretch_none : {G : Type 0} (Passes : G → State → Event → G → Bool → Type 0) (a : Moment G) → EndsAtTurns Passes 0 a a
stretch_none Passes a = record { turns = []; all = refl; went = go_nowhere Passes a; ticks = refl }

-- one turn more was done, and no tick was taken
pub stretch_more : {G : Type 0} (Passes : G → State → Event → G → Bool → Type 0) (n : ℕ) (a m b : Moment G) (unwritten : List ℕ)
    → EndsAtTurns Passes n a m → GuardedEnd Passes m (Ok true) unwritten b → b.scene.gateway.ticks ≡ m.scene.gateway.ticks
    → EndsAtTurns Passes (n + 1) a b
stretch_more Passes n a m b unwritten p last stays = record {
  turns = p.turns ++ last.0 ∷ [];
  all = omega (arith, p.all, length-append p.turns (last.0 ∷ []));
  went = go_along Passes a m b p.turns last.0 p.went last.1;
  ticks = stays ∙ p.ticks;
}

-- a turn by which the ticks rise takes a tick
takes_tick : (w : State) (turn : Turn) → (state_from w (turn_events turn)).ticks ≡ w.ticks + 1
    → (tries : List Try) × (turn ≡ taken_event Tick tries)
unfolding state_from next
takes_tick w empty_turn rises = absurd (omega (arith, rises))
takes_tick w failed_turn rises = absurd (omega (arith, rises))
takes_tick w (lost_event event) rises = absurd (omega (arith, rises))
takes_tick w (taken_event (Datagram port from octets) tries) rises = absurd (omega (arith, rises))
takes_tick w (taken_event Tick tries) rises = (tries, refl)

-- a tick was taken in it
pub stretch_tick : {G : Type 0} (Passes : G → State → Event → G → Bool → Type 0) (n count : ℕ) (a m b : Moment G) (unwritten : List ℕ)
    → EndsAtTurns Passes n a m → n < count → GuardedEnd Passes m (Ok true) unwritten b
    → b.scene.gateway.ticks ≡ m.scene.gateway.ticks + 1 → EndsAtTick Passes count a b
stretch_tick Passes n count a m b unwritten p left last rises =
    let turn = last.0 in
    let w = m.scene.gateway in
    let moved : b.scene.gateway ≡ state_from w (turn_events turn) = last.1.went.gateway ∙ ap (state_from w) (single turn_events turn) in
    let tick = takes_tick w turn (ap (λ (v : State). v.ticks) (sym moved) ∙ rises) in
    record {
      turns = p.turns;
      fewer = omega (arith, left, p.all);
      tries = tick.0;
      went = subst (λ (t : Turn). GoOn Passes a (p.turns ++ t ∷ []) b) tick.1 (go_along Passes a m b p.turns turn p.went last.1);
      ticks = rises ∙ ap (λ (t : ℕ). t + 1) p.ticks;
    }

-- its event was withheld
pub stretch_withheld : {G : Type 0} (Passes : G → State → Event → G → Bool → Type 0) (n count : ℕ) (a m b : Moment G) (unwritten : List ℕ)
    → EndsAtTurns Passes n a m → n < count → GuardedEnd Passes m (Ok false) unwritten b → EndsWithheld Passes count a b
stretch_withheld Passes n count a m b unwritten p left last = record {
  turns = p.turns;
  fewer = omega (arith, left, p.all);
  then = m;
  went = p.went;
  event = last.0;
  last = last.1;
}

-- its event ended in a fault
pub stretch_faulty : {G : Type 0} (Passes : G → State → Event → G → Bool → Type 0) (n count : ℕ) (a m b : Moment G) (fault : ServeFault)
    (unwritten : List ℕ)
    → EndsAtTurns Passes n a m → n < count → GuardedEnd Passes m (Err fault) unwritten b → EndsFaulty Passes count a fault unwritten b
stretch_faulty Passes n count a m b fault unwritten p left last = record {
  turns = p.turns;
  fewer = omega (arith, left, p.all);
  then = m;
  went = p.went;
  event = last.0;
  last = last.1;
}
