-- The result of a turn with a guard, by its parts; and its result if the guard lets all go.
use Rattle.std.proofs.Common.{◌≡◌, ℕ, List, [], ◌∷◌, Option, Bool, true, false, true≢false, refl, sym, ap, subst, ◌∙◌}
use Rattle.std.specs.Prelude.{Ok, Err}
use Rattle.std.specs.Io.KnownBytes.{Appends}
use Rattle.gw_script.specs.Event.{Event}
use Rattle.gw_core.specs.declared.effects.Effects.{Effects}
use Rattle.gw_core.specs.declared.gateway.Taken.{Taken}
use Rattle.gw_core.specs.State.{State}
use Rattle.gw_turns.specs.Serve.{EndsBy, LeadTo, Scene, Turn, count_fault, count_turn, counts_after, empty_turn, events_of, failed_turn, lines_of, lost_event, scene, taken_event, ticks_with, turn_events}
use Rattle.gw_turns.specs.ServeTurn.{AreTried, GuardedEnd, TurnEnd}
use Rattle.gw_core.specs.Seen.{Seen}
use Rattle.gw_rules.specs.declared.verdict.Verdict.{Verdict}
use Rattle.gw_turns.specs.Stretch.{AreGuarded, GuardsTurn, IsLoggedLast, IsPassedAt, count_taken, moment}
use Rattle.gw_core.specs.Guard.{IsSeen, IsTaken}
use Rattle.gw_turns.specs.Tally.{tally_from}
use Rattle.gw_wire.specs.Wire.{Call}
use Rattle.gw_turns.specs.declared.serving.ServeFault.{ServeFault}
use Rattle.gw_turns.specs.declared.serving.Served.{Served}
use Rattle.gw_turns.specs.declared.tally.DropTally.{DropTally}
use Rattle.gw_turns.proofs.ServeLemmas.{lead_with, single, untallied}

-- ---- one turn of a list

-- without an event the guard stays
untaken : {G : Type 0} (Passes : G → State → Event → G → Bool → Type 0) (g : G) (w : State) (turn : Turn) → turn_events turn ≡ []
    → GuardsTurn Passes g w turn g
untaken Passes g w empty_turn none = refl
untaken Passes g w failed_turn none = refl
untaken Passes g w (lost_event event) none = refl
untaken Passes g w (taken_event event tries) none = absurd cc

guards_one : {G : Type 0} (Passes : G → State → Event → G → Bool → Type 0) (g h : G) (w : State) (turn : Turn) → GuardsTurn Passes g w turn h
    → AreGuarded Passes g w (turn ∷ []) h
unfolding AreGuarded
guards_one Passes g h w turn guards = (h, guards, refl)

counted_one : (s t : Served) (turn : Turn) → t ≡ count_turn s turn → t ≡ counts_after s (turn ∷ [])
unfolding counts_after
counted_one s t turn counted = counted

one_counted : (s t : Served) (turn : Turn) → t ≡ counts_after s (turn ∷ []) → t ≡ count_turn s turn
unfolding counts_after
one_counted s t turn counted = counted

tallied_one : (w : State) (was is : DropTally) (turn : Turn) → is ≡ tally_from w was (turn_events turn) → is ≡ tally_from w was (events_of (turn ∷ []))
tallied_one w was is turn counted = counted ∙ ap (tally_from w was) (sym (single turn_events turn))

-- ---- a turn with a guard

-- no event was taken
pub guarded_without : {G : Type 0} (Passes : G → State → Event → G → Bool → Type 0) (g : G) (a m : Scene) (s t : Served) (was : DropTally)
    (turn : Turn) → turn_events turn ≡ [] → LeadTo a (turn ∷ []) m → t ≡ count_turn s turn
    → (unwritten : List ℕ) → GuardedEnd Passes (moment a g s was) (Ok true) unwritten (moment m g t was)
guarded_without Passes g a m s t was turn none went counted unwritten = (
  turn,
  record {
    went = went;
    guarded = guards_one Passes g g a.gateway turn (untaken Passes g a.gateway turn none);
    counts = counted_one s t turn counted;
    tally = tallied_one a.gateway was was turn (untallied a.gateway was ∙ ap (tally_from a.gateway was) (sym none));
  },
)

-- one was, and its datagrams were tried
pub guarded_with : {G : Type 0} (Passes : G → State → Event → G → Bool → Type 0) (g h : G) (a m : Scene) (records : Option (List Call))
    (s u : Served) (was is : DropTally) (n k : ℕ) (event : Event) (taken : Taken) → IsTaken a.gateway event m.gateway taken → IsLoggedLast a event m
    → is ≡ tally_from a.gateway was (event ∷ []) → Passes g a.gateway event h true
    → AreTried taken.effects.sends m.calls records (record (count_taken s) { ticks = ticks_with s.ticks event }) u n k
    → (unwritten : List ℕ) → GuardedEnd Passes (moment a g s was) (Ok true) unwritten (moment (scene m.gateway m.log records) h u is)
guarded_with Passes g h a m records s u was is n k event taken was_taken logged counted passes tried unwritten =
    let turn = taken_event event tried.tries in (
      turn,
      record {
        went = lead_with a (scene m.gateway m.log records) m.calls event tried.tries taken.effects was_taken.effects was_taken.counts tried.are
            was_taken.gateway
            (subst (λ (x : Effects). Appends a.log m.log (lines_of x.denials)) (sym was_taken.effects) logged.log)
            logged.taken.calls tried.calls;
        guarded = guards_one Passes g h a.gateway turn passes;
        counts = counted_one s u turn tried.counts;
        tally = tallied_one a.gateway was is turn counted;
      },
    )

-- its event ended in a fault
pub guarded_fault : {G : Type 0} (Passes : G → State → Event → G → Bool → Type 0) (g h : G) (a m : Scene) (s t : Served) (was : DropTally)
    (fault : ServeFault) (unwritten : List ℕ) (event : Event) → EndsBy fault unwritten a event m
    → IsPassedAt Passes fault g a.gateway event h → t ≡ count_fault s fault
    → GuardedEnd Passes (moment a g s was) (Err fault) unwritten (moment m h t was)
guarded_fault Passes g h a m s t was fault unwritten event last passed counted = (
  event,
  record { last = last; guard = passed; counts = counted; tally = refl },
)

-- ---- a turn without a guard

-- a guard that lets all go withholds nothing
pub unguarded : {G : Type 0} (g h : G) (a m : Scene) (s t : Served) (was is : DropTally) (unwritten : List ℕ) (passed : Bool)
    → GuardedEnd (λ _ _ _ _ passes. passes ≡ true) (moment a g s was) (Ok passed) unwritten (moment m h t is) → TurnEnd a s was m t is (Ok tt)
unguarded g h a m s t was is unwritten true p =
    let turn = p.0 in
    (turn, p.1.went, one_counted s t turn p.1.counts, p.1.tally ∙ ap (tally_from a.gateway was) (single turn_events turn))
unguarded g h a m s t was is unwritten false p = absurd (true≢false (sym p.1.passes))

-- nor is a fault another under it
pub unguarded_fault : {G : Type 0} (Passes : G → State → Event → G → Bool → Type 0) (g h : G) (a m : Scene) (s t : Served) (was is : DropTally)
    (unwritten : List ℕ) (fault : ServeFault)
    → GuardedEnd Passes (moment a g s was) (Err fault) unwritten (moment m h t is) → TurnEnd a s was m t is (Err fault)
unguarded_fault Passes g h a m s t was is unwritten fault p = (p.0, unwritten, p.1.last, p.1.counts, p.1.tally)

-- ---- what is handed to a guard

-- what was seen of the asks, as a guard is handed it
pub seen_by : (watching : Bool) (keeps : Verdict → Bool) (w : State) (event : Event) (kept handed : Option Seen) → handed ≡ kept
    → IsSeen watching keeps w event kept → IsSeen watching keeps w event handed
seen_by watching keeps w event kept handed given seen = subst (λ (o : Option Seen). IsSeen watching keeps w event o) (sym given) seen
