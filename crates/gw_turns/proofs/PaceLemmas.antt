-- How often a keeper tries its store.
use Rattle.std.proofs.Common.{◌≡◌, ◌∙◌, refl, sym, ap, subst, true≢false, ℕ, ◌+◌, ◌-◌, ◌^◌, ◌<◌, ◌≤◌, ◌⊎◌, nat_le, Bool, true, false, List, Option, inl, inr, arith}
use Rattle.std.specs.Prelude.{Result, Err}
use Rattle.std.specs.Prelude.{nat_eq, nat_lt}
use Rattle.std.proofs.lemmas.Bool.{and_parts, eqb-true, le-leb, lt-leb, lt-ltb, ltb-true}
use Rattle.gw_state.specs.Saved.{Saved}
use Rattle.gw_core.specs.History.{next}
use Rattle.gw_core.specs.Lasting.{lasts}
use Rattle.gw_core.specs.State.{State}
use Rattle.gw_turns.specs.Keeping.{EventsTryFew, FailingIsSpared, KeepsBy, KeepsChanged, Keeping, KeptBy, PassesBy, RestsAtTicks, RestsEnd}
use Rattle.gw_turns.specs.Keeping.{TicksBeginAnew, TicksBy, due_of, is_due, is_kept}
use Rattle.gw_turns.specs.Pace.{PausesGrow, is_resting, may_try, one_more, paced, pause_after, rested, ticked}
use Rattle.gw_turns.specs.declared.pace.Pace.{Pace}
use Rattle.gw_turns.specs.declared.alike.SavedPart.TheVariants.{AllButTicks, Lasting}
use Rattle.gw_wire.specs.declared.store.StoreFault.{StoreFault}

-- where it may be tried there is no rest, and there were few tries
may_few : (p : Pace) → may_try p ≡ true → p.replaces < 64
may_few p may = ltb-true p.replaces 64 (and_parts (nat_eq p.left 0) (nat_lt p.replaces 64) may).1

may_not_rest : (p : Pace) → may_try p ≡ true → is_resting p ≡ true → ⊥
may_not_rest p may resting =
    let none = eqb-true p.left 0 (and_parts (nat_eq p.left 0) (nat_lt p.replaces 64) may).0 in
    let some = ltb-true 0 p.left resting in
    omega (arith, none, some)

pub one_more_of : (n : ℕ) → n < 2 ^ 64 - 1 → one_more n ≡ n + 1
one_more_of n inside = rw (lt-ltb n (2 ^ 64 - 1) inside) refl

-- the two ways of an event: nothing was tried, or once
abbrev Few : {S : Type 0} → Keeping S → Keeping S → Type 0
Few k l = ((l.store ≡ k.store) × (l.pace.replaces ≡ k.pace.replaces)) ⊎ ((k.pace.replaces < 64) × (l.pace.replaces ≡ k.pace.replaces + 1))

few_tried : {S : Type 0} (k l : Keeping S) (kept : Bool) → may_try k.pace ≡ true → l.pace ≡ paced kept k.pace → Few k l
few_tried k l true may is = inr (may_few k.pace may, ap (λ (p : Pace). p.replaces) is ∙ one_more_of k.pace.replaces (omega (arith, may_few k.pace may)))
few_tried k l false may is = inr (may_few k.pace may, ap (λ (p : Pace). p.replaces) is ∙ one_more_of k.pace.replaces (omega (arith, may_few k.pace may)))

few_same : {S : Type 0} (k l : Keeping S) → l ≡ k → Few k l
few_same k l same = inl (ap (λ (j : Keeping _). j.store) same, ap (λ (j : Keeping _). j.pace.replaces) same)

few_kept : {S : Type 0} (held : S → Option (List ℕ)) (k l : Keeping S) (due : Saved) (is : Bool) → may_try k.pace ≡ true
    → KeptBy is held k due l → Few k l
few_kept held k l due true may same = few_same k l same
few_kept held k l due false may kept = few_tried k l true may kept.pace

few_by : {S : Type 0} (held : S → Option (List ℕ)) (k l : Keeping S) (due : Saved) (may passes : Bool) → may_try k.pace ≡ may
    → KeepsBy may held k due l passes → Few k l
few_by held k l due true true may p = few_kept held k l due (is_kept Lasting k.kept due) may p
few_by held k l due true false may p = few_tried k l false may p.pace
few_by held k l due false passes may p = inl (ap (λ (j : Keeping _). j.store) p.0, ap (λ (j : Keeping _). j.pace.replaces) p.0)

few_event : {S : Type 0} (held : S → Option (List ℕ)) (k l : Keeping S) (due : Saved) (lasting passes : Bool)
    → PassesBy lasting held k due l passes → Few k l
few_event held k l due true passes p = few_by held k l due (may_try k.pace) passes refl p
few_event held k l due false passes p = few_same k l p.0

pub events_try_few : {S : Type 0} (held : S → Option (List ℕ)) → EventsTryFew held
events_try_few held k l w event passes p = few_event held k l (due_of k (next w event)) (lasts w event) passes p

pub ticks_begin_anew : {S : Type 0} (held : S → Option (List ℕ)) → TicksBeginAnew held
ticks_begin_anew held k l w p = ap (λ (j : Keeping _). j.pace.replaces) p.2

-- while it rests
spared_by : {S : Type 0} (held : S → Option (List ℕ)) (k l : Keeping S) (due : Saved) (may passes : Bool) → may_try k.pace ≡ may
    → is_resting k.pace ≡ true → KeepsBy may held k due l passes → (l.store ≡ k.store) × (l.pace ≡ k.pace) × (passes ≡ false)
spared_by held k l due true passes may resting p = absurd (may_not_rest k.pace may resting)
spared_by held k l due false passes may resting p = (ap (λ (j : Keeping _). j.store) p.0, ap (λ (j : Keeping _). j.pace) p.0, p.1)

spared_event : {S : Type 0} (held : S → Option (List ℕ)) (k l : Keeping S) (due : Saved) (lasting passes : Bool) → lasting ≡ true
    → is_resting k.pace ≡ true → PassesBy lasting held k due l passes → (l.store ≡ k.store) × (l.pace ≡ k.pace) × (passes ≡ false)
spared_event held k l due true passes is resting p = spared_by held k l due (may_try k.pace) passes refl resting p
spared_event held k l due false passes is resting p = absurd (true≢false (sym is))

pub failing_is_spared : {S : Type 0} (held : S → Option (List ℕ)) → FailingIsSpared held
failing_is_spared held k l w event passes p lasting resting =
    spared_event held k l (due_of k (next w event)) (lasts w event) passes lasting resting p

-- at a tick
due_by : {S : Type 0} (k : Keeping S) (w : State) (fault : StoreFault) (kept : Result Saved StoreFault) → kept ≡ Err fault
    → is_due kept k.pace w ≡ is_due (Err fault) k.pace w
due_by k w fault kept is = ap (λ (r : Result Saved StoreFault). is_due r k.pace w) is

rests_by : {S : Type 0} (held : S → Option (List ℕ)) (k l : Keeping S) (due : Saved) (is : Bool) → is ≡ false → TicksBy is held k due l
    → l ≡ record k { pace = rested k.pace }
rests_by held k l due true is p = absurd (true≢false is)
rests_by held k l due false is p = p

not_yet : (left : ℕ) → 1 < left → nat_le left 1 ≡ false
not_yet left more = lt-leb left 1 more

yet : (left : ℕ) → left ≤ 1 → nat_le left 1 ≡ true
yet left few = le-leb left 1 few

pub rests_at_ticks : {S : Type 0} (held : S → Option (List ℕ)) → RestsAtTicks held
rests_at_ticks {S} held k l w fault p failed more =
    let is = due_by k w fault k.kept failed ∙ not_yet k.pace.left more in
    let done = rests_by held k p.0 (due_of k w) (is_due k.kept k.pace w) is p.1 in
    let left : l.pace.left ≡ k.pace.left - 1 = ap (λ (j : Keeping S). j.pace.left) p.2 ∙ ap (λ (j : Keeping S). j.pace.left) done in (
      ap (λ (j : Keeping S). j.store) p.2 ∙ ap (λ (j : Keeping S). j.store) done,
      ap (λ (j : Keeping S). j.kept) p.2 ∙ ap (λ (j : Keeping S). j.kept) done,
      omega (arith, left, more),
    )

tried_pace : {S : Type 0} (held : S → Option (List ℕ)) (k l : Keeping S) (due : Saved) (same kept : Bool) → is_kept AllButTicks k.kept due ≡ same
    → same ≡ false → KeepsChanged AllButTicks held k due l kept → (is : Bool) × (l.pace ≡ paced is k.pace)
tried_pace {S} held k l due same true is not_same p =
    (true, (subst (λ (b : Bool). KeptBy b held k due l) (is ∙ not_same) p).pace)
tried_pace held k l due same false is not_same p = (false, p.pace)

ends_by : {S : Type 0} (held : S → Option (List ℕ)) (k l : Keeping S) (due : Saved) (fault : StoreFault) (is : Bool) → is ≡ true
    → k.kept ≡ Err fault → TicksBy is held k due l → (kept : Bool) × (l.pace ≡ paced kept k.pace)
ends_by held k l due fault true is failed p =
    let never = ap (λ (r : Result Saved StoreFault). is_kept AllButTicks r due) failed in
    tried_pace held k l due (is_kept AllButTicks k.kept due) p.0 refl never p.1
ends_by held k l due fault false is failed p = absurd (true≢false (sym is))

pub rests_end : {S : Type 0} (held : S → Option (List ℕ)) → RestsEnd held
rests_end {S} held k l w fault p failed few =
    let is = due_by k w fault k.kept failed ∙ yet k.pace.left few in
    let done = ends_by held k p.0 (due_of k w) fault (is_due k.kept k.pace w) is failed p.1 in
    (done.0, ap (λ (j : Keeping S). j.pace) p.2 ∙ ap ticked done.1)

pub pauses_grow : PausesGrow
unfolding pause_after
pauses_grow = refl
