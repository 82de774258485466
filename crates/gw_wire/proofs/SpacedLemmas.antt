-- Between two ticks that are handed in, each socket at which something might wait was asked.
use Rattle.std.proofs.Common.{◌≡◌, ◌∙◌, ◌⊎◌, ◌+◌, ◌-◌, ◌<◌, ◌≤◌, ◌++◌, ◌∷◌, [], ℕ, Bool, true, false, true≢false, not, List, length, get_or, ap, arith, refl, sym, subst, inl, inr, Result, Ok, Err}
use Rattle.std.specs.List.{All, list_any, range_with_len}
use Rattle.std.proofs.lemmas.Bool.{and_parts, cases_lt, lt-ltb, ltb-true, or_from, or_left, or_right}
use Rattle.std.proofs.lemmas.List.{get_or-append_right, get_or_append_left, length-append}
use Rattle.std.specs.Prelude.{slice_index_or, ◌&&◌, nat_lt}
use Rattle.std.proofs.lemmas.List.Elements.{All-append, All-cons, All-from_get_or, All-get_or, All-head, All-nil, All-tail, All-weaker}
use Rattle.std.proofs.lemmas.List.Folds.{list_any_at, list_any_none}
use Rattle.std.proofs.lemmas.List.FromFn.{get_or-range_with_len, length-range_with_len}
use Rattle.gw_wire.specs.declared.sock_pair.SockPair.{SockPair}
use Rattle.gw_wire.specs.declared.watch.Watch.{Watch}
use Rattle.gw_wire.specs.declared.wire.Got.{Got}
use Rattle.gw_wire.specs.declared.wire.Got.TheVariants as got
use Rattle.gw_wire.specs.declared.wire.WireFault.{WireFault}
use Rattle.gw_wire.specs.Ports.{AllPassed, AtSocket, IsHeard, Ports, Turn, answered, got_of, idle, last_number, nothing, sockets_in_turn, sockets_of, something, tick, ticked, turn_order}
use Rattle.gw_wire.specs.Socket.{Answer, HasAnswered, IsPassed, Said, some_answer}
use Rattle.gw_wire.specs.SockPair.{socket}
use Rattle.gw_wire.specs.Watch.{HasReceived, woken}
use Rattle.gw_wire.specs.Waking.{IsWoken, holds_tick, is_held, pair_holding}
use Rattle.gw_wire.specs.Timed.{ComesNext, WatchesHear, WatchesNext, before_tick, released, unheld}
use Rattle.gw_wire.specs.Spaced.{Along, IsAsked, IsStep, TicksAreSpaced, WasAsked, more_due, next_came, watch_at, woke}

-- ---- each socket is in turn

pick : (P : Turn → Type 0) (place : ℕ) (first own : Bool) → P (record { place = place; own = first }) → P (record { place = place; own = not first })
    → P (record { place = place; own = own })
pick P place true true one two = one
pick P place true false one two = two
pick P place false true one two = two
pick P place false false one two = one

of_sockets : (P : Turn → Type 0) (own_first : List Bool) (places : List ℕ) → All P (sockets_of own_first places)
    → All (λ k. (own : Bool) → P (record { place = k; own = own })) places
of_sockets P own_first [] each = All-nil (λ k. (own : Bool) → P (record { place = k; own = own }))
of_sockets P own_first (place ∷ places) each =
    let first : Bool = get_or own_first place false in
    let one : Turn = record { place = place; own = first } in
    let two : Turn = record { place = place; own = not first } in
    let rest = sockets_of own_first places in
    let tail : All P (two ∷ rest) = All-tail P one (two ∷ rest) each in
    All-cons (λ k. (own : Bool) → P (record { place = k; own = own })) place places
    (λ own. pick P place first own (All-head P one (two ∷ rest) each) (All-head P two rest tail))
    (of_sockets P own_first places (All-tail P two rest tail))

-- each place is in the order of the turns
of_turns : (P : ℕ → Type 0) (last count k : ℕ) → All P (turn_order last count) → k < count → P k
of_turns P last count k each below =
    let xs : List ℕ = range_with_len last (count - last) in
    let ys : List ℕ = range_with_len 0 last in
    let first : length xs ≡ count - last = length-range_with_len last (count - last) in
    let second : length ys ≡ last = length-range_with_len 0 last in
    let all : length (xs ++ ys) ≡ (count - last) + last = length-append xs ys ∙ ap (λ n. n + length ys) first ∙ ap (λ n. (count - last) + n) second in
    elim (cases_lt k last) [
      | inl lower ↦
          let i : ℕ = (count - last) + k in
          let inside : i < length (xs ++ ys) = omega (arith, all, lower) in
          let over : count - last ≤ i = omega arith in
          let rest : i - (count - last) ≡ k = omega arith in
          let none : 0 + k ≡ k = omega arith in
          let is : get_or (xs ++ ys) i 0 ≡ k =
          get_or-append_right xs ys (count - last) i 0 first over ∙ ap (λ n. get_or ys n 0) rest ∙ get_or-range_with_len 0 last k 0 lower ∙ none in
          subst P is (All-get_or P (xs ++ ys) i 0 inside each)
      | inr upper ↦
          let i : ℕ = k - last in
          let inside : i < length (xs ++ ys) = omega (arith, all, upper, below) in
          let within : i < count - last = omega (arith, upper, below) in
          let some : i < length xs = omega (arith, first, within) in
          let there : last + i ≡ k = omega (arith, upper) in
          let is : get_or (xs ++ ys) i 0 ≡ k =
          get_or_append_left xs ys 0 i some ∙ get_or-range_with_len last (count - last) i 0 within ∙ there in
          subst P is (All-get_or P (xs ++ ys) i 0 inside each)
    ]

-- so what holds of all sockets in turn holds of each
of_each : {S : Type 0} (P : Turn → Type 0) (ports : Ports S) → All P (sockets_in_turn ports) → (place : ℕ) (own : Bool)
    → place < length ports.pairs → P (record { place = place; own = own })
of_each P ports each place own inside =
    of_turns (λ k. (own : Bool) → P (record { place = k; own = own })) (last_number ports.last) (length ports.pairs) place
    (of_sockets P ports.own_first (turn_order (last_number ports.last) (length ports.pairs)) each) inside own

-- ---- what one socket comes to

-- it holds the tick as before, or it was asked and holds none
abbrev GoesOn : {S : Type 0} → Watch S → Watch S → Type 0
GoesOn one two = (two.holds_tick ≡ one.holds_tick) ⊎ (IsAsked one two × (two.holds_tick ≡ false))

not_both : (x y : Bool) → (x && y) ≡ false → x ≡ true → y ≡ false
not_both true y none is = none
not_both false y none is = absurd (true≢false (sym is))

-- if no socket of any pair holds the tick, it isn't held
no_pair_holds : {S : Type 0} (pairs : List (SockPair (Watch S))) → ((d : SockPair (Watch S)) (place : ℕ) → place < length pairs → (own : Bool)
    → (socket own (get_or pairs place d)).holds_tick ≡ false) → list_any holds_tick pairs ≡ false
no_pair_holds [] each = refl
no_pair_holds (pair ∷ pairs) each =
    list_any_none holds_tick (pair ∷ pairs) (All-from_get_or (λ (p : SockPair (Watch _)). holds_tick p ≡ false) (pair ∷ pairs) pair
    (λ i inside. or_from _ _ (each pair i inside true) (each pair i inside false)))

-- and if one holds it, it is
some_holds : {S : Type 0} (pairs : List (SockPair (Watch S))) (turn : Turn) (d : SockPair (Watch S)) → turn.place < length pairs
    → (socket turn.own (get_or pairs turn.place d)).holds_tick ≡ true → list_any holds_tick pairs ≡ true
some_holds {S} pairs turn d inside held =
    list_any_at holds_tick pairs turn.place d inside (pair_holds (get_or pairs turn.place d) turn.own held)
  where
    pair_holds : (pair : SockPair (Watch S)) (own : Bool) → (socket own pair).holds_tick ≡ true → holds_tick pair ≡ true
    pair_holds pair true is = or_left pair.own.holds_tick pair.broadcast.holds_tick is
    pair_holds pair false is = or_right pair.own.holds_tick pair.broadcast.holds_tick is

-- a socket at which something may wait holds the tick
holds_at : {S : Type 0} (firsts wokens : List (SockPair (Watch S))) (turn : Turn) (d : SockPair (Watch S))
    → get_or firsts turn.place d ≡ pair_holding (get_or wokens turn.place d)
    → (socket turn.own (get_or firsts turn.place d)).holds_tick ≡ (socket turn.own (get_or firsts turn.place d)).is_awake
holds_at {S} firsts wokens turn d is = by turn.own
  where
    by : (own : Bool) → (socket own (get_or firsts turn.place d)).holds_tick ≡ (socket own (get_or firsts turn.place d)).is_awake
    by true = ap (λ (p : SockPair (Watch S)). p.own.holds_tick) is ∙ sym (ap (λ (p : SockPair (Watch S)). p.own.is_awake) is)
    by false = ap (λ (p : SockPair (Watch S)). p.broadcast.holds_tick) is ∙ sym (ap (λ (p : SockPair (Watch S)). p.broadcast.is_awake) is)

module _ {S : Type 0} (looks : S → ℕ) (empty : S → Bool) (Answered : S → S → Answer → List ℕ → Type 0) where
  passed_asked : (one two : Watch S) → IsPassed (λ watch. watch.looks) (λ watch. watch.is_empty) (HasReceived looks empty Answered) one two
      → IsAsked one two × (two.holds_tick ≡ false)
  passed_asked one two p = (p.nothing.once, p.nothing.answered.holds)

  heard_asked : (one two : Watch S) (answer : Answer) (buffer : List ℕ)
      → HasAnswered (λ watch. watch.looks) (λ watch. watch.is_empty) (HasReceived looks empty Answered) one two answer buffer
      → IsAsked one two × (two.holds_tick ≡ false)
  heard_asked one two answer buffer p = (p.once, p.answered.holds)

  abbrev Passes : List (SockPair (Watch S)) → List (SockPair (Watch S)) → Turn → Type 0
  Passes before after turn = AtSocket (IsPassed (λ watch. watch.looks) (λ watch. watch.is_empty) (HasReceived looks empty Answered)) before after turn

  -- of some sockets in turn one was heard: what each comes to
  each_heard : (before after : List (SockPair (Watch S))) (turns : List Turn) (turn : Turn) (said : Said) (buffer : List ℕ)
      → IsHeard (λ watch. watch.looks) (λ watch. watch.is_empty) (HasReceived looks empty Answered) before after turns turn said buffer
      → All (AtSocket GoesOn before after) turns
  each_heard before after turns turn said buffer p =
      let P : Turn → Type 0 = AtSocket GoesOn before after in
      subst (λ (ts : List Turn). All P ts) (sym p.order)
      (All-append P p.sooner (turn ∷ p.later)
      (All-weaker (Passes before after) P (λ t q d. inr (passed_asked _ _ (q d))) p.sooner p.passed)
      (All-cons P turn p.later (λ d. inr (heard_asked _ _ (some_answer said) buffer (p.answered d)))
      (All-weaker (AtSocket (λ one two. two ≡ one) before after) P (λ t q d. inl (ap (λ (w : Watch S). w.holds_tick) (q d))) p.later p.untouched)))

  each_passed : (before after : List (SockPair (Watch S))) (turns : List Turn)
      → AllPassed (λ watch. watch.looks) (λ watch. watch.is_empty) (HasReceived looks empty Answered) before after turns
      → All (AtSocket GoesOn before after) turns
  each_passed before after turns p =
      All-weaker (Passes before after) (AtSocket GoesOn before after) (λ t q d. inr (passed_asked _ _ (q d))) turns p

  -- what each socket comes to when they are asked
  heard_each : (before after : Ports (Watch S)) (buffer : List ℕ) (given : Result Got WireFault)
      → WatchesHear looks empty Answered before after buffer given → (turn : Turn) (d : SockPair (Watch S))
      → turn.place < length before.pairs → GoesOn (watch_at d turn before) (watch_at d turn after)
  heard_each before after buffer given (nothing count passed rest is) turn d inside =
      of_each (AtSocket GoesOn before.pairs after.pairs) before (each_passed before.pairs after.pairs (sockets_in_turn before) passed)
      turn.place turn.own inside d
  heard_each before after buffer given (something at said count heard rest is) turn d inside =
      of_each (AtSocket GoesOn before.pairs after.pairs) before
      (each_heard before.pairs after.pairs (sockets_in_turn before) at said buffer heard) turn.place turn.own inside d

  next_each : (before after : Ports (Watch S)) (buffer : List ℕ) (given : Result Got WireFault)
      → WatchesNext looks empty Answered before after buffer given → (turn : Turn) (d : SockPair (Watch S))
      → turn.place < length before.pairs → GoesOn (watch_at d turn before) (watch_at d turn after)
  next_each before after buffer given (tick due is said) turn d inside =
      inl (ap (λ (p : Ports (Watch S)). (watch_at d turn p).holds_tick) is)
  next_each before after buffer given (idle none count passed rest is) turn d inside =
      of_each (AtSocket GoesOn before.pairs after.pairs) before (each_passed before.pairs after.pairs (sockets_in_turn before) passed)
      turn.place turn.own inside d
  next_each before after buffer given (answered at said none count heard rest is) turn d inside =
      of_each (AtSocket GoesOn before.pairs after.pairs) before
      (each_heard before.pairs after.pairs (sockets_in_turn before) at said buffer heard) turn.place turn.own inside d

  -- ---- ticks that are due

  said_no_tick : (port : ℕ) (said : Said) → Ok got.Tick ≡ got_of port said → ⊥
  said_no_tick port (Ok came) is = cc
  said_no_tick port (Err fault) is = cc

  said_not_idle : (port : ℕ) (said : Said) → Ok got.Idle ≡ got_of port said → ⊥
  said_not_idle port (Ok came) is = cc
  said_not_idle port (Err fault) is = cc

  -- where one is due it comes next
  due_next : (before after : Ports (Watch S)) (buffer : List ℕ) (given : Result Got WireFault) → 1 ≤ before.ticks
      → WatchesNext looks empty Answered before after buffer given → after ≡ ticked before
  due_next before after buffer given due (tick some is said) = is
  due_next before after buffer given due (idle none count passed rest is) = absurd (omega (arith, due, none))
  due_next before after buffer given due (answered at said none count heard rest is) = absurd (omega (arith, due, none))

  tick_next : (before after : Ports (Watch S)) (buffer : List ℕ) → WatchesNext looks empty Answered before after buffer (Ok got.Tick)
      → (1 ≤ before.ticks) × (after ≡ ticked before)
  tick_next before after buffer (tick some is said) = (some, is)
  tick_next before after buffer (idle none count passed rest is) = absurd cc
  tick_next before after buffer (answered at said none count heard rest is) = absurd (said_no_tick (at.place + 1) said is)

  heard_no_tick : (before after : Ports (Watch S)) (buffer : List ℕ) → WatchesHear looks empty Answered before after buffer (Ok got.Tick) → ⊥
  heard_no_tick before after buffer (nothing count passed rest is) = absurd cc
  heard_no_tick before after buffer (something at said count heard rest is) = said_no_tick (at.place + 1) said is

  -- if nothing waits at any socket, none holds the next tick
  none_holds : (before between : Ports (Watch S)) (buffer : List ℕ) → WatchesHear looks empty Answered before between buffer (Ok got.Idle)
      → is_held between ≡ false
  none_holds before between buffer (nothing count passed rest is) =
      let P : Turn → Type 0 = AtSocket (λ one two. two.holds_tick ≡ false) before.pairs between.pairs in
      let all : All P (sockets_in_turn before) =
      All-weaker (Passes before.pairs between.pairs) P (λ t q d. (passed_asked _ _ (q d)).1) (sockets_in_turn before) passed in
      no_pair_holds between.pairs (λ d place inside own. of_each P before all place own (subst (λ n. place < n) count inside) d)
  none_holds before between buffer (something at said count heard rest is) = absurd (said_not_idle (at.place + 1) said is)

  idle_ticks : (before between : Ports (Watch S)) (buffer : List ℕ) → WatchesHear looks empty Answered before between buffer (Ok got.Idle)
      → between.ticks ≡ before.ticks
  idle_ticks before between buffer (nothing count passed rest is) = ap (λ (p : Ports (Watch S)). p.ticks) rest
  idle_ticks before between buffer (something at said count heard rest is) = absurd (said_not_idle (at.place + 1) said is)

  -- where a tick comes next, no socket holds it
  tick_released : (before after : Ports (Watch S)) (buffer : List ℕ) → ComesNext looks empty Answered before after buffer (Ok got.Tick)
      → is_held after ≡ false
  tick_released before after buffer (unheld free next) =
      let comes = tick_next before after buffer next in
      ap (λ (p : Ports (Watch S)). is_held p) comes.1 ∙ not_both (nat_lt 0 before.ticks) (is_held before) free (lt-ltb 0 before.ticks comes.0)
  tick_released before after buffer (before_tick is hear came) = absurd (heard_no_tick before after buffer hear)
  tick_released before after buffer (released between held is hear next) =
      ap (λ (p : Ports (Watch S)). is_held p) (tick_next between after buffer next).1 ∙ none_holds before between held hear

  -- ---- what each socket comes to

  heard_count : (before after : Ports (Watch S)) (buffer : List ℕ) (given : Result Got WireFault)
      → WatchesHear looks empty Answered before after buffer given → length after.pairs ≡ length before.pairs
  heard_count before after buffer given (nothing count passed rest is) = count
  heard_count before after buffer given (something at said count heard rest is) = count

  next_count : (before after : Ports (Watch S)) (buffer : List ℕ) (given : Result Got WireFault)
      → WatchesNext looks empty Answered before after buffer given → length after.pairs ≡ length before.pairs
  next_count before after buffer given (tick some is said) = ap (λ (p : Ports (Watch S)). length p.pairs) is
  next_count before after buffer given (idle none count passed rest is) = count
  next_count before after buffer given (answered at said none count heard rest is) = count

  comes_each : (before after : Ports (Watch S)) (buffer : List ℕ) (given : Result Got WireFault)
      → ComesNext looks empty Answered before after buffer given → (turn : Turn) (d : SockPair (Watch S))
      → turn.place < length before.pairs → GoesOn (watch_at d turn before) (watch_at d turn after)
  comes_each before after buffer given (unheld free next) turn d inside = next_each before after buffer given next turn d inside
  comes_each before after buffer given (before_tick is hear came) turn d inside = heard_each before after buffer given hear turn d inside
  comes_each before after buffer given (released between held is hear next) turn d inside =
      let due : 0 < before.ticks = ltb-true 0 before.ticks (and_parts (nat_lt 0 before.ticks) (is_held before) is).0 in
      let some : 1 ≤ between.ticks = omega (arith, idle_ticks before between held hear, due) in
      subst (λ (p : Ports (Watch S)). GoesOn (watch_at d turn before) (watch_at d turn p)) (sym (due_next between after buffer given some next))
      (heard_each before between held (Ok got.Idle) hear turn d inside)

  comes_count : (before after : Ports (Watch S)) (buffer : List ℕ) (given : Result Got WireFault)
      → ComesNext looks empty Answered before after buffer given → length after.pairs ≡ length before.pairs
  comes_count before after buffer given (unheld free next) = next_count before after buffer given next
  comes_count before after buffer given (before_tick is hear came) = heard_count before after buffer given hear
  comes_count before after buffer given (released between held is hear next) =
      next_count between after buffer given next ∙ heard_count before between held (Ok got.Idle) hear

  module _ {P : Type 0} (Quiet : P → ℕ → Type 0) where
    woken_holds : (Q : Type 0) (one two : Watch S) → IsWoken Q one two → two.holds_tick ≡ one.holds_tick
    woken_holds Q one two (inl is) = ap (λ (w : Watch S). w.holds_tick) is
    woken_holds Q one two (inr (quiet, is)) = ap (λ (w : Watch S). w.holds_tick) is

    step_each : (before after : Ports (Watch S)) → IsStep looks empty Answered Quiet before after → (turn : Turn) (d : SockPair (Watch S))
        → turn.place < length before.pairs → GoesOn (watch_at d turn before) (watch_at d turn after)
    step_each before after (next_came buffer given next) turn d inside = comes_each before after buffer given next turn d inside
    step_each before after (woke waiter all) turn d inside = inl (woken_holds _ _ _ (all.each turn.place inside d turn.own))
    step_each before after (more_due ticks is) turn d inside = inl (ap (λ (p : Ports (Watch S)). (watch_at d turn p).holds_tick) is)

    step_count : (before after : Ports (Watch S)) → IsStep looks empty Answered Quiet before after → length after.pairs ≡ length before.pairs
    step_count before after (next_came buffer given next) = comes_count before after buffer given next
    step_count before after (woke waiter all) = all.count
    step_count before after (more_due ticks is) = ap (λ (p : Ports (Watch S)). length p.pairs) is

    -- a socket that holds the tick was asked in one of some steps, or holds it after them
    along : (steps : List (Ports (Watch S))) (first last : Ports (Watch S)) → Along (IsStep looks empty Answered Quiet) first steps last
        → (turn : Turn) (d : SockPair (Watch S)) → turn.place < length first.pairs → (watch_at d turn first).holds_tick ≡ true
        → WasAsked d turn first steps ⊎ ((turn.place < length last.pairs) × ((watch_at d turn last).holds_tick ≡ true))
    along [] first last same turn d inside holds =
        inr (subst (λ (p : Ports (Watch S)). (turn.place < length p.pairs) × ((watch_at d turn p).holds_tick ≡ true)) (sym same) (inside, holds))
    along (next ∷ rest) first last (step, more) turn d inside holds =
        by (step_each first next step turn d inside) (λ still. along rest next last more turn d within still)
      where
        within : turn.place < length next.pairs
        within = subst (λ n. turn.place < n) (sym (step_count first next step)) inside

        later : WasAsked d turn next rest ⊎ ((turn.place < length last.pairs) × ((watch_at d turn last).holds_tick ≡ true))
            → WasAsked d turn first (next ∷ rest) ⊎ ((turn.place < length last.pairs) × ((watch_at d turn last).holds_tick ≡ true))
        later (inl asked) = inl (inr asked)
        later (inr held) = inr held

        by : GoesOn (watch_at d turn first) (watch_at d turn next)
            → ((watch_at d turn next).holds_tick ≡ true
            → WasAsked d turn next rest ⊎ ((turn.place < length last.pairs) × ((watch_at d turn last).holds_tick ≡ true)))
            → WasAsked d turn first (next ∷ rest) ⊎ ((turn.place < length last.pairs) × ((watch_at d turn last).holds_tick ≡ true))
        by (inl same) go = later (go (same ∙ holds))
        by (inr asked) go = inl (inl asked.0)

    pub ticks_are_spaced : TicksAreSpaced looks empty Answered Quiet
    ticks_are_spaced woken first last after steps buffer holding steps_there next turn d inside awake =
        by (along steps first last steps_there turn d inside (holds_at first.pairs woken.pairs turn d there ∙ awake))
      where
        there : slice_index_or first.pairs turn.place d ≡ pair_holding (slice_index_or woken.pairs turn.place d)
        there = holding.each turn.place (subst (λ n. turn.place < n) holding.count inside) d

        last_step : (turn.place < length last.pairs) → ((watch_at d turn last).holds_tick ≡ true)
            → GoesOn (watch_at d turn last) (watch_at d turn after) → IsAsked (watch_at d turn last) (watch_at d turn after)
        last_step within held (inr asked) = asked.0
        last_step within held (inl same) =
            absurd (true≢false (sym (some_holds after.pairs turn d (subst (λ n. turn.place < n) (sym (comes_count last after buffer (Ok got.Tick) next)) within)
            (same ∙ held)) ∙ tick_released last after buffer next))

        by : WasAsked d turn first steps ⊎ ((turn.place < length last.pairs) × ((watch_at d turn last).holds_tick ≡ true))
            → WasAsked d turn first steps ⊎ IsAsked (watch_at d turn last) (watch_at d turn after)
        by (inl asked) = inl asked
        by (inr held) = inr (last_step held.0 held.1 (comes_each last after buffer (Ok got.Tick) next turn d held.0))
