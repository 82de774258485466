-- The result of the turns of serving, in the words of the wire's calls.
use Rattle.std.proofs.Common.{◌≡◌, ◌∙◌, refl, sym, ap, ap₂, ℕ, ◌+◌, arith, add-zero, append_assoc, Bool, true, false, cond, List, [], ◌∷◌, ◌++◌, map, length, Some, None}
use Rattle.std.specs.Prelude.{if◌then◌else◌, count_by}
use Rattle.std.specs.List.{flat_map}
use Rattle.std.proofs.lemmas.List.{append-nil, length-append, length-map}
use Rattle.std.proofs.lemmas.List.Sums.{sum_by-append, sum_by-cons}
use Rattle.std.proofs.lemmas.List.Concat.{flat_map-cons}
use Rattle.std.proofs.lemmas.Grind.{flat_map-append}
use Rattle.gw_script.specs.Event.{Event}
use Rattle.gw_relay.specs.Sends.{Sending}
use Rattle.gw_core.specs.declared.effects.Effects.{Effects}
use Rattle.gw_turns.specs.declared.serving.Served.{Served}
use Rattle.gw_turns.specs.declared.serving.ServeFault.{ServeFault}
use Rattle.gw_turns.specs.declared.serving.ServeFault.TheVariants.{Log, Memory, CountEnd}
use Rattle.gw_core.specs.Effects.{effects_at}
use Rattle.gw_core.specs.History.{next, run_from, state_from}
use Rattle.gw_core.specs.Marked.{kept}
use Rattle.gw_turns.specs.Serve.{AreTurns, EndsAtCount, EndsBy, IsTakenLast, IsTurn, LeadTo, Scene, Try, Turn, calls_of, count_fault, count_turn, counts_after, counts_of, empty_turn, events_of, failed_turn, failures, lost_event, successes, taken_event, try_call, turn_calls, turn_events, zero_counts}
use Rattle.gw_turns.specs.Served.{IsServed, StopsAreServed, TurnsAreServed, answered, at_count_end, but_last, event_in, handed_in, is_departure, is_failed_receive, is_receive, tried, tried_by}
use Rattle.gw_core.specs.State.{State}
use Rattle.gw_wire.specs.Wire.{Call, arrival, departure, empty_receive, failed_receive, failed_send}
use Rattle.gw_core.proofs.HistoryLemmas.{state_from-append}
use Rattle.gw_turns.proofs.ServeLemmas.{run_along, tells_more, tries_counted}

-- ---- tries

no_event : (b : Bool) (s : Sending) → event_in (if b then departure s else failed_send s) ≡ []
no_event true s = refl
no_event false s = refl

one_tried : (b : Bool) (s : Sending) → tried_by (if b then departure s else failed_send s) ≡ s ∷ []
one_tried true s = refl
one_tried false s = refl

no_receive : (b : Bool) (s : Sending) → is_receive (if b then departure s else failed_send s) ≡ false
no_receive true s = refl
no_receive false s = refl

no_failed : (b : Bool) (s : Sending) → is_failed_receive (if b then departure s else failed_send s) ≡ false
no_failed true s = refl
no_failed false s = refl

departs : (b : Bool) (s : Sending) → is_departure (if b then departure s else failed_send s) ≡ b
departs true s = refl
departs false s = refl

tries_events : (tries : List Try) → handed_in (map try_call tries) ≡ []
tries_events [] = refl
tries_events (t ∷ tries) =
    flat_map-cons event_in (try_call t) (map try_call tries)
    ∙ ap₂ (λ (l k : List Event). l ++ k) (no_event t.success t.sending) (tries_events tries)

tries_sent : (tries : List Try) → tried (map try_call tries) ≡ map (λ t. t.sending) tries
tries_sent [] = refl
tries_sent (t ∷ tries) =
    flat_map-cons tried_by (try_call t) (map try_call tries)
    ∙ ap₂ (λ (l k : List Sending). l ++ k) (one_tried t.success t.sending) (tries_sent tries)

counted_tries : (p : Call → Bool) (q : Try → Bool) → ((t : Try) → p (try_call t) ≡ q t) → (tries : List Try)
    → count_by p (map try_call tries) ≡ count_by q tries
counted_tries p q same [] = refl
counted_tries p q same (t ∷ tries) =
    sum_by-cons (λ (x : Call). cond (p x) 1 0) (try_call t) (map try_call tries)
    ∙ ap₂ (λ (n m : ℕ). n + m) (ap (λ (b : Bool). cond b 1 0) (same t)) (counted_tries p q same tries)
    ∙ sym (sum_by-cons (λ (x : Try). cond (q x) 1 0) t tries)

none_counted : (tries : List Try) → count_by (λ (t : Try). false) tries ≡ 0
none_counted [] = refl
none_counted (t ∷ tries) = omega (arith, sum_by-cons (λ (x : Try). 0) t tries, none_counted tries)

-- ---- the calls of a turn

one_call : (p : Call → Bool) (c : Call) (calls : List Call) → count_by p (c ∷ calls) ≡ cond (p c) 1 0 + count_by p calls
one_call p c calls = sum_by-cons (λ (x : Call). cond (p x) 1 0) c calls

receives : (turn : Turn) → count_by is_receive (turn_calls turn) ≡ 1
receives empty_turn = one_call is_receive empty_receive []
receives failed_turn = one_call is_receive failed_receive []
receives (lost_event event) = one_call is_receive (arrival event) []
receives (taken_event event tries) =
    one_call is_receive (arrival event) (map try_call tries)
    ∙ ap (λ (n : ℕ). 1 + n) (counted_tries is_receive (λ t. false) (λ t. no_receive t.success t.sending) tries ∙ none_counted tries)

failed : Turn → ℕ
failed empty_turn = 0
failed failed_turn = 1
failed (lost_event event) = 0
failed (taken_event event tries) = 0

failed_receives : (turn : Turn) → count_by is_failed_receive (turn_calls turn) ≡ failed turn
unfolding failed
failed_receives empty_turn = one_call is_failed_receive empty_receive []
failed_receives failed_turn = one_call is_failed_receive failed_receive []
failed_receives (lost_event event) = one_call is_failed_receive (arrival event) []
failed_receives (taken_event event tries) =
    one_call is_failed_receive (arrival event) (map try_call tries)
    ∙ ap (λ (n : ℕ). 0 + n) (counted_tries is_failed_receive (λ t. false) (λ t. no_failed t.success t.sending) tries ∙ none_counted tries)

tries_of : Turn → List Try
tries_of empty_turn = []
tries_of failed_turn = []
tries_of (lost_event event) = []
tries_of (taken_event event tries) = tries

departures : (turn : Turn) → count_by is_departure (turn_calls turn) ≡ successes (tries_of turn)
unfolding tries_of
departures empty_turn = one_call is_departure empty_receive []
departures failed_turn = one_call is_departure failed_receive []
departures (lost_event event) = one_call is_departure (arrival event) []
departures (taken_event event tries) =
    let rest = counted_tries is_departure (λ t. t.success) (λ t. departs t.success t.sending) tries in
    omega (arith, one_call is_departure (arrival event) (map try_call tries), rest)

sent_in : (turn : Turn) → tried (turn_calls turn) ≡ map (λ t. t.sending) (tries_of turn)
unfolding tries_of
sent_in empty_turn = flat_map-cons tried_by empty_receive []
sent_in failed_turn = flat_map-cons tried_by failed_receive []
sent_in (lost_event event) = flat_map-cons tried_by (arrival event) []
sent_in (taken_event event tries) = flat_map-cons tried_by (arrival event) (map try_call tries) ∙ tries_sent tries

arrivals : Turn → List Event
arrivals empty_turn = []
arrivals failed_turn = []
arrivals (lost_event event) = event ∷ []
arrivals (taken_event event tries) = event ∷ []

arrived_in : (turn : Turn) → handed_in (turn_calls turn) ≡ arrivals turn
unfolding arrivals
arrived_in empty_turn = flat_map-cons event_in empty_receive []
arrived_in failed_turn = flat_map-cons event_in failed_receive []
arrived_in (lost_event event) = flat_map-cons event_in (arrival event) []
arrived_in (taken_event event tries) =
    flat_map-cons event_in (arrival event) (map try_call tries) ∙ ap (λ (l : List Event). event ∷ l) (tries_events tries)

-- ---- the calls of turns

of_turn : {A : Type 0} (f : Call → List A) (turn : Turn) (turns : List Turn)
    → flat_map f (calls_of (turn ∷ turns)) ≡ flat_map f (turn_calls turn) ++ flat_map f (calls_of turns)
of_turn f turn turns = ap (flat_map f) (flat_map-cons turn_calls turn turns) ∙ flat_map-append f (turn_calls turn) (calls_of turns)

count_of_turn : (p : Call → Bool) (turn : Turn) (turns : List Turn)
    → count_by p (calls_of (turn ∷ turns)) ≡ count_by p (turn_calls turn) + count_by p (calls_of turns)
count_of_turn p turn turns =
    ap (count_by p) (flat_map-cons turn_calls turn turns) ∙ sum_by-append (λ (x : Call). cond (p x) 1 0) (turn_calls turn) (calls_of turns)

arrived : (turn : Turn) (turns : List Turn) → handed_in (calls_of (turn ∷ turns)) ≡ arrivals turn ++ handed_in (calls_of turns)
arrived turn turns = of_turn event_in turn turns ∙ ap (λ (l : List Event). l ++ handed_in (calls_of turns)) (arrived_in turn)

-- a count that goes on turn by turn as what it counts
along : (f : Served → ℕ) (g : List Turn → ℕ) → g [] ≡ 0 → ((s : Served) (turn : Turn) (turns : List Turn)
    → f (count_turn s turn) + g turns ≡ f s + g (turn ∷ turns)) → (s : Served) (turns : List Turn) → f (counts_after s turns) ≡ f s + g turns
unfolding counts_after
along f g none step s [] = sym (add-zero (f s)) ∙ ap (λ (n : ℕ). f s + n) (sym none)
along f g none step s (turn ∷ turns) = along f g none step (count_turn s turn) turns ∙ step s turn turns

turn_more : (s : Served) (turn : Turn) → (count_turn s turn).turns ≡ s.turns + 1
turn_more s empty_turn = refl
turn_more s failed_turn = refl
turn_more s (lost_event event) = refl
turn_more s (taken_event event tries) = refl

turns_are : (s : Served) (turns : List Turn) → (counts_after s turns).turns ≡ s.turns + count_by is_receive (calls_of turns)
turns_are = along (λ s. s.turns) (λ turns. count_by is_receive (calls_of turns)) refl
    (λ s turn turns. omega (arith, turn_more s turn, count_of_turn is_receive turn turns, receives turn))

lengths_are : (s : Served) (turns : List Turn) → (counts_after s turns).turns ≡ s.turns + length turns
lengths_are = along (λ s. s.turns) length refl (λ s turn turns. omega (arith, turn_more s turn))

failed_more : (s : Served) (turn : Turn) → (count_turn s turn).recv_failures ≡ s.recv_failures + failed turn
unfolding failed
failed_more s empty_turn = sym (add-zero s.recv_failures)
failed_more s failed_turn = refl
failed_more s (lost_event event) = sym (add-zero s.recv_failures)
failed_more s (taken_event event tries) = sym (add-zero s.recv_failures)

failures_are : (s : Served) (turns : List Turn)
    → (counts_after s turns).recv_failures ≡ s.recv_failures + count_by is_failed_receive (calls_of turns)
failures_are = along (λ s. s.recv_failures) (λ turns. count_by is_failed_receive (calls_of turns)) refl
    (λ s turn turns. omega (arith, failed_more s turn, count_of_turn is_failed_receive turn turns, failed_receives turn))

sends_more : (s : Served) (turn : Turn) → (count_turn s turn).sends ≡ s.sends + successes (tries_of turn)
unfolding tries_of
sends_more s empty_turn = sym (add-zero s.sends)
sends_more s failed_turn = sym (add-zero s.sends)
sends_more s (lost_event event) = sym (add-zero s.sends)
sends_more s (taken_event event tries) = refl

sends_are : (s : Served) (turns : List Turn) → (counts_after s turns).sends ≡ s.sends + count_by is_departure (calls_of turns)
sends_are = along (λ s. s.sends) (λ turns. count_by is_departure (calls_of turns)) refl
    (λ s turn turns. omega (arith, sends_more s turn, count_of_turn is_departure turn turns, departures turn))

failed_sends_more : (s : Served) (turn : Turn) → (count_turn s turn).send_failures ≡ s.send_failures + failures (tries_of turn)
unfolding tries_of
failed_sends_more s empty_turn = sym (add-zero s.send_failures)
failed_sends_more s failed_turn = sym (add-zero s.send_failures)
failed_sends_more s (lost_event event) = sym (add-zero s.send_failures)
failed_sends_more s (taken_event event tries) = refl

tries_are : (s : Served) (turns : List Turn)
    → (counts_after s turns).sends + (counts_after s turns).send_failures ≡ s.sends + s.send_failures + length (tried (calls_of turns))
tries_are = along (λ s. s.sends + s.send_failures) (λ turns. length (tried (calls_of turns))) refl (λ s turn turns.
    let all = ap length (of_turn tried_by turn turns) in
    let both = length-append (tried (turn_calls turn)) (tried (calls_of turns)) in
    let these = ap length (sent_in turn) in
    let each = length-map (tries_of turn) (λ (t : Try). t.sending) in
    omega (arith, sends_more s turn, failed_sends_more s turn, tries_counted (tries_of turn), all, both, these, each))

taken_more : (s : Served) (turn : Turn) → (count_turn s turn).taken ≡ s.taken + length (turn_events turn)
taken_more s empty_turn = sym (add-zero s.taken)
taken_more s failed_turn = sym (add-zero s.taken)
taken_more s (lost_event event) = sym (add-zero s.taken)
taken_more s (taken_event event tries) = refl

taken_are : (s : Served) (turns : List Turn) → (counts_after s turns).taken ≡ s.taken + length (events_of turns)
taken_are = along (λ s. s.taken) (λ turns. length (events_of turns)) refl (λ s turn turns.
    let all = ap length (flat_map-cons turn_events turn turns) in
    let both = length-append (turn_events turn) (events_of turns) in
    omega (arith, taken_more s turn, all, both))

arrived_more : (s : Served) (turn : Turn)
    → (count_turn s turn).taken + (count_turn s turn).memory_drops ≡ s.taken + s.memory_drops + length (arrivals turn)
unfolding arrivals
arrived_more s empty_turn = sym (add-zero (s.taken + s.memory_drops))
arrived_more s failed_turn = sym (add-zero (s.taken + s.memory_drops))
arrived_more s (lost_event event) = omega arith
arrived_more s (taken_event event tries) = omega arith

arrived_are : (s : Served) (turns : List Turn)
    → (counts_after s turns).taken + (counts_after s turns).memory_drops ≡ s.taken + s.memory_drops + length (handed_in (calls_of turns))
arrived_are = along (λ s. s.taken + s.memory_drops) (λ turns. length (handed_in (calls_of turns))) refl (λ s turn turns.
    let all = ap length (arrived turn turns) in
    let both = length-append (arrivals turn) (handed_in (calls_of turns)) in
    omega (arith, arrived_more s turn, all, both))

-- ---- which events were taken

marks_in : Turn → List Bool
marks_in empty_turn = []
marks_in failed_turn = []
marks_in (lost_event event) = true ∷ []
marks_in (taken_event event tries) = false ∷ []

marks_of : List Turn → List Bool
marks_of [] = []
marks_of (turn ∷ turns) = marks_in turn ++ marks_of turns

kept_more : (turn : Turn) (marks : List Bool) (l : List Event) → kept (marks_in turn ++ marks) (arrivals turn ++ l) ≡ turn_events turn ++ kept marks l
unfolding marks_in arrivals
kept_more empty_turn marks l = refl
kept_more failed_turn marks l = refl
kept_more (lost_event event) marks l = refl
kept_more (taken_event event tries) marks l = refl

kept_along : (turns : List Turn) (marks : List Bool) (l : List Event)
    → kept (marks_of turns ++ marks) (handed_in (calls_of turns) ++ l) ≡ events_of turns ++ kept marks l
unfolding marks_of
kept_along [] marks l = refl
kept_along (turn ∷ turns) marks l =
    ap (λ (all : List Event). kept (marks_in turn ++ marks_of turns ++ marks) (all ++ l)) (arrived turn turns)
    ∙ ap₂ (λ (m : List Bool) (all : List Event). kept m all) (append_assoc (marks_in turn) (marks_of turns) marks)
    (append_assoc (arrivals turn) (handed_in (calls_of turns)) l)
    ∙ kept_more turn (marks_of turns ++ marks) (handed_in (calls_of turns) ++ l)
    ∙ ap (λ (all : List Event). turn_events turn ++ all) (kept_along turns marks l)
    ∙ sym (append_assoc (turn_events turn) (events_of turns) (kept marks l))
    ∙ ap (λ (all : List Event). all ++ kept marks l) (sym (flat_map-cons turn_events turn turns))

kept_events : (turns : List Turn) → kept (marks_of turns) (handed_in (calls_of turns)) ≡ events_of turns
kept_events turns =
    ap₂ (λ (m : List Bool) (all : List Event). kept m all) (sym (append-nil (marks_of turns))) (sym (append-nil (handed_in (calls_of turns))))
    ∙ kept_along turns [] [] ∙ append-nil (events_of turns)

-- ---- what was sent

abbrev pub sends_in : List Effects → List Sending
sends_in run = flat_map (λ (x : Effects). x.sends) run

sent_one : (w : State) (turn : Turn) → IsTurn w turn → tried (turn_calls turn) ≡ sends_in (run_from w (turn_events turn))
unfolding run_from tries_of
sent_one w empty_turn is = sent_in empty_turn
sent_one w failed_turn is = sent_in failed_turn
sent_one w (lost_event event) is = sent_in (lost_event event)
sent_one w (taken_event event tries) is =
    sent_in (taken_event event tries) ∙ is.1
    ∙ sym (flat_map-cons (λ (x : Effects). x.sends) (effects_at w event) [] ∙ append-nil (effects_at w event).sends)

pub sent_run : (w : State) (turns : List Turn) → AreTurns w turns → tried (calls_of turns) ≡ sends_in (run_from w (events_of turns))
unfolding AreTurns run_from
sent_run w [] are = refl
sent_run w (turn ∷ turns) are =
    let moved = state_from w (turn_events turn) in
    of_turn tried_by turn turns
    ∙ ap₂ (λ (l k : List Sending). l ++ k) (sent_one w turn are.0) (sent_run moved turns are.1)
    ∙ sym (flat_map-append (λ (x : Effects). x.sends) (run_from w (turn_events turn)) (run_from moved (events_of turns)))
    ∙ ap sends_in (sym (run_along w (turn_events turn) (events_of turns)))
    ∙ ap (λ (l : List Event). sends_in (run_from w l)) (sym (flat_map-cons turn_events turn turns))

-- ---- all turns

done : (before after : Scene) (turns : List Turn) (served : Served) → LeadTo before turns after → served ≡ counts_of turns
    → IsServed before served None after
done before after turns served went counts =
    let taken = kept_events turns in
    let count = λ (f : Served → ℕ). ap f counts in
    record {
      calls = calls_of turns;
      lost = marks_of turns;
      recorded = went.calls;
      gateway = went.gateway ∙ ap (state_from before.gateway) (sym taken);
      taken = omega (arith, count (λ s. s.taken), taken_are zero_counts turns, ap length taken);
      all = omega (arith, count (λ s. s.taken), count (λ s. s.memory_drops), arrived_are zero_counts turns);
      turns = omega (arith, count (λ s. s.turns), turns_are zero_counts turns);
      recv_failures = omega (arith, count (λ s. s.recv_failures), failures_are zero_counts turns);
      sends = omega (arith, count (λ s. s.sends), sends_are zero_counts turns);
      tries = omega (arith, count (λ s. s.sends), count (λ s. s.send_failures), tries_are zero_counts turns);
      tried = sent_run before.gateway turns went.each ∙ ap (λ (l : List Event). sends_in (run_from before.gateway l)) (sym taken);
    }

pub turns_are_served : TurnsAreServed
turns_are_served count before served after p = record {
  done = done before after p.turns served p.went p.counts;
  turns = omega (arith, p.all, ap (λ (s : Served). s.turns) p.counts, lengths_are zero_counts p.turns);
}

-- ---- the last event of a stop

-- the calls with one arrival more
abbrev pub with_arrival : List Turn → Event → List Call
with_arrival turns event = calls_of turns ++ arrival event ∷ []

handed_more : (turns : List Turn) (event : Event) → handed_in (with_arrival turns event) ≡ handed_in (calls_of turns) ++ event ∷ []
handed_more turns event =
    flat_map-append event_in (calls_of turns) (arrival event ∷ [])
    ∙ ap (λ (l : List Event). handed_in (calls_of turns) ++ l) (flat_map-cons event_in (arrival event) [])

pub tried_no_more : (turns : List Turn) (event : Event) → tried (with_arrival turns event) ≡ tried (calls_of turns)
tried_no_more turns event =
    flat_map-append tried_by (calls_of turns) (arrival event ∷ [])
    ∙ ap (λ (l : List Sending). tried (calls_of turns) ++ l) (flat_map-cons tried_by (arrival event) [])
    ∙ append-nil (tried (calls_of turns))

count_more : (p : Call → Bool) (turns : List Turn) (event : Event)
    → count_by p (with_arrival turns event) ≡ count_by p (calls_of turns) + cond (p (arrival event)) 1 0
count_more p turns event =
    sum_by-append (λ (x : Call). cond (p x) 1 0) (calls_of turns) (arrival event ∷ [])
    ∙ ap (λ (n : ℕ). count_by p (calls_of turns) + n) (one_call p (arrival event) [] ∙ add-zero (cond (p (arrival event)) 1 0))

kept_last : (turns : List Turn) (event : Event) (mark : Bool)
    → kept (marks_of turns ++ mark ∷ []) (handed_in (with_arrival turns event)) ≡ events_of turns ++ kept (mark ∷ []) (event ∷ [])
kept_last turns event mark =
    ap (kept (marks_of turns ++ mark ∷ [])) (handed_more turns event) ∙ kept_along turns (mark ∷ []) (event ∷ [])

all_but_last : (l : List Event) (event : Event) → but_last (l ++ event ∷ []) ≡ l
all_but_last [] event = refl
all_but_last (e ∷ []) event = refl
all_but_last (e ∷ d ∷ l) event = ap (λ (more : List Event). e ∷ more) (all_but_last (d ∷ l) event)

-- it was taken, and nothing of it was tried
ends_taken : (before moment after : Scene) (turns : List Turn) (event : Event) (served : Served) (fault : ServeFault)
    → LeadTo before turns moment → IsTakenLast moment event after
    → served ≡ record (counts_of turns) { turns = (counts_of turns).turns + 1; taken = (counts_of turns).taken + 1 }
    → ((l : List Event) → answered (Some fault) l ≡ but_last l) → at_count_end (Some fault) ≡ 0
    → IsServed before served (Some fault) after
ends_taken before moment after turns event served fault went last counts but none =
    let taken = kept_last turns event false in
    let count = λ (f : Served → ℕ). ap f counts in
    let handed = ap length (handed_more turns event) in
    let one = length-append (handed_in (calls_of turns)) (event ∷ []) in
    let each = length-append (events_of turns) (event ∷ []) in
    record {
      calls = with_arrival turns event;
      lost = marks_of turns ++ false ∷ [];
      recorded = tells_more before.calls moment.calls after.calls (calls_of turns) (arrival event ∷ []) went.calls last.calls;
      gateway = last.gateway ∙ ap (λ (w : State). next w event) went.gateway
          ∙ sym (state_from-append before.gateway (events_of turns) event) ∙ ap (state_from before.gateway) (sym taken);
      taken = omega (arith, count (λ s. s.taken), taken_are zero_counts turns, ap length taken, each);
      all = omega (arith, none, count (λ s. s.taken), count (λ s. s.memory_drops), arrived_are zero_counts turns, handed, one);
      turns = omega (arith, count (λ s. s.turns), turns_are zero_counts turns, count_more is_receive turns event);
      recv_failures = omega (arith, count (λ s. s.recv_failures), failures_are zero_counts turns, count_more is_failed_receive turns event);
      sends = omega (arith, count (λ s. s.sends), sends_are zero_counts turns, count_more is_departure turns event);
      tries = omega (arith, count (λ s. s.sends), count (λ s. s.send_failures), tries_are zero_counts turns, ap length (tried_no_more turns event));
      tried = tried_no_more turns event ∙ sent_run before.gateway turns went.each
          ∙ ap (λ (l : List Event). sends_in (run_from before.gateway l))
          (sym (all_but_last (events_of turns) event) ∙ ap (λ (l : List Event). but_last l) (sym taken) ∙ sym (but _));
    }

-- or it would have passed the end of a count
ends_at_count : (before moment after : Scene) (turns : List Turn) (event : Event) (served : Served)
    → LeadTo before turns moment → EndsAtCount moment event after → served ≡ count_fault (counts_of turns) CountEnd
    → IsServed before served (Some CountEnd) after
ends_at_count before moment after turns event served went last counts =
    let taken = kept_last turns event true ∙ append-nil (events_of turns) in
    let count = λ (f : Served → ℕ). ap f counts in
    let handed = ap length (handed_more turns event) in
    let one = length-append (handed_in (calls_of turns)) (event ∷ []) in
    record {
      calls = with_arrival turns event;
      lost = marks_of turns ++ true ∷ [];
      recorded = tells_more before.calls moment.calls after.calls (calls_of turns) (arrival event ∷ []) went.calls last.calls;
      gateway = last.gateway ∙ went.gateway ∙ ap (state_from before.gateway) (sym taken);
      taken = omega (arith, count (λ s. s.taken), taken_are zero_counts turns, ap length taken);
      all = omega (arith, count (λ s. s.taken), count (λ s. s.memory_drops), arrived_are zero_counts turns, handed, one);
      turns = omega (arith, count (λ s. s.turns), turns_are zero_counts turns, count_more is_receive turns event);
      recv_failures = omega (arith, count (λ s. s.recv_failures), failures_are zero_counts turns, count_more is_failed_receive turns event);
      sends = omega (arith, count (λ s. s.sends), sends_are zero_counts turns, count_more is_departure turns event);
      tries = omega (arith, count (λ s. s.sends), count (λ s. s.send_failures), tries_are zero_counts turns, ap length (tried_no_more turns event));
      tried = tried_no_more turns event ∙ sent_run before.gateway turns went.each
          ∙ ap (λ (l : List Event). sends_in (run_from before.gateway l)) (sym taken);
    }

ended : (fault : ServeFault) (unwritten : List ℕ) (before moment after : Scene) (turns : List Turn) (event : Event) (served : Served)
    → LeadTo before turns moment → EndsBy fault unwritten moment event after → served ≡ count_fault (counts_of turns) fault
    → IsServed before served (Some fault) after
ended Log unwritten before moment after turns event served went last counts =
    ends_taken before moment after turns event served Log went last.taken counts (λ l. refl) refl
ended Memory unwritten before moment after turns event served went last counts =
    ends_taken before moment after turns event served Memory went last.taken counts (λ l. refl) refl
ended CountEnd unwritten before moment after turns event served went last counts =
    ends_at_count before moment after turns event served went last counts

-- one turn more
fault_turns : (s : Served) (fault : ServeFault) → (count_fault s fault).turns ≡ s.turns + 1
fault_turns s Log = refl
fault_turns s Memory = refl
fault_turns s CountEnd = refl

pub stops_are_served : StopsAreServed
stops_are_served count before stop after p = record {
  done = ended stop.fault p.unwritten before p.moment after p.turns p.event stop.served p.went p.last p.counts;
  turns = omega (arith, p.fewer, ap (λ (s : Served). s.turns) p.counts, fault_turns (counts_of p.turns) stop.fault, lengths_are zero_counts p.turns);
}
