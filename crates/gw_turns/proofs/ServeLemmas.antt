-- Turns one after the other, and the result of one turn.
use Rattle.std.proofs.Common.{◌≡◌, ℕ, ◌+◌, ◌-◌, ◌*◌, ◌^◌, ◌<◌, ◌≤◌, List, [], ◌∷◌, ◌++◌, length, map, Option, Some, None, Bool, true}
use Rattle.std.proofs.Common.{false, not, cond, refl, sym, ap, ap₂, subst, ◌∙◌, append_assoc, add_assoc, add-zero, arith, inl, inr}
use Rattle.std.specs.Prelude.{Result, Ok, Err}
use Rattle.std.specs.Result.{is_ok}
use Rattle.std.specs.declared.alloc.AllocError.{AllocError}
use Rattle.std.specs.List.{flat_map}
use Rattle.std.specs.Option.{option_map}
use Rattle.std.specs.Io.KnownBytes.{Appends}
use Rattle.std.proofs.KnownBytes.{Appends-nil, Appends-trans}
use Rattle.std.proofs.lemmas.List.{append-nil, length-append, length-map, map-append}
use Rattle.std.proofs.lemmas.List.Sums.{sum_by-append, sum_by-cons}
use Rattle.std.proofs.lemmas.List.Concat.{flat_map-cons}
use Rattle.std.proofs.lemmas.Grind.{flat_map-append}
use Rattle.gw_audit.specs.Line.{line_text}
use Rattle.gw_script.specs.declared.event.Event.{Event as LentEvent}
use Rattle.gw_script.specs.Event.{Event, event_view}
use Rattle.gw_core.specs.declared.effects.Effects.{Effects}
use Rattle.gw_relay.specs.Sends.{Sending}
use Rattle.gw_audit.specs.declared.denial.Denial.{Denial}
use Rattle.gw_rules.specs.declared.operation.Operation.TheVariants as operations
use Rattle.gw_core.specs.Drops.{drop_at}
use Rattle.gw_turns.specs.Ports.{sent_at}
use Rattle.gw_turns.specs.Tally.{IsBelow, culprit_of, denies, is_malformed, is_no_peer, is_own_network, no_tally, number_if, tally_at}
use Rattle.gw_turns.specs.Tally.{tally_from, tally_with}
use Rattle.gw_core.specs.declared.drops.DropReason.{DropReason}
use Rattle.gw_turns.specs.declared.ports.PortSends.{PortSends}
use Rattle.gw_turns.specs.declared.tally.Culprit.{Culprit}
use Rattle.gw_turns.specs.declared.tally.DropTally.{DropTally}
use Rattle.gw_turns.specs.declared.serving.Served.{Served}
use Rattle.gw_turns.specs.declared.serving.ServeFault.{ServeFault}
use Rattle.gw_core.specs.Effects.{effects_at, passes_end}
use Rattle.gw_core.specs.History.{next, run_from, state_from, log as denials_of_run}
use Rattle.gw_turns.specs.Serve.{AreRefused, AreTurns, EndsAtLog, EndsAtMemory, IsTakenLast, IsTurn, Scene, ServesAll, Stops, Try, Turn, LeadTo, count_fault}
use Rattle.gw_turns.specs.Serve.{count_turn, counts_after, turn_events, events_of, failures, lines_of, log_of, zero_counts, successes}
use Rattle.gw_turns.specs.Serve.{empty_turn, failed_turn, lost_event, ports_after, taken_event, try_call, turn_calls}
use Rattle.gw_turns.specs.ServeTurn.{AreTried, HasRoom, LogEnd, TurnEnd, counted_send, event_answer}
use Rattle.gw_turns.specs.Stretch.{wire_counts}
use Rattle.gw_core.specs.State.{State}
use Rattle.gw_wire.specs.Wire.{Call, Records, arrival, arrival_of, failures_of, receive_call, send_call}
use Rattle.gw_wire.specs.declared.wire.WireFault.{WireFault}

-- ---- what a wire reports

pub tells_none : (recorded : Option (List Call)) → Records recorded recorded []
tells_none None = refl
tells_none (Some recorded) = sym (append-nil recorded)

pub tells_more : (a b c : Option (List Call)) (calls more : List Call) → Records a b calls → Records b c more → Records a c (calls ++ more)
tells_more None None c calls more p q = q
tells_more None (Some y) c calls more p q = absurd cc
tells_more (Some x) None None calls more p q = tt
tells_more (Some x) None (Some z) calls more p q = absurd cc
tells_more (Some x) (Some y) None calls more p q = tt
tells_more (Some x) (Some y) (Some z) calls more p q = q ∙ ap (λ (l : List Call). l ++ more) p ∙ append_assoc x calls more

-- ---- events, one list after the other

pub state_along : (w : State) (l m : List Event) → state_from w (l ++ m) ≡ state_from (state_from w l) m
unfolding state_from
state_along w [] m = refl
state_along w (e ∷ l) m = state_along (next w e) l m

pub run_along : (w : State) (l m : List Event) → run_from w (l ++ m) ≡ run_from w l ++ run_from (state_from w l) m
unfolding run_from state_from
run_along w [] m = refl
run_along w (e ∷ l) m = ap (λ (r : List Effects). effects_at w e ∷ r) (run_along (next w e) l m)

pub log_along : (r s : List Effects) → log_of (r ++ s) ≡ log_of r ++ log_of s
log_along r s = ap lines_of (flat_map-append (λ x. x.denials) r s) ∙ flat_map-append line_text (denials_of_run r) (denials_of_run s)

-- ---- turns, one list after the other

pub single : {A : Type 0} (f : Turn → List A) (turn : Turn) → flat_map f (turn ∷ []) ≡ f turn
single f turn = flat_map-cons f turn [] ∙ append-nil (f turn)

are_along : (w : State) (turns more : List Turn) → AreTurns w turns → AreTurns (state_from w (events_of turns)) more
    → AreTurns w (turns ++ more)
unfolding AreTurns state_from
are_along w [] more p q = q
are_along w (turn ∷ turns) more p q =
    let moved = state_from w (turn_events turn) in
    let same : state_from w (events_of (turn ∷ turns)) ≡ state_from moved (events_of turns) =
    ap (state_from w) (flat_map-cons turn_events turn turns) ∙ state_along w (turn_events turn) (events_of turns) in
    (p.0, are_along moved turns more p.1 (subst (λ (v : State). AreTurns v more) same q))

-- the counts of one turn more
pub counts_more : (s : Served) (turns : List Turn) (turn : Turn)
    → counts_after s (turns ++ turn ∷ []) ≡ count_turn (counts_after s turns) turn
unfolding counts_after
counts_more s [] turn = refl
counts_more s (t ∷ turns) turn = counts_more (count_turn s t) turns turn

-- what one list of turns leads to, and another from there
pub lead_along : (a m b : Scene) (turns more : List Turn) → LeadTo a turns m → LeadTo m more b → LeadTo a (turns ++ more) b
lead_along a m b turns more p q =
    let first = events_of turns in
    let later = events_of more in
    let both : events_of (turns ++ more) ≡ first ++ later = flat_map-append turn_events turns more in
    let runs : log_of (run_from a.gateway first) ++ log_of (run_from m.gateway later)
    ≡ log_of (run_from a.gateway (events_of (turns ++ more))) =
    sym (log_along (run_from a.gateway first) (run_from m.gateway later))
    ∙ ap (λ (w : State). log_of (run_from a.gateway first ++ run_from w later)) p.gateway
    ∙ ap log_of (sym (run_along a.gateway first later))
    ∙ ap (λ (l : List Event). log_of (run_from a.gateway l)) (sym both) in
    record {
      each = are_along a.gateway turns more p.each (subst (λ (w : State). AreTurns w more) p.gateway q.each);
      gateway = q.gateway ∙ ap (λ (w : State). state_from w later) p.gateway ∙ sym (state_along a.gateway first later)
          ∙ ap (state_from a.gateway) (sym both);
      log = subst (Appends a.log b.log) runs (Appends-trans a.log m.log b.log _ _ p.log q.log);
      calls = subst (Records a.calls b.calls) (sym (flat_map-append turn_calls turns more))
          (tells_more a.calls m.calls b.calls _ _ p.calls q.calls);
    }

-- no turns lead nowhere
pub lead_nowhere : (a : Scene) → LeadTo a [] a
unfolding AreTurns state_from run_from
lead_nowhere a = record {
  each = tt;
  gateway = refl;
  log = Appends-nil a.log;
  calls = tells_none a.calls;
}

-- ---- one turn

lead_by_one : (a b : Scene) (turn : Turn) → IsTurn a.gateway turn → b.gateway ≡ state_from a.gateway (turn_events turn)
    → Appends a.log b.log (log_of (run_from a.gateway (turn_events turn)))
    → Records a.calls b.calls (turn_calls turn) → LeadTo a (turn ∷ []) b
unfolding AreTurns
lead_by_one a b turn is moved logged recorded = record {
  each = (is, tt);
  gateway = moved ∙ ap (state_from a.gateway) (sym (single turn_events turn));
  log = subst (λ (l : List Event). Appends a.log b.log (log_of (run_from a.gateway l))) (sym (single turn_events turn)) logged;
  calls = subst (Records a.calls b.calls) (sym (single turn_calls turn)) recorded;
}

-- a turn in which no event is taken
pub lead_without : (a b : Scene) (turn : Turn) → turn_events turn ≡ [] → IsTurn a.gateway turn → b.gateway ≡ a.gateway → b.log ≡ a.log
    → Records a.calls b.calls (turn_calls turn) → LeadTo a (turn ∷ []) b
unfolding state_from run_from
lead_without a b turn none is stays held recorded =
    lead_by_one a b turn is
    (stays ∙ ap (state_from a.gateway) (sym none))
    (subst (λ (l : List Event). Appends a.log b.log (log_of (run_from a.gateway l))) (sym none)
    (subst (λ (o : Option (List ℕ)). Appends a.log o []) (sym held) (Appends-nil a.log)))
    recorded

-- a turn in which one is
pub lead_with : (a b : Scene) (between : Option (List Call)) (event : Event) (tries : List Try) (x : Effects)
    → x ≡ effects_at a.gateway event → passes_end a.gateway event ≡ false
    → map (λ t. t.sending) tries ≡ x.sends → b.gateway ≡ next a.gateway event → Appends a.log b.log (lines_of x.denials)
    → Records a.calls between (arrival event ∷ []) → Records between b.calls (map try_call tries) → LeadTo a (taken_event event tries ∷ []) b
unfolding state_from run_from
lead_with a b between event tries x does counts are moved logged came_in went_out =
    let one : log_of (effects_at a.gateway event ∷ []) ≡ lines_of x.denials =
    ap lines_of (flat_map-cons (λ y. y.denials) (effects_at a.gateway event) [] ∙ append-nil (effects_at a.gateway event).denials)
    ∙ ap (λ (y : Effects). lines_of y.denials) (sym does) in
    lead_by_one a b (taken_event event tries)
    (counts, are ∙ ap (λ (y : Effects). y.sends) does)
    moved
    (subst (Appends a.log b.log) (sym one) logged)
    (tells_more a.calls between b.calls (arrival event ∷ []) (map try_call tries) came_in went_out)

-- ---- sends

one_way : (b : Bool) → cond b 1 0 + cond (not b) 1 0 ≡ 1
one_way true = refl
one_way false = refl

same_counts : (s : Served) → s ≡ record s { sends = s.sends + 0; send_failures = s.send_failures + 0 }
same_counts s = ap (λ (x : ℕ). record s { sends = x }) (sym (add-zero s.sends))
    ∙ ap (λ (x : ℕ). record s { sends = s.sends + 0; send_failures = x }) (sym (add-zero s.send_failures))

-- each try succeeded or failed
pub tries_counted : (tries : List Try) → successes tries + failures tries ≡ length tries
tries_counted [] = refl
tries_counted (t ∷ tries) =
    let first : cond t.success 1 0 + cond (not t.success) 1 0 ≡ 1 = one_way t.success in
    let won = sum_by-cons (λ (x : Try). cond x.success 1 0) t tries in
    let lost = sum_by-cons (λ (x : Try). cond (not x.success) 1 0) t tries in
    omega (arith, first, tries_counted tries, won, lost)

-- the ports after tries one after the other
ports_along : (ports : List PortSends) (ticks : ℕ) (first later : List Try)
    → ports_after (ports_after ports ticks first) ticks later ≡ ports_after ports ticks (first ++ later)
unfolding ports_after
ports_along ports ticks [] later = refl
ports_along ports ticks (t ∷ first) later = ports_along (sent_at ports t.sending.port ticks t.success) ticks first later

-- the call that a send was is that of a try
pub as_try : (r : Result Unit WireFault) (s : Sending) → send_call r s ≡ try_call (record { sending = s; success = is_ok r })
as_try (Ok done) s = refl
as_try (Err fault) s = refl

pub failed_once : (r : Result Unit WireFault) → failures_of r ≡ cond (not (is_ok r)) 1 0
failed_once (Ok done) = refl
failed_once (Err fault) = refl

-- no datagram was tried yet
pub none_tried : (recorded : Option (List Call)) (s : Served) (n : ℕ) → AreTried [] recorded recorded s s n n
unfolding ports_after
none_tried recorded s n = record {
  tries = [];
  are = refl;
  calls = tells_none recorded;
  counts = same_counts s;
  failed = sym (add-zero n);
}

-- one datagram was tried
pub tried_one : (recorded records : Option (List Call)) (s t : Served) (n m : ℕ) (sending : Sending) (success : Bool)
    → Records recorded records (try_call (record { sending = sending; success = success }) ∷ [])
    → t ≡ counted_send s sending.port success
    → m ≡ n + cond (not success) 1 0 → AreTried (sending ∷ []) recorded records s t n m
unfolding ports_after
tried_one recorded records s t n m sending success call counted rose =
    let one : Try = record { sending = sending; success = success } in
    let wins = cond success 1 0 in
    let losses = cond (not success) 1 0 in
    let ports = sent_at s.ports sending.port s.ticks success in
    let won : wins ≡ successes (one ∷ []) = sym (sum_by-cons (λ (x : Try). cond x.success 1 0) one [] ∙ add-zero wins) in
    let lost : losses ≡ failures (one ∷ []) = sym (sum_by-cons (λ (x : Try). cond (not x.success) 1 0) one [] ∙ add-zero losses) in
    record {
      tries = one ∷ [];
      are = refl;
      calls = call;
      counts = counted
          ∙ ap (λ (x : ℕ). record s { sends = s.sends + x; send_failures = s.send_failures + losses; ports = ports }) won
          ∙ ap (λ (x : ℕ). record s { sends = s.sends + successes (one ∷ []); send_failures = s.send_failures + x; ports = ports }) lost;
      failed = rose ∙ ap (λ (x : ℕ). n + x) lost;
    }

-- some were tried, and then others
pub tried_along : (sendings more : List Sending) (recorded between records : Option (List Call)) (s t u : Served) (n m o : ℕ)
    → AreTried sendings recorded between s t n m → AreTried more between records t u m o → AreTried (sendings ++ more) recorded records s u n o
tried_along sendings more recorded between records s t u n m o p q =
    let tries = p.tries ++ q.tries in
    let won : successes p.tries + successes q.tries ≡ successes tries = sym (sum_by-append (λ (x : Try). cond x.success 1 0) p.tries q.tries) in
    let lost : failures p.tries + failures q.tries ≡ failures tries =
    sym (sum_by-append (λ (x : Try). cond (not x.success) 1 0) p.tries q.tries) in
    let sends : s.sends + successes p.tries + successes q.tries ≡ s.sends + successes tries =
    add_assoc s.sends (successes p.tries) (successes q.tries) ∙ ap (λ (x : ℕ). s.sends + x) won in
    let failed_sends : s.send_failures + failures p.tries + failures q.tries ≡ s.send_failures + failures tries =
    add_assoc s.send_failures (failures p.tries) (failures q.tries) ∙ ap (λ (x : ℕ). s.send_failures + x) lost in
    let ports = ports_after (ports_after s.ports s.ticks p.tries) s.ticks q.tries in
    record {
      tries = tries;
      are = map-append (λ x. x.sending) p.tries q.tries ∙ ap₂ (λ (l k : List Sending). l ++ k) p.are q.are;
      calls = subst (Records recorded records) (sym (map-append try_call p.tries q.tries)) (tells_more recorded between records _ _ p.calls q.calls);
      counts = q.counts
          ∙ ap (λ (x : Served). record x {
            sends = x.sends + successes q.tries;
            send_failures = x.send_failures + failures q.tries;
            ports = ports_after x.ports x.ticks q.tries;
          }) p.counts
          ∙ ap (λ (x : ℕ). record s { sends = x; send_failures = s.send_failures + failures p.tries + failures q.tries; ports = ports }) sends
          ∙ ap (λ (x : ℕ). record s { sends = s.sends + successes tries; send_failures = x; ports = ports }) failed_sends
          ∙ ap (λ (x : List PortSends). record s {
            sends = s.sends + successes tries;
            send_failures = s.send_failures + failures tries;
            ports = x;
          }) (ports_along s.ports s.ticks p.tries q.tries);
      failed = q.failed ∙ ap (λ (x : ℕ). x + failures q.tries) p.failed ∙ add_assoc n (failures p.tries) (failures q.tries)
          ∙ ap (λ (x : ℕ). n + x) lost;
    }

-- one more was tried
pub tried_more : (sendings more : List Sending) (recorded between records : Option (List Call)) (s t u : Served) (n m o : ℕ)
    (sending : Sending) (success : Bool)
    → AreTried sendings recorded between s t n m → more ≡ sendings ++ sending ∷ []
    → Records between records (try_call (record { sending = sending; success = success }) ∷ [])
    → u ≡ counted_send t sending.port success
    → o ≡ m + cond (not success) 1 0 → AreTried more recorded records s u n o
tried_more sendings more recorded between records s t u n m o sending success p split call counted rose =
    subst (λ (l : List Sending). AreTried l recorded records s u n o) (sym split)
    (tried_along sendings (sending ∷ []) recorded between records s t u n m o p (tried_one between records t u m o sending success call counted rose))

-- each that was tried is counted once
pub tried_counted : (sendings : List Sending) (recorded records : Option (List Call)) (s t : Served) (n m : ℕ)
    → AreTried sendings recorded records s t n m → wire_counts t ≡ wire_counts s + length sendings
tried_counted sendings recorded records s t n m p =
    omega (arith, ap wire_counts p.counts, tries_counted p.tries, length-map p.tries (λ x. x.sending), ap length p.are)

-- and at most so many failed
pub tried_failures : (sendings : List Sending) (recorded records : Option (List Call)) (s t : Served) (n m : ℕ)
    → AreTried sendings recorded records s t n m → m ≤ n + length sendings
tried_failures sendings recorded records s t n m p =
    omega (arith, p.failed, tries_counted p.tries, length-map p.tries (λ x. x.sending), ap length p.are)

-- ---- the end of a turn

-- a receive whose event is known
pub arrives : (recorded records : Option (List Call)) (event known : Option LentEvent) → event ≡ known
    → Records recorded records (receive_call (event_answer (Ok event)) ∷ []) → Records recorded records (arrival_of (option_map event_view known) ∷ [])
arrives recorded records event known is calls =
    subst (λ (x : Option LentEvent). Records recorded records (arrival_of (option_map event_view x) ∷ [])) is calls

-- the log has the lines of denials, or failed at them
pub logged_as : (denials : List Denial) (before after : Option (List ℕ)) (text front rest : List ℕ) (whole : Bool) → ¬ (denials ≡ [])
    → text ≡ lines_of denials → text ≡ front ++ rest → (whole ≡ true → rest ≡ []) → Appends before after front
    → LogEnd denials before after (Ok whole) rest
logged_as denials before after text front rest true some is parts all appended =
    subst (λ (l : List ℕ). Appends before after l)
    (sym (append-nil front) ∙ ap (λ (l : List ℕ). front ++ l) (sym (all refl)) ∙ sym parts ∙ is) appended
logged_as denials before after text front rest false some is parts all appended = (some, front, sym is ∙ parts, appended)

-- the log failed at the lines of the last event
pub ends_at_log : (a b : Scene) (event : Event) (x : Effects) (unwritten : List ℕ) → x ≡ effects_at a.gateway event
    → LogEnd x.denials a.log b.log (Ok false) unwritten → IsTakenLast a event b → EndsAtLog unwritten a event b
ends_at_log a b event x unwritten does ended last = record {
  taken = last;
  denies = λ none. ended.0 (ap (λ (y : Effects). y.denials) does ∙ none);
  front = ended.1;
  lines = ap (λ (y : Effects). lines_of y.denials) (sym does) ∙ ended.2;
  log = ended.3;
}

-- there was no memory for them
pub ends_at_memory : (a b : Scene) (event : Event) (x : Effects) (refused : AllocError) (unwritten : List ℕ) → x ≡ effects_at a.gateway event
    → LogEnd x.denials a.log b.log (Err refused) unwritten → IsTakenLast a event b → EndsAtMemory a event b
ends_at_memory a b event x refused unwritten does ended last = record {
  taken = last;
  denies = λ none. ended.0 (ap (λ (y : Effects). y.denials) does ∙ none);
  log = ended.1;
}

-- ---- the tally

-- of no event it stays
pub untallied : (w : State) (k : DropTally) → k ≡ tally_from w k []
unfolding tally_from
untallied w k = refl

-- of one that is taken it counts what was reported of it
pub tallied : (w : State) (k l : DropTally) (event : Event) (tick : ℕ) (effects : Effects) (drop : Option DropReason) → tick ≡ w.ticks
    → effects ≡ effects_at w event → drop ≡ drop_at w event
    → l ≡ tally_with k (culprit_of tick event) drop effects.denials → l ≡ tally_from w k (event ∷ [])
unfolding tally_from tally_at
tallied w k l event tick effects drop now given why counted =
    counted ∙ ap (λ (n : ℕ). tally_with k (culprit_of n event) drop effects.denials) now
    ∙ ap (λ (x : Effects). tally_with k (culprit_of w.ticks event) drop x.denials) given
    ∙ ap (λ (x : Option DropReason). tally_with k (culprit_of w.ticks event) x (effects_at w event).denials) why

number_most : (b : Bool) → number_if b ≤ 1
number_most true = omega arith
number_most false = omega arith

pub none_below : (n : ℕ) (k : DropTally) → k ≡ no_tally → IsBelow n k
none_below n k none = record {
  enter = omega (arith, ap (λ (x : DropTally). x.enter) none);
  claim = omega (arith, ap (λ (x : DropTally). x.claim) none);
  malformed = omega (arith, ap (λ (x : DropTally). x.malformed) none);
  own_network = omega (arith, ap (λ (x : DropTally). x.own_network) none);
  no_peer = omega (arith, ap (λ (x : DropTally). x.no_peer) none);
}

pub below_weaker : (n m : ℕ) (k : DropTally) → n ≤ m → IsBelow n k → IsBelow m k
below_weaker n m k le below = record {
  enter = omega (arith, le, below.enter);
  claim = omega (arith, le, below.claim);
  malformed = omega (arith, le, below.malformed);
  own_network = omega (arith, le, below.own_network);
  no_peer = omega (arith, le, below.no_peer);
}

-- one event more counts at most one of each
pub below_counted : (n m : ℕ) (k l : DropTally) (culprit : Option Culprit) (drop : Option DropReason) (denials : List Denial) → m ≡ n + 1
    → l ≡ tally_with k culprit drop denials → IsBelow n k → IsBelow m l
below_counted n m k l culprit drop denials more counted below = record {
  enter = omega (arith, more, ap (λ (x : DropTally). x.enter) counted, below.enter, number_most (denies operations.Enter denials));
  claim = omega (arith, more, ap (λ (x : DropTally). x.claim) counted, below.claim, number_most (denies operations.Claim denials));
  malformed = omega (arith, more, ap (λ (x : DropTally). x.malformed) counted, below.malformed, number_most (is_malformed drop));
  own_network = omega (arith, more, ap (λ (x : DropTally). x.own_network) counted, below.own_network, number_most (is_own_network drop));
  no_peer = omega (arith, more, ap (λ (x : DropTally). x.no_peer) counted, below.no_peer, number_most (is_no_peer drop));
}

-- ---- turn by turn

-- no turn was done yet
pub serves_none : (a : Scene) → ServesAll 0 a zero_counts a
unfolding counts_after
serves_none a = record { turns = []; all = refl; went = lead_nowhere a; counts = refl }

-- one more was done
pub serves_more : (n : ℕ) (a m b : Scene) (s t : Served) (k l : DropTally) → ServesAll n a s m → TurnEnd m s k b t l (Ok tt) → ServesAll (n + 1) a t b
serves_more n a m b s t k l p ended =
    let turn = ended.0 in
    record {
      turns = p.turns ++ turn ∷ [];
      all = omega (arith, p.all, length-append p.turns (turn ∷ []));
      went = lead_along a m b p.turns (turn ∷ []) p.went ended.1;
      counts = ended.2 ∙ ap (λ (x : Served). count_turn x turn) p.counts ∙ sym (counts_more zero_counts p.turns turn);
    }

-- or its event ended in a fault
pub stops_then : (n count : ℕ) (a m b : Scene) (s t : Served) (k l : DropTally) (fault : ServeFault) → ServesAll n a s m → n < count
    → TurnEnd m s k b t l (Err fault) → Stops count a (record { fault = fault; served = t }) b
stops_then n count a m b s t k l fault p left ended = record {
  turns = p.turns;
  fewer = omega (arith, p.all, left);
  moment = m;
  went = p.went;
  event = ended.0;
  unwritten = ended.1;
  last = ended.2;
  counts = ended.3 ∙ ap (λ (x : Served). count_fault x fault) p.counts;
}

-- each turn is counted, and counts one thing at most besides sends
turn_counted : (s : Served) (turn : Turn) → (count_turn s turn).turns ≡ s.turns + 1
turn_counted s empty_turn = refl
turn_counted s failed_turn = refl
turn_counted s (lost_event event) = refl
turn_counted s (taken_event event tries) = refl

turn_counts_one : (s : Served) (turn : Turn) → s.taken + s.memory_drops + s.recv_failures ≤ s.turns
    → (count_turn s turn).taken + (count_turn s turn).memory_drops + (count_turn s turn).recv_failures ≤ (count_turn s turn).turns
turn_counts_one s empty_turn below = omega (arith, below)
turn_counts_one s failed_turn below = omega (arith, below)
turn_counts_one s (lost_event event) below = omega (arith, below)
turn_counts_one s (taken_event event tries) below = omega (arith, below)

turns_counted : (s : Served) (turns : List Turn) → (counts_after s turns).turns ≡ s.turns + length turns
unfolding counts_after
turns_counted s [] = sym (add-zero s.turns)
turns_counted s (turn ∷ turns) = omega (arith, turns_counted (count_turn s turn) turns, turn_counted s turn)

each_counted : (s : Served) (turns : List Turn) → s.taken + s.memory_drops + s.recv_failures ≤ s.turns
    → let t = counts_after s turns in t.taken + t.memory_drops + t.recv_failures ≤ t.turns
unfolding counts_after
each_counted s [] below = below
each_counted s (turn ∷ turns) below = each_counted (count_turn s turn) turns (turn_counts_one s turn below)

-- so there is room for the next turn
pub room_left : (n count start lost : ℕ) (a m : Scene) (s : Served) → ServesAll n a s m → n < count → count < 2 ^ 63 → start < 2 ^ 127
    → wire_counts s ≤ n * (2 ^ 64 - 1) → lost ≡ start + s.recv_failures + s.send_failures → HasRoom s lost
room_left n count start lost a m s p left few low counted sum =
    let each = subst (λ (x : Served). x.taken + x.memory_drops + x.recv_failures ≤ x.turns) (sym p.counts)
    (each_counted zero_counts p.turns (omega arith)) in
    let turns : s.turns ≡ n = omega (arith, ap (λ (x : Served). x.turns) p.counts, turns_counted zero_counts p.turns, p.all) in
    record {
      turns = omega (arith, turns, left, few);
      each = each;
      sends = omega (arith, counted, left, few);
      failures = omega (arith, counted, left, few, low, sum);
    }

-- ---- what was refused for want of memory

pub refused_none : (s : Served) (refusals : ℕ) → AreRefused s refusals s refusals
refused_none s refusals = (omega arith, inl (omega arith))

pub refused_along : (s t u : Served) (refusals later last : ℕ) → AreRefused s refusals t later → AreRefused t later u last
    → AreRefused s refusals u last
refused_along s t u refusals later last (rises, inl few) (goes_on, inl more) = (omega (arith, rises, goes_on), inl (omega (arith, few, more)))
refused_along s t u refusals later last (rises, inl few) (goes_on, inr many) = (omega (arith, rises, goes_on), inr many)
refused_along s t u refusals later last (rises, inr many) (goes_on, more) = (omega (arith, rises, goes_on), inr (omega (arith, many, goes_on)))
