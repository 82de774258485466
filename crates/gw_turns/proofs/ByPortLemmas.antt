-- The counts by port add up, try by try, event by event and turn by turn.
use Rattle.std.proofs.Common.{◌≡◌, ◌∙◌, ℕ, ◌+◌, ◌-◌, ◌*◌, ◌^◌, ◌<◌, ◌≤◌, Bool, true, false, cond, not, List, [], ◌∷◌, ◌++◌, length, Option, Some, None, refl, sym, ap, subst, add-zero, arith}
use Rattle.std.specs.Prelude.{sum_by, nat_le, slice_index_or, slice_set}
use Rattle.std.proofs.lemmas.Bool.{le-leb, lt-leb}
use Rattle.std.proofs.lemmas.List.{length-set}
use Rattle.std.proofs.lemmas.List.Concat.{flat_map-cons}
use Rattle.std.proofs.lemmas.List.Sums.{get_or-le-sum_by, sum_by-cons, sum_by-set}
use Rattle.gw_addr.specs.declared.TheConstants.{MAX_PORTS}
use Rattle.gw_audit.specs.declared.denial.Denial.{Denial}
use Rattle.gw_core.proofs.EffectLemmas.{drop_at-tick, effects_at-tick}
use Rattle.gw_core.specs.Drops.{drop_at}
use Rattle.gw_core.specs.Effects.{effects_at}
use Rattle.gw_core.specs.History.{next, state_from}
use Rattle.gw_core.specs.State.{State}
use Rattle.gw_core.specs.declared.drops.DropReason.{DropReason}
use Rattle.gw_core.specs.declared.effects.Effects.{Effects}
use Rattle.gw_core.specs.declared.event.Counts.{Counts}
use Rattle.gw_rules.specs.declared.operation.Operation.TheVariants as operations
use Rattle.gw_script.specs.Event.{Datagram, Event, Tick}
use Rattle.gw_turns.specs.ByPort.{AgainIsReportedOnce, PortsAddUp}
use Rattle.gw_turns.specs.Pace.{one_more}
use Rattle.gw_turns.specs.Ports.{datagrams_at, no_datagrams, no_sends, place_of, received, received_at, sends_at, sent, sent_at, summed_to}
use Rattle.gw_turns.specs.Reports.{health_text, restored_line}
use Rattle.gw_turns.specs.Serve.{Try, Turn, count_turn, counts_after, empty_turn, events_of, failed_turn, failures, lost_event, ports_after, successes}
use Rattle.gw_turns.specs.Serve.{taken_event, turn_events, zero_counts}
use Rattle.gw_turns.specs.Tally.{culprit_of, denies, drops_of, is_malformed, is_no_peer, is_own_network, no_tally, number_if, tally_at, tally_from, tally_with}
use Rattle.gw_turns.specs.declared.ports.Health.TheVariants.{Sound, Restored}
use Rattle.gw_turns.specs.declared.ports.PortSends.{PortSends}
use Rattle.gw_turns.specs.declared.ports.PortTally.{PortTally}
use Rattle.gw_turns.specs.declared.serving.Served.{Served}
use Rattle.gw_turns.specs.declared.tally.Culprit.{Culprit}
use Rattle.gw_turns.specs.declared.tally.DropTally.{DropTally}
use Rattle.gw_turns.proofs.PaceLemmas.{one_more_of}
use Rattle.gw_turns.proofs.ReportLemmas.{tally_along}
use Rattle.gw_turns.proofs.ServeLemmas.{state_along}

-- ---- sums over the ports

-- what is added at one place is added to the sum
added : {A : Type 0} (f : A → ℕ) (xs : List A) (place : ℕ) (y d : A) (more : ℕ) → place < length xs
    → f y ≡ f (slice_index_or xs place d) + more → sum_by f (slice_set xs place y) ≡ sum_by f xs + more
added f xs place y d more inside rises = omega (arith, sum_by-set f xs place y d inside, rises)

inside_all : (port : ℕ) → place_of port < MAX_PORTS
inside_all port = omega arith

abbrev sends_of : List PortSends → ℕ
sends_of ports = sum_by (λ (p : PortSends). p.sends) ports

abbrev failures_of : List PortSends → ℕ
failures_of ports = sum_by (λ (p : PortSends). p.failures) ports

abbrev datagrams_of : List PortTally → ℕ
datagrams_of ports = sum_by (λ (p : PortTally). p.datagrams) ports

abbrev dropped_of : List PortTally → ℕ
dropped_of ports = sum_by (λ (p : PortTally). p.drops) ports

-- ---- tries

-- so many sends more succeeded, and so many failed
record AreMore (ports later : List PortSends) (won lost : ℕ) : Type 0 where
  places : length later ≡ MAX_PORTS
  sends : sends_of later ≡ sends_of ports + won
  failures : failures_of later ≡ failures_of ports + lost

one_sent : (ports : List PortSends) (port ticks : ℕ) (success : Bool) → length ports ≡ MAX_PORTS
    → sends_of ports + cond success 1 0 < 2 ^ 64 → failures_of ports + cond (not success) 1 0 < 2 ^ 64
    → AreMore ports (sent_at ports port ticks success) (cond success 1 0) (cond (not success) 1 0)
one_sent ports port ticks true places few few_failed =
    let place = place_of port in
    let inside : place < length ports = omega (arith, inside_all port, places) in
    let before = sends_at ports place in
    let after = sent before ticks true in
    let most : before.sends ≤ sends_of ports = get_or-le-sum_by (λ (p : PortSends). p.sends) ports place no_sends inside in
    let rises : summed_to before.sends 1 ≡ before.sends + 1 = omega (arith, most, few) in
    record {
      places = length-set ports place after ∙ places;
      sends = added (λ (p : PortSends). p.sends) ports place after no_sends 1 inside rises;
      failures = added (λ (p : PortSends). p.failures) ports place after no_sends 0 inside (sym (add-zero before.failures));
    }
one_sent ports port ticks false places few few_failed =
    let place = place_of port in
    let inside : place < length ports = omega (arith, inside_all port, places) in
    let before = sends_at ports place in
    let after = sent before ticks false in
    let most : before.failures ≤ failures_of ports = get_or-le-sum_by (λ (p : PortSends). p.failures) ports place no_sends inside in
    let rises : summed_to before.failures 1 ≡ before.failures + 1 = omega (arith, most, few_failed) in
    record {
      places = length-set ports place after ∙ places;
      sends = added (λ (p : PortSends). p.sends) ports place after no_sends 0 inside (sym (add-zero before.sends));
      failures = added (λ (p : PortSends). p.failures) ports place after no_sends 1 inside rises;
    }

all_sent : (ports : List PortSends) (ticks : ℕ) (tries : List Try) → length ports ≡ MAX_PORTS
    → sends_of ports + successes tries < 2 ^ 64 → failures_of ports + failures tries < 2 ^ 64
    → AreMore ports (ports_after ports ticks tries) (successes tries) (failures tries)
unfolding ports_after
all_sent ports ticks [] places few few_failed =
    record { places = places; sends = sym (add-zero (sends_of ports)); failures = sym (add-zero (failures_of ports)) }
all_sent ports ticks (t ∷ tries) places few few_failed =
    let won = sum_by-cons (λ (x : Try). cond x.success 1 0) t tries in
    let lost = sum_by-cons (λ (x : Try). cond (not x.success) 1 0) t tries in
    let one = one_sent ports t.sending.port ticks t.success places (omega (arith, few, won)) (omega (arith, few_failed, lost)) in
    let rest = all_sent (sent_at ports t.sending.port ticks t.success) ticks tries one.places (omega (arith, few, won, one.sends))
    (omega (arith, few_failed, lost, one.failures)) in
    record {
      places = rest.places;
      sends = omega (arith, rest.sends, one.sends, won);
      failures = omega (arith, rest.failures, one.failures, lost);
    }

-- ---- events

-- so many datagrams more came, and weren't passed on for so many reasons
record AreReceived (ports later : List PortTally) (count reasons : ℕ) : Type 0 where
  places : length later ≡ MAX_PORTS
  datagrams : datagrams_of later ≡ datagrams_of ports + count
  drops : dropped_of later ≡ dropped_of ports + reasons

one_received : (ports : List PortTally) (c : Culprit) (drops : ℕ) → length ports ≡ MAX_PORTS → datagrams_of ports + 1 < 2 ^ 64
    → dropped_of ports + drops < 2 ^ 64 → AreReceived ports (received_at ports (Some c) drops) 1 drops
one_received ports c drops places few few_dropped =
    let place = place_of c.port in
    let inside : place < length ports = omega (arith, inside_all c.port, places) in
    let before = datagrams_at ports place in
    let after = received before drops in
    let most : before.datagrams ≤ datagrams_of ports = get_or-le-sum_by (λ (p : PortTally). p.datagrams) ports place no_datagrams inside in
    let most_dropped : before.drops ≤ dropped_of ports = get_or-le-sum_by (λ (p : PortTally). p.drops) ports place no_datagrams inside in
    let rises : summed_to before.datagrams 1 ≡ before.datagrams + 1 = omega (arith, most, few) in
    let drops_rise : summed_to before.drops drops ≡ before.drops + drops = omega (arith, most_dropped, few_dropped) in
    record {
      places = length-set ports place after ∙ places;
      datagrams = added (λ (p : PortTally). p.datagrams) ports place after no_datagrams 1 inside rises;
      drops = added (λ (p : PortTally). p.drops) ports place after no_datagrams drops inside drops_rise;
    }

-- all that weren't passed on, by the reasons
abbrev total : DropTally → ℕ
total t = t.enter + t.claim + t.malformed + t.own_network + t.no_peer

totals : (t : DropTally) (c : Option Culprit) (drop : Option DropReason) (denials : List Denial)
    → total (tally_with t c drop denials) ≡ total t + drops_of drop denials
totals t c drop denials = omega arith

number_most : (b : Bool) → number_if b ≤ 1
number_most true = omega arith
number_most false = omega arith

few_reasons : (drop : Option DropReason) (denials : List Denial) → drops_of drop denials ≤ 5
few_reasons drop denials = omega (
  arith,
  number_most (denies operations.Enter denials),
  number_most (denies operations.Claim denials),
  number_most (is_malformed drop),
  number_most (is_own_network drop),
  number_most (is_no_peer drop),
)

-- a tick isn't dropped, and nothing of it is denied
tick_drops : (w : State) → drops_of (drop_at w Tick) (effects_at w Tick).denials ≡ 0
tick_drops w =
    ap (λ (d : Option DropReason). drops_of d (effects_at w Tick).denials) (sym (drop_at-tick w))
    ∙ ap (λ (x : Effects). drops_of None x.denials) (effects_at-tick w)

-- ---- turns

-- what was counted by port since a gateway began with these counts adds up
record IsEven (start : Counts) (w : State) (s : Served) (t : DropTally) : Type 0 where
  tally_places : length t.ports ≡ MAX_PORTS
  places : length s.ports ≡ MAX_PORTS
  taken : datagrams_of t.ports + s.ticks ≡ s.taken
  ticks : start.ticks + s.ticks ≡ w.ticks
  drops : dropped_of t.ports ≡ total t
  few : total t ≤ s.taken * 5
  sends : sends_of s.ports ≡ s.sends
  failures : failures_of s.ports ≡ s.send_failures

even_none : (start : Counts) (w : State) → start.ticks ≡ w.ticks → IsEven start w zero_counts no_tally
even_none start w begins = record {
  tally_places = refl;
  places = refl;
  taken = refl;
  ticks = add-zero start.ticks ∙ begins;
  drops = refl;
  few = omega arith;
  sends = refl;
  failures = refl;
}

-- a turn without an event changes nothing of it
even_still : (start : Counts) (w : State) (s u : Served) (t : DropTally) → IsEven start w s t → u.ports ≡ s.ports → u.ticks ≡ s.ticks → u.taken ≡ s.taken
    → u.sends ≡ s.sends → u.send_failures ≡ s.send_failures → IsEven start w u t
even_still start w s u t p ports ticks taken sends failures = record {
  tally_places = p.tally_places;
  places = ap length ports ∙ p.places;
  taken = omega (arith, p.taken, ticks, taken);
  ticks = omega (arith, p.ticks, ticks);
  drops = p.drops;
  few = omega (arith, p.few, taken);
  sends = ap sends_of ports ∙ p.sends ∙ sym sends;
  failures = ap failures_of ports ∙ p.failures ∙ sym failures;
}

even_turn : (start : Counts) (w : State) (s : Served) (t : DropTally) (turn : Turn) → IsEven start w s t → s.taken + 1 < 2 ^ 61
    → (count_turn s turn).sends < 2 ^ 64 → (count_turn s turn).send_failures < 2 ^ 64
    → IsEven start (state_from w (turn_events turn)) (count_turn s turn) (tally_from w t (turn_events turn))
unfolding state_from tally_from tally_at next
even_turn start w s t empty_turn p few sends failures =
    even_still start w s (count_turn s empty_turn) t p refl refl refl refl refl
even_turn start w s t failed_turn p few sends failures =
    even_still start w s (count_turn s failed_turn) t p refl refl refl refl refl
even_turn start w s t (lost_event event) p few sends failures =
    even_still start w s (count_turn s (lost_event event)) t p refl refl refl refl refl
even_turn start w s t (taken_event (Datagram port from octets) tries) p few sends failures =
    let event = Datagram port from octets in
    let drop = drop_at w event in
    let denials = (effects_at w event).denials in
    let tried = all_sent s.ports s.ticks tries p.places (omega (arith, p.sends, sends)) (omega (arith, p.failures, failures)) in
    let reasons = few_reasons drop denials in
    let got = one_received t.ports (record { tick = w.ticks; port = port; sender = from }) (drops_of drop denials) p.tally_places
    (omega (arith, p.taken, few)) (omega (arith, p.drops, p.few, few, reasons)) in
    let all = totals t (culprit_of w.ticks event) drop denials in
    record {
      tally_places = got.places;
      places = tried.places;
      taken = omega (arith, got.datagrams, p.taken);
      ticks = omega (arith, p.ticks);
      drops = omega (arith, got.drops, p.drops, all);
      few = omega (arith, all, p.few, reasons);
      sends = omega (arith, tried.sends, p.sends);
      failures = omega (arith, tried.failures, p.failures);
    }
even_turn start w s t (taken_event Tick tries) p few sends failures =
    let drop = drop_at w Tick in
    let denials = (effects_at w Tick).denials in
    let ticks : one_more s.ticks ≡ s.ticks + 1 = one_more_of s.ticks (omega (arith, p.taken, few)) in
    let tried = all_sent s.ports (one_more s.ticks) tries p.places (omega (arith, p.sends, sends)) (omega (arith, p.failures, failures)) in
    let all = totals t None drop denials in
    let none = tick_drops w in
    record {
      tally_places = p.tally_places;
      places = tried.places;
      taken = omega (arith, p.taken, ticks);
      ticks = omega (arith, p.ticks, ticks);
      drops = omega (arith, p.drops, all, none);
      few = omega (arith, all, none, p.few);
      sends = omega (arith, tried.sends, p.sends);
      failures = omega (arith, tried.failures, p.failures);
    }

-- no count falls, and a turn takes one event at most
sends_grow : (s : Served) (turns : List Turn) → (s.sends ≤ (counts_after s turns).sends) × (s.send_failures ≤ (counts_after s turns).send_failures)
unfolding counts_after
sends_grow s [] = (omega arith, omega arith)
sends_grow s (empty_turn ∷ turns) = sends_grow (count_turn s empty_turn) turns
sends_grow s (failed_turn ∷ turns) = sends_grow (count_turn s failed_turn) turns
sends_grow s (lost_event event ∷ turns) = sends_grow (count_turn s (lost_event event)) turns
sends_grow s (taken_event event tries ∷ turns) =
    let more = sends_grow (count_turn s (taken_event event tries)) turns in (omega (arith, more.0), omega (arith, more.1))

takes_one : (s : Served) (turn : Turn) → (count_turn s turn).taken ≤ s.taken + 1
takes_one s empty_turn = omega arith
takes_one s failed_turn = omega arith
takes_one s (lost_event event) = omega arith
takes_one s (taken_event event tries) = omega arith

even_turns : (start : Counts) (w : State) (s : Served) (t : DropTally) (turns : List Turn) → IsEven start w s t → s.taken + length turns < 2 ^ 61
    → (counts_after s turns).sends < 2 ^ 64 → (counts_after s turns).send_failures < 2 ^ 64
    → IsEven start (state_from w (events_of turns)) (counts_after s turns) (tally_from w t (events_of turns))
unfolding counts_after state_from tally_from
even_turns start w s t [] p few sends failures = p
even_turns start w s t (turn ∷ turns) p few sends failures =
    let first = turn_events turn in
    let later = events_of turns in
    let s_then = count_turn s turn in
    let grows = sends_grow s_then turns in
    let one = even_turn start w s t turn p (omega (arith, few)) (omega (arith, grows.0, sends)) (omega (arith, grows.1, failures)) in
    let rest = even_turns start (state_from w first) s_then (tally_from w t first) turns one (omega (arith, few, takes_one s turn)) sends failures in
    subst (λ (l : List Event). IsEven start (state_from w l) (counts_after s_then turns) (tally_from w t l)) (sym (flat_map-cons turn_events turn turns))
    (subst (λ (v : State). IsEven start v (counts_after s_then turns) (tally_from w t (first ++ later))) (sym (state_along w first later))
    (subst (λ (k : DropTally). IsEven start (state_from (state_from w first) later) (counts_after s_then turns) k) (sym (tally_along w t first later)) rest))

pub ports_add_up : {G : Type 0} (Passes : G → State → Event → G → Bool → Type 0) → PortsAddUp Passes
ports_add_up Passes start before after turns begins nothing untallied went few sends failures =
    let w = before.scene.gateway in
    let served = went.counts ∙ ap (λ (s : Served). counts_after s turns) nothing in
    let tallied = went.tally ∙ ap (λ (t : DropTally). tally_from w t (events_of turns)) untallied in
    let all = even_turns start w zero_counts no_tally turns (even_none start w begins) (omega (arith, few))
    (omega (arith, ap (λ (s : Served). s.sends) served, sends)) (omega (arith, ap (λ (s : Served). s.send_failures) served, failures)) in
    let last = subst (λ (v : State). IsEven start v after.served after.tally) (sym went.went.gateway)
    (subst (λ (s : Served). IsEven start (state_from w (events_of turns)) s after.tally) (sym served)
    (subst (λ (t : DropTally). IsEven start (state_from w (events_of turns)) (counts_after zero_counts turns) t) (sym tallied) all)) in
    record {
      datagrams = omega (arith, last.taken, last.ticks);
      drops = last.drops;
      sends = last.sends;
      failures = last.failures;
    }

-- ---- that sends succeed again

shown_if : (b : Bool) (number since : ℕ) → b ≡ true → health_text number (cond b (Restored since) Sound) ≡ restored_line number
shown_if true number since is = refl
shown_if false number since is = absurd cc

hidden_if : (b : Bool) (number since : ℕ) → b ≡ false → health_text number (cond b (Restored since) Sound) ≡ []
hidden_if false number since is = refl
hidden_if true number since is = absurd cc

pub again_is_reported_once : AgainIsReportedOnce
again_is_reported_once seconds since first later number before within after =
    let is : nat_le (first - since) seconds ≡ true = le-leb (first - since) seconds (omega (arith, before, within)) in
    let isnt : nat_le (later - since) seconds ≡ false = lt-leb (later - since) seconds (omega (arith, before, after)) in
    (shown_if (nat_le (first - since) seconds) number since is, hidden_if (nat_le (later - since) seconds) number since isnt)
