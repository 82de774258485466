use Rattle.std.proofs.Common.{◌≡◌, ◌∙◌, ◌^◌, ◌≤◌, subst, sym, ap, []}
use Rattle.std.proofs.lemmas.Result.{IfOk-weaker}
use Rattle.gw_core.specs.Asks.{asks_for}
use Rattle.gw_core.specs.Drops.{drop_at}
use Rattle.gw_core.specs.Receive.{receive}
use Rattle.gw_core.specs.State.{State}
use Rattle.gw_core.specs.internal.View.{admitted_view, origin_of}
use Rattle.gw_core.specs.Arrivals.{event_of}
use Rattle.gw_core.specs.declared.receive.Received.{Received as LentReceived}
use Rattle.gw_core.proofs.Answering.{answered_outcome, dropped_answered, on_both}
use Rattle.gw_core.proofs.AskedLemmas.{reported_as}
use Rattle.gw_core.proofs.DenialLemmas.{asks_received, denials_received}
use Rattle.gw_core.proofs.EffectLemmas.{drop_as, passes_end-denials, received_as, sends_received}
use Rattle.gw_core.proofs.gateway.Gateway.outcome.Goals as goal

pub returns-in_err-asked-clause-silent : goal.returns-in_err-asked-clause-silent
returns-in_err-asked-clause-silent g c =
    λ none. let ok = c.in_err-asked.ensures.silent c.requires.begun in absurd cc

pub returns-in-Dropped-clause-outcome : goal.returns-in-Dropped-clause-outcome
returns-in-Dropped-clause-outcome g c =
    let w : State = record {
      relay = c.self.inside.relay;
      device = c.self.inside.device;
      rules = c.self.inside.policy;
      ticks = c.self.inside.counts.ticks;
      denials = c.self.inside.counts.denials;
    } in
    let event = event_of c.args.arrival.now in
    let is = subst (λ (s : State). admitted_view s c.receive-received.result ≡ receive s event) c.self.view_is
    (received_as w c.ports.result.now c.network_of-network.result c.args.arrival.now.port c.args.arrival.now.from c.args.arrival.now.octets.now _
    c.receive-received.ensures.received c.ports.ensures c.network_of-network.ensures) in
    let s = c.args.self.now in
    let port = c.args.arrival.now.port in
    let from = c.args.arrival.now.from in
    let octets = c.args.arrival.now.octets.now in
    let reason = subst (λ (s : State). c.drop_reason-taken.result ≡ drop_at s event) c.self.view_is
    (c.drop_reason-taken.ensures ∙ drop_as w c.ports.result.now c.network_of-network.result port from octets _
    c.receive-received.ensures.drop c.ports.ensures c.network_of-network.ensures) in
    let empty = c.clear.ensures.empty in
    let ticks = subst (λ (s : State). s.ticks ≤ 2 ^ 63) c.self.view_is c.self.invariant.ticks in
    let denials = subst (λ (s : State). s.denials ≤ 2 ^ 63) c.self.view_is c.self.invariant.denials in
    answered_outcome s port from octets _ _ is reason (dropped_answered s _ _
    (ap (λ (r : LentReceived). admitted_view s r) c.in-Dropped.is) (record {
      sends = empty.sends;
      denials = empty.denials;
      lasts = empty.lasts;
      change = empty.change;
      write = empty.write;
    }) ticks denials)

pub returns-in-Dropped-clause-asked : goal.returns-in-Dropped-clause-asked
returns-in-Dropped-clause-asked g c =
    let w : State = record {
      relay = c.self.inside.relay;
      device = c.self.inside.device;
      rules = c.self.inside.policy;
      ticks = c.self.inside.counts.ticks;
      denials = c.self.inside.counts.denials;
    } in
    let event = event_of c.args.arrival.now in
    let is = subst (λ (s : State). admitted_view s c.receive-received.result ≡ receive s event) c.self.view_is
    (received_as w c.ports.result.now c.network_of-network.result c.args.arrival.now.port c.args.arrival.now.from c.args.arrival.now.octets.now _
    c.receive-received.ensures.received c.ports.ensures c.network_of-network.ensures) in
    let s = c.args.self.now in
    let picks = g.A.Asker.picks c.args.asker in
    c.in_ok-asked.ensures.asked s.rules [] (c.requires.begun ∙ sym (g.met.A.Asker.kept_none s.rules))
    ∙ ap (λ (r : LentReceived). g.A.Reporter.asked picks (origin_of c.receive-received.result) s.rules
    (asks_for s.rules s.relay s.device (admitted_view s r))) (sym c.in-Dropped.is)
    ∙ reported_as (λ from asks. g.A.Reporter.asked picks from s.rules asks) (λ from. g.met.A.Reporter.unasked picks from s.rules) s event
    c.receive-received.result is

pub answer-requires-clause-empty : goal.answer-requires-clause-empty
answer-requires-clause-empty g c =
    let empty = c.clear.ensures.empty in record {
      sends = empty.sends;
      denials = empty.denials;
      lasts = empty.lasts;
      change = empty.change;
      write = empty.write;
    }

pub returns-clause-outcome : goal.returns-clause-outcome
returns-clause-outcome g c =
    let w : State = record {
      relay = c.self.inside.relay;
      device = c.self.inside.device;
      rules = c.self.inside.policy;
      ticks = c.self.inside.counts.ticks;
      denials = c.self.inside.counts.denials;
    } in
    let event = event_of c.args.arrival.now in
    let is = subst (λ (s : State). admitted_view s c.receive-received.result ≡ receive s event) c.self.view_is
    (received_as w c.ports.result.now c.network_of-network.result c.args.arrival.now.port c.args.arrival.now.from c.args.arrival.now.octets.now _
    c.receive-received.ensures.received c.ports.ensures c.network_of-network.ensures) in
    let s = c.args.self.now in
    let port = c.args.arrival.now.port in
    let from = c.args.arrival.now.from in
    let octets = c.args.arrival.now.octets.now in
    let reason = subst (λ (s : State). c.drop_reason-taken.result ≡ drop_at s event) c.self.view_is
    (c.drop_reason-taken.ensures ∙ drop_as w c.ports.result.now c.network_of-network.result port from octets _
    c.receive-received.ensures.drop c.ports.ensures c.network_of-network.ensures) in
    on_both c.answer.result (λ answered same. answered_outcome s port from octets _ c.answer.new.taken is (same ∙ reason) answered)
    c.answer.ensures.answered c.answer.ensures.drop

pub returns-clause-asked : goal.returns-clause-asked
returns-clause-asked g c =
    let w : State = record {
      relay = c.self.inside.relay;
      device = c.self.inside.device;
      rules = c.self.inside.policy;
      ticks = c.self.inside.counts.ticks;
      denials = c.self.inside.counts.denials;
    } in
    let event = event_of c.args.arrival.now in
    let is = subst (λ (s : State). admitted_view s c.receive-received.result ≡ receive s event) c.self.view_is
    (received_as w c.ports.result.now c.network_of-network.result c.args.arrival.now.port c.args.arrival.now.from c.args.arrival.now.octets.now _
    c.receive-received.ensures.received c.ports.ensures c.network_of-network.ensures) in
    let s = c.args.self.now in
    let picks = g.A.Asker.picks c.args.asker in
    IfOk-weaker c.answer.result _ _ (λ asked reported. reported
    ∙ reported_as (λ from asks. g.A.Reporter.asked picks from s.rules asks) (λ from. g.met.A.Reporter.unasked picks from s.rules) s event
    c.receive-received.result is) c.answer.ensures.asked

pub returns-clause-count_end : goal.returns-clause-count_end
returns-clause-count_end g c =
    let w : State = record {
      relay = c.self.inside.relay;
      device = c.self.inside.device;
      rules = c.self.inside.policy;
      ticks = c.self.inside.counts.ticks;
      denials = c.self.inside.counts.denials;
    } in
    let event = event_of c.args.arrival.now in
    let is = subst (λ (s : State). admitted_view s c.receive-received.result ≡ receive s event) c.self.view_is
    (received_as w c.ports.result.now c.network_of-network.result c.args.arrival.now.port c.args.arrival.now.from c.args.arrival.now.octets.now _
    c.receive-received.ensures.received c.ports.ensures c.network_of-network.ensures) in
    let s = c.args.self.now in
    λ h. passes_end-denials s event _ (denials_received s event _ is) (c.answer.ensures.count_end h)

pub returns-clause-silent : goal.returns-clause-silent
returns-clause-silent g c =
    let w : State = record {
      relay = c.self.inside.relay;
      device = c.self.inside.device;
      rules = c.self.inside.policy;
      ticks = c.self.inside.counts.ticks;
      denials = c.self.inside.counts.denials;
    } in
    let event = event_of c.args.arrival.now in
    let is = subst (λ (s : State). admitted_view s c.receive-received.result ≡ receive s event) c.self.view_is
    (received_as w c.ports.result.now c.network_of-network.result c.args.arrival.now.port c.args.arrival.now.from c.args.arrival.now.octets.now _
    c.receive-received.ensures.received c.ports.ensures c.network_of-network.ensures) in
    let s = c.args.self.now in
    λ none. c.answer.ensures.silent (sym (asks_received s event _ is) ∙ none.0) (sym (sends_received s event _ is) ∙ none.1)
