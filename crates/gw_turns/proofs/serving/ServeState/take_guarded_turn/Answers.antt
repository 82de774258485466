use Rattle.std.proofs.Common.{ℕ, None, Some, Err, Bool, refl, ap, subst, arith, Ok}
use Rattle.std.proofs.lemmas.Grind.{common_steps}
use Rattle.std.specs.Io.KnownBytes.{Appends}
use Rattle.gw_script.specs.Event.{event_view}
use Rattle.gw_core.specs.declared.effects.Effects.{Effects}
use Rattle.gw_turns.specs.Serve.{empty_turn, failed_turn, lines_of, lost_event, scene}
use Rattle.gw_turns.specs.ServeTurn.{AreTried, LogEnd}
use Rattle.gw_turns.specs.Tally.{culprit_of}
use Rattle.gw_turns.specs.declared.serving.ServeFault.TheVariants.{Log, Memory}
use Rattle.gw_turns.specs.declared.serving.Served.{Served}
use Rattle.gw_turns.specs.Stretch.{IsLoggedLast, count_taken}
use Rattle.gw_turns.proofs.GuardLemmas.{guarded_fault, guarded_with, guarded_without, seen_by}
use Rattle.gw_turns.proofs.ServeLemmas.{arrives, below_counted, ends_at_log, ends_at_memory, lead_without, tallied, tried_counted}
use Rattle.gw_turns.proofs.serving.ServeState.take_guarded_turn.Goals as goal

pub returns-in-Ok-None-clause-end : goal.returns-in-Ok-None-clause-end
returns-in-Ok-None-clause-end g c =
    let recorded = g.W.Wire.calls c.args.wire.now in
    let records = g.W.Wire.calls c.receive.new.wire in
    let idled = arrives recorded records c.in-Ok-None.field-0 None c.in-Ok-None.field-0-is c.in-Ok-None.ensures.calls in
    guarded_without g.G.Guard.Passes c.args.guard.now _ _ c.args.self.now.served _ c.args.self.now.tally empty_turn refl
    (lead_without _ _ empty_turn refl tt refl refl idled) refl c.args.self.now.unwritten.items

pub returns-in-Err-clause-end : goal.returns-in-Err-clause-end
returns-in-Err-clause-end g c =
    guarded_without g.G.Guard.Passes c.args.guard.now _ _ c.args.self.now.served _ c.args.self.now.tally failed_turn refl
    (lead_without _ _ failed_turn refl tt refl refl c.in-Err.ensures.calls) refl c.args.self.now.unwritten.items

pub returns-in-Err-Memory-clause-end : goal.returns-in-Err-Memory-clause-end
returns-in-Err-Memory-clause-end g c =
    let event = event_view c.in-Ok-Some.event in
    let recorded = g.W.Wire.calls c.args.wire.now in
    let records = g.W.Wire.calls c.receive.new.wire in
    let came_in = arrives recorded records c.in-Ok-Some.field-0 (Some c.in-Ok-Some.event) c.in-Ok-Some.field-0-is c.in-Ok-Some.ensures.calls in
    let wants = c.in-Err-Memory.ensures.memory (ap Err c.in-Err-Memory.field-0-is) in
    guarded_without g.G.Guard.Passes c.args.guard.now _ _ c.args.self.now.served _ c.args.self.now.tally (lost_event event) refl
    (lead_without _ _ (lost_event event) refl wants c.in-Err-Memory.ensures.err refl came_in) refl c.args.self.now.unwritten.items

pub returns-in_default-clause-end : goal.returns-in_default-clause-end
returns-in_default-clause-end g c =
    let event = event_view c.in-Ok-Some.event in
    let recorded = g.W.Wire.calls c.args.wire.now in
    let records = g.W.Wire.calls c.receive.new.wire in
    let came_in = arrives recorded records c.in-Ok-Some.field-0 (Some c.in-Ok-Some.event) c.in-Ok-Some.field-0-is c.in-Ok-Some.ensures.calls in
    let taken = c.in-Ok.ensures.taken in
    let before = scene c.args.gateway.now (g.L.OctetSink.held c.args.log.now) recorded in
    let after = scene c.take_seen.new.gateway (g.L.OctetSink.held c.log_denials.new.log) records in
    let s = c.args.self.now.served in
    guarded_fault g.G.Guard.Passes c.args.guard.now c.args.guard.now before after s (count_taken s) c.args.self.now.tally Memory c.log_denials.new.unwritten.items event
    (ends_at_memory before after event c.in-Ok.taken.effects _ c.log_denials.new.unwritten.items taken.effects c.in_default.ensures.end
    (record { counts = taken.counts; gateway = taken.gateway; calls = came_in })) refl refl

pub returns-then-not-is_logged-clause-end : goal.returns-then-not-is_logged-clause-end
returns-then-not-is_logged-clause-end g c =
    let event = event_view c.in-Ok-Some.event in
    let recorded = g.W.Wire.calls c.args.wire.now in
    let records = g.W.Wire.calls c.receive.new.wire in
    let came_in = arrives recorded records c.in-Ok-Some.field-0 (Some c.in-Ok-Some.event) c.in-Ok-Some.field-0-is c.in-Ok-Some.ensures.calls in
    let taken = c.in-Ok.ensures.taken in
    let before = scene c.args.gateway.now (g.L.OctetSink.held c.args.log.now) recorded in
    let after = scene c.take_seen.new.gateway (g.L.OctetSink.held c.log_denials.new.log) records in
    let s = c.args.self.now.served in
    let guard = c.args.guard.now in
    let seen = seen_by (g.G.Guard.watching guard) (g.G.Guard.keeps guard) c.args.gateway.now event _ _ c.as_ref.ensures.value
    (c.in-Ok.ensures.seen refl) in
    let ended = subst (λ (b : Bool). LogEnd c.in-Ok.taken.effects.denials before.log after.log (Ok b) c.log_denials.new.unwritten.items)
    c.if-not-is_logged.true c.in-Ok-log_denials.ensures.end in
    guarded_fault g.G.Guard.Passes guard c.pass.new.self before after s (count_taken s) c.args.self.now.tally Log c.log_denials.new.unwritten.items event
    (ends_at_log before after event c.in-Ok.taken.effects c.log_denials.new.unwritten.items taken.effects ended
    (record { counts = taken.counts; gateway = taken.gateway; calls = came_in }))
    (c.pass.result, c.pass.ensures c.args.gateway.now event taken seen) refl

pub returns-then-not-pass-clause-end : goal.returns-then-not-pass-clause-end
returns-then-not-pass-clause-end g c =
    let event = event_view c.in-Ok-Some.event in
    let recorded = g.W.Wire.calls c.args.wire.now in
    let records = g.W.Wire.calls c.receive.new.wire in
    let came_in = arrives recorded records c.in-Ok-Some.field-0 (Some c.in-Ok-Some.event) c.in-Ok-Some.field-0-is c.in-Ok-Some.ensures.calls in
    let before = scene c.args.gateway.now (g.L.OctetSink.held c.args.log.now) recorded in
    let middle = scene c.take_seen.new.gateway (g.L.OctetSink.held c.log_denials.new.log) records in
    let taken = c.in-Ok.ensures.taken in
    let logged : IsLoggedLast before event middle = record {
      taken = record { counts = taken.counts; gateway = taken.gateway; calls = came_in };
      log = subst (λ (x : Effects). Appends before.log middle.log (lines_of x.denials)) taken.effects (subst (λ (b : Bool). LogEnd c.in-Ok.taken.effects.denials before.log middle.log (Ok b) c.log_denials.new.unwritten.items)
          c.if-not-is_logged.false c.in-Ok-log_denials.ensures.end);
    } in
    let counted = tallied c.args.gateway.now c.args.self.now.tally c.count.new.self event c.counts-tick.result.ticks c.in-Ok.taken.effects
    c.in-Ok.taken.drop c.counts-tick.ensures.ticks taken.effects taken.drop c.count.ensures in
    let guard = c.args.guard.now in
    let seen = seen_by (g.G.Guard.watching guard) (g.G.Guard.keeps guard) c.args.gateway.now event _ _ c.as_ref-2.ensures.value
    (c.in-Ok.ensures.seen refl) in
    let withheld = subst (λ (b : Bool). g.G.Guard.Passes guard c.args.gateway.now event c.pass-2.new.self b) c.if-not-pass.true
    (c.pass-2.ensures c.args.gateway.now event taken seen) in
    (event, record { logged = logged; passes = withheld; counts = refl; tally = counted })

pub returns-clause-end : goal.returns-clause-end
returns-clause-end g c =
    let event = event_view c.in-Ok-Some.event in
    let recorded = g.W.Wire.calls c.args.wire.now in
    let records = g.W.Wire.calls c.receive.new.wire in
    let came_in = arrives recorded records c.in-Ok-Some.field-0 (Some c.in-Ok-Some.event) c.in-Ok-Some.field-0-is c.in-Ok-Some.ensures.calls in
    let before = scene c.args.gateway.now (g.L.OctetSink.held c.args.log.now) recorded in
    let middle = scene c.take_seen.new.gateway (g.L.OctetSink.held c.log_denials.new.log) records in
    let taken = c.in-Ok.ensures.taken in
    let logged : IsLoggedLast before event middle = record {
      taken = record { counts = taken.counts; gateway = taken.gateway; calls = came_in };
      log = subst (λ (x : Effects). Appends before.log middle.log (lines_of x.denials)) taken.effects (subst (λ (b : Bool). LogEnd c.in-Ok.taken.effects.denials before.log middle.log (Ok b) c.log_denials.new.unwritten.items)
          c.if-not-is_logged.false c.in-Ok-log_denials.ensures.end);
    } in
    let counted = tallied c.args.gateway.now c.args.self.now.tally c.count.new.self event c.counts-tick.result.ticks c.in-Ok.taken.effects
    c.in-Ok.taken.drop c.counts-tick.ensures.ticks taken.effects taken.drop c.count.ensures in
    let guard = c.args.guard.now in
    let seen = seen_by (g.G.Guard.watching guard) (g.G.Guard.keeps guard) c.args.gateway.now event _ _ c.as_ref-2.ensures.value
    (c.in-Ok.ensures.seen refl) in
    let passes = subst (λ (b : Bool). g.G.Guard.Passes guard c.args.gateway.now event c.pass-2.new.self b) c.if-not-pass.false
    (c.pass-2.ensures c.args.gateway.now event taken seen) in
    let was = c.args.self.now.served in
    let sends = g.W.Wire.calls c.try_sends.new.wire in
    let failures = g.W.Wire.failure_count in
    let tried = subst (λ (n : ℕ). AreTried c.in-Ok.taken.effects.sends records sends (record (count_taken was) { ticks = n })
    c.try_sends.new.served (failures c.receive.new.wire) (failures c.try_sends.new.wire)) c.ticks_with-self.ensures c.try_sends.ensures.tried in
    guarded_with g.G.Guard.Passes guard c.pass-2.new.self before middle sends was c.try_sends.new.served c.args.self.now.tally c.count.new.self _ _ event
    c.in-Ok.taken taken logged counted passes tried c.log_denials.new.unwritten.items

pub returns-clause-below : goal.returns-clause-below
returns-clause-below g c =
    let was = c.args.self.now.served in
    below_counted was.taken c.try_sends.new.served.taken c.args.self.now.tally c.count.new.self
    (culprit_of c.counts-tick.result.ticks (event_view c.in-Ok-Some.event)) c.in-Ok.taken.drop c.in-Ok.taken.effects.denials
    (ap (λ (x : Served). x.taken) c.try_sends.ensures.tried.counts) c.count.ensures c.requires.below

pub returns-clause-few : goal.returns-clause-few
returns-clause-few g c = omega (arith, tried_counted _ _ _ _ _ _ _ c.try_sends.ensures.tried, c.try_sends.ensures.few)

pub returns-in-Ok-None-clause-failures : goal.returns-in-Ok-None-clause-failures
returns-in-Ok-None-clause-failures g c = grind (arith, common_steps)

pub returns-in-Err-clause-failures : goal.returns-in-Err-clause-failures
returns-in-Err-clause-failures g c = grind (arith, common_steps)

pub returns-in-Err-Memory-clause-failures : goal.returns-in-Err-Memory-clause-failures
returns-in-Err-Memory-clause-failures g c = grind (arith, common_steps)

pub returns-in_default-clause-failures : goal.returns-in_default-clause-failures
returns-in_default-clause-failures g c = grind (arith, common_steps)

pub returns-then-not-is_logged-clause-failures : goal.returns-then-not-is_logged-clause-failures
returns-then-not-is_logged-clause-failures g c = grind (arith, common_steps)

pub returns-clause-failures : goal.returns-clause-failures
returns-clause-failures g c = grind (arith, common_steps)
