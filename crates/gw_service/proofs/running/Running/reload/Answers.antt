use Rattle.std.proofs.Common.{◌∙◌, ℕ, List, ap, subst, sym}
use Rattle.std.specs.Io.KnownBytes.{Appends}
use Rattle.gw_system.specs.Requests.{text_found}
use Rattle.gw_notices.specs.Reload.{IsRefusalLine, with_taken_over}
use Rattle.gw_service.proofs.ChainLemmas.{refused_so, says_why, taken_so}
use Rattle.gw_service.proofs.running.Running.reload.Goals as goal

pub returns-in-Ok-clause-looked : goal.returns-in-Ok-clause-looked
returns-in-Ok-clause-looked g c = λ first report goes.
    let old = c.args.self.now in
    let said = g.Q.Requests.recorded in
    let held = g.E.OctetSink.held in
    taken_so g.K.StateKeeper.conduct.Adopts old.origin old.gateway old.keeper c.adopt.new.self (text_found c.args.read.now) c.in-Ok.field-0 first
    (said old.requests) (said c.answer.new.self) c.deref.result.now old.counts c.with_taken_over-self.result old.announcing
    c.with_due-self.result
    (g.E.OctetSink.NeverFails c.args.errors.now) (held c.args.errors.now) (held c.write_note.new.errors) g.L.Notes.Takes c.args.log.now
    c.take_note.new.self c.take_note.result report c.in-Ok.ensures.adopted c.adopt.ensures goes
    c.answer.ensures c.deref.ensures.value
    (c.with_taken_over-self.ensures ∙ ap (λ (n : ℕ). with_taken_over old.counts n c.in-Ok.field-0.checksum) c.counts.ensures.ticks)
    c.with_due-self.ensures
    (λ never. subst (λ (t : List ℕ). Appends (held c.args.errors.now) (held c.write_note.new.errors) t)
    (c.deref-in-Ok-2.ensures.value ∙ sym c.deref.ensures.value) (c.write_note.ensures.said never))
    (subst (λ (t : List ℕ). g.L.Notes.Takes c.args.log.now t c.take_note.result c.take_note.new.self)
    (c.deref-in-Ok.ensures.value ∙ sym c.deref.ensures.value) c.take_note.ensures.takes)

pub returns-in-Err-clause-looked : goal.returns-in-Err-clause-looked
returns-in-Err-clause-looked g c = λ first report goes.
    let old = c.args.self.now in
    let said = g.Q.Requests.recorded in
    let held = g.E.OctetSink.held in
    let read = text_found c.args.read.now in
    let fault = c.in-Err.fault in
    refused_so g.K.StateKeeper.conduct.Adopts old.origin old.gateway old.keeper read fault first (said old.requests)
    (said c.answer-in-Err.new.self) c.line_or-line.result.now old.counts c.with_refused-self.result old.announcing (g.E.OctetSink.NeverFails c.args.errors.now)
    (held c.args.errors.now) (held c.write_note-in-Err.new.errors) g.L.Notes.Takes c.args.log.now c.take_note-in-Err.new.self
    c.take_note-in-Err.result report c.in-Err.ensures.fault
    (subst (λ (t : List ℕ). IsRefusalLine read fault t) (sym c.line_or-line.ensures) (says_why read fault c.line_with_place-located.result c.line_with_place-located.ensures))
    goes c.answer-in-Err.ensures c.with_refused-self.ensures (λ never. c.write_note-in-Err.ensures.said never)
    c.take_note-in-Err.ensures.takes
