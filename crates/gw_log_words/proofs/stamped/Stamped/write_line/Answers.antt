use Rattle.std.proofs.Common.{◌∙◌, Bool, ℕ, Result, true, false, refl, sym, ap, subst}
use Rattle.std.specs.Io.KnownBytes.{Keeps, WriteAppends}
use Rattle.gw_script.proofs.Passing.{passes_on}
use Rattle.gw_script.proofs.UnreadLemmas.{keeps_same}
use Rattle.gw_log_words.specs.Stamped.{held_without}
use Rattle.gw_log_words.proofs.StampLemmas.{front_keeps, piece_writes, stamp_keeps, writes_along, written_after, written_within}
use Rattle.gw_log_words.proofs.stamped.Stamped.write_line.Goals.{then-self+in_ok-write_stamp, else-self}
use Rattle.gw_log_words.proofs.stamped.Stamped.write_line.Goals as goal

pub returns-in_err-write_stamp-clause-octets : goal.returns-in_err-write_stamp-clause-octets
returns-in_err-write_stamp-clause-octets g c =
    let held = g.S.OctetSink.held in
    let was = c.args.self.now in
    let is = c.write_stamp.new.self in
    let front = c.in_err-write_stamp.ensures.front in
    let kept = front_keeps (held was.sink) (held is.sink) front.0 front.1 front.2 in
    let before = subst (λ (b : Bool). Keeps (held_without b (held was.sink)) (held_without true (held is.sink))) (sym c.if-self.true) kept in
    let both = subst (λ (b : Bool). Keeps (held_without was.in_stamp (held was.sink)) (held_without b (held is.sink)))
    (sym (c.in_err-write_stamp.ensures.still ∙ c.if-self.true)) before in
    passes_on (λ (r : Result ℕ _). WriteAppends (held_without was.in_stamp (held was.sink)) (held_without is.in_stamp (held is.sink)) r c.args.piece.now)
    c.in_err-write_stamp.field-0.0 c.from_residual.result c.from_residual.ensures both

pub returns-clause-octets : goal.returns-clause-octets
returns-clause-octets g c =
    let held = g.S.OctetSink.held in
    let was = c.args.self.now in
    let then = c.if-self.self in
    let is = c.write_piece.new.self in
    let piece = c.args.piece.now in
    let wrote = piece_writes (held then.sink) (held is.sink) is.in_stamp c.write_piece.result piece c.requires.ends
    c.write_piece.ensures.octets c.write_piece.ensures.ends c.write_piece.ensures.still in
    let kept : Keeps (held_without was.in_stamp (held was.sink)) (held_without false (held then.sink)) = elim c.if-self.branch [
      | then-self+in_ok-write_stamp w ↦
          subst (λ s. Keeps (held_without was.in_stamp (held was.sink)) (held_without false (held s.sink))) (sym w.self-is)
          (subst (λ (b : Bool). Keeps (held_without b (held was.sink)) (held_without false (held w.write_stamp.new.self.sink))) (sym w.if-self.true)
          (let stamp = w.in_ok-write_stamp.ensures.stamp in
          stamp_keeps (held was.sink) (held w.write_stamp.new.self.sink) _ stamp.2 stamp.3))
      | else-self w ↦
          subst (λ s. Keeps (held_without was.in_stamp (held was.sink)) (held_without false (held s.sink))) (sym w.self-is)
          (subst (λ (b : Bool). Keeps (held_without b (held was.sink)) (held_without false (held was.sink))) (sym w.if-self.false)
          (keeps_same (held_without false (held was.sink)) _ refl))
    ] in
    writes_along _ _ _ c.write_piece.result piece kept wrote

pub returns-clause-stamped : goal.returns-clause-stamped
returns-clause-stamped g c =
    let held = g.S.OctetSink.held in
    let was = c.args.self.now in
    let is = c.write_piece.new.self in
    let piece = c.args.piece.now in
    let r = c.write_piece.result in
    elim c.if-self.branch [
      | then-self+in_ok-write_stamp w ↦
          let stamp = w.in_ok-write_stamp.ensures.stamp in
          let then = w.write_stamp.new.self in
          let same = c.write_piece.ensures.calendar ∙ ap (λ s. s.calendar) w.self-is in
          let wrote = subst (λ s. WriteAppends (held s.sink) (held is.sink) r piece) w.self-is c.write_piece.ensures.octets in
          written_after (g.C.Calendar.Shows is.calendar) was.in_stamp (held was.sink) (held then.sink) (held is.sink) r piece stamp.0
          w.if-self.true (subst (λ k. g.C.Calendar.Shows k stamp.0) (sym same) stamp.1) stamp.3 wrote
      | else-self w ↦
          let wrote = subst (λ s. WriteAppends (held s.sink) (held is.sink) r piece) w.self-is c.write_piece.ensures.octets in
          written_within (g.C.Calendar.Shows is.calendar) was.in_stamp (held was.sink) (held is.sink) r piece w.if-self.false wrote
    ]
