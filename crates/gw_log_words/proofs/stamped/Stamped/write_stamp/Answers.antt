use Rattle.std.proofs.Common.{◌∙◌, List, ℕ, sym, subst}
use Rattle.std.specs.Io.KnownBytes.{Appends}
use Rattle.gw_addr.specs.Text.{Lacks}
use Rattle.gw_script.proofs.Passing.{on_err}
use Rattle.gw_log_words.proofs.StampLemmas.{appends_then_keeps, lacks_front}
use Rattle.gw_log_words.proofs.stamped.Stamped.write_stamp.Goals as goal

pub returns-in_err-write_whole-clause-front : goal.returns-in_err-write_whole-clause-front
returns-in_err-write_whole-clause-front g c =
    let held = g.S.OctetSink.held in
    let made = c.in_err-write_whole.ensures.front in
    let same = sym c.deref.ensures.value ∙ made.2 in
    let front : (front : List ℕ) × Lacks 32 front × Appends (held c.args.self.now.sink) (held c.write_whole.new.sink) front =
    (made.0, lacks_front 32 made.0 made.1 (subst (Lacks 32) same c.in_ok-word.ensures.spaceless), made.3) in
    on_err c.from_residual-in_err-write_whole.result front

pub returns-in_err-write_octets-clause-front : goal.returns-in_err-write_octets-clause-front
returns-in_err-write_octets-clause-front g c =
    let held = g.S.OctetSink.held in
    let word = c.deref.result.now in
    let front : (front : List ℕ) × Lacks 32 front × Appends (held c.args.self.now.sink) (held c.write_octets.new.self) front = (
      word,
      subst (Lacks 32) (sym c.deref.ensures.value) c.in_ok-word.ensures.spaceless,
      appends_then_keeps _ _ _ word c.in_ok-write_whole.ensures.ok c.in_err-write_octets.ensures.octets,
    ) in
    on_err c.from_residual-in_err-write_octets.result front
