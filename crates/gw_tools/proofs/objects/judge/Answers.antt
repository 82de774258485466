use Rattle.std.proofs.Common.{sym, subst, ℕ, List, Result, IsSomeAnd}
use Rattle.std.specs.Io.Buffered.{writer_contents}
use Rattle.gw_ending.specs.declared.fault.Fault.{Fault}
use Rattle.gw_json.specs.Why.{IsAnswerIn, LeavesVerdicts, SaysNoAsk, place_members}
use Rattle.gw_tools.specs.Lines.{first_lines_fault}
use Rattle.gw_tools.specs.Objects.{Judges}
use Rattle.gw_tools.proofs.LinesLemmas.{flushed_lines}
use Rattle.gw_ending.proofs.reading_lemmas.KnownLemmas.{kept, weaker}
use Rattle.gw_tools.proofs.objects.judge.Goals as goal

pub returns-clause-judges : goal.returns-clause-judges
returns-clause-judges g c = λ text before reads holds.
    let contents = writer_contents g.W.Write.contents in
    let placed = c.args.placed.now in
    let list = placed.config.rules in
    let notes = placed.config.notes in
    let place = place_members placed.config.tables placed.lines.items in
    let done = c.why_in_json-verdicts in
    let ends = first_lines_fault done.result c.is_ok-is_flushed.result in
    let leaves : IsSomeAnd (contents done.new.writer) (LeavesVerdicts list notes place done.result text before) =
    subst (λ (lines : List ℕ). IsSomeAnd (contents done.new.writer) (LeavesVerdicts list notes (place_members placed.config.tables lines) done.result text before))
    c.deref.ensures.value (done.ensures.verdicts text before reads holds) in
    let judged : IsSomeAnd (contents done.new.writer) (Judges placed text before ends) =
    weaker (LeavesVerdicts list notes place done.result text before) (Judges placed text before ends) (contents done.new.writer)
    (λ bytes is. flushed_lines (IsAnswerIn list notes place) SaysNoAsk text before bytes done.result c.is_ok-is_flushed.result is) leaves in
    subst (λ (r : Result (Unit {0}) Fault). IsSomeAnd (contents c.flush.new.self) (Judges placed text before r)) (sym c.first_lines_fault.ensures)
    (kept (Judges placed text before ends) (contents done.new.writer) (contents c.flush.new.self) c.flush.ensures.bytes judged)
