use Rattle.std.proofs.Common.{sym, subst, ℕ, List, Result, IsSomeAnd}
use Rattle.std.specs.Io.Buffered.{writer_contents}
use Rattle.gw_ending.specs.declared.fault.Fault.{Fault}
use Rattle.gw_verdicts.specs.Why.{IsAnswered, LeavesAnswers, ShowsNoAsk, said_text}
use Rattle.gw_tools.specs.Asking.{Answers}
use Rattle.gw_tools.specs.Lines.{first_lines_fault}
use Rattle.gw_tools.proofs.LinesLemmas.{flushed_lines}
use Rattle.gw_ending.proofs.reading_lemmas.KnownLemmas.{kept, weaker}
use Rattle.gw_tools.proofs.asking.why.Goals as goal

pub returns-clause-answers : goal.returns-clause-answers
returns-clause-answers g c = λ text before reads holds.
    let contents = writer_contents g.W.Write.contents in
    let placed = c.args.placed.now in
    let list = placed.config.rules in
    let said = said_text placed.config placed.lines.items in
    let done = c.why-answers in
    let ends = first_lines_fault done.result c.is_ok-is_flushed.result in
    let leaves : IsSomeAnd (contents done.new.writer) (LeavesAnswers list said done.result text before) =
    subst (λ (lines : List ℕ). IsSomeAnd (contents done.new.writer) (LeavesAnswers list (said_text placed.config lines) done.result text before))
    c.deref.ensures.value (done.ensures.answers text before reads holds) in
    let answered : IsSomeAnd (contents done.new.writer) (Answers list said text before ends) =
    weaker (LeavesAnswers list said done.result text before) (Answers list said text before ends) (contents done.new.writer)
    (λ bytes is. flushed_lines (IsAnswered list said) ShowsNoAsk text before bytes done.result c.is_ok-is_flushed.result is) leaves in
    subst (λ (r : Result (Unit {0}) Fault). IsSomeAnd (contents c.flush.new.self) (Answers list said text before r)) (sym c.first_lines_fault.ensures)
    (kept (Answers list said text before ends) (contents done.new.writer) (contents c.flush.new.self) c.flush.ensures.bytes answered)
