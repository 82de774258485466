use Rattle.std.proofs.Common.{sym, subst, Result, IsSomeAnd}
use Rattle.std.specs.Io.Buffered.{writer_contents}
use Rattle.gw_ending.specs.declared.fault.Fault.{Fault}
use Rattle.gw_log_words.specs.Translation.{RefusesNone}
use Rattle.gw_log_words.specs.Translating.{IsTranslatedAfterFront, LeavesTranslated}
use Rattle.gw_tools.specs.Lines.{first_lines_fault}
use Rattle.gw_tools.specs.Translating.{Translates}
use Rattle.gw_tools.proofs.LinesLemmas.{flushed_lines}
use Rattle.gw_ending.proofs.reading_lemmas.KnownLemmas.{kept, weaker}
use Rattle.gw_tools.proofs.translating.translate.Goals as goal

pub returns-clause-translates : goal.returns-clause-translates
returns-clause-translates g c = λ log before reads holds.
    let contents = writer_contents g.W.Write.contents in
    let done = c.translate_log-translating in
    let ends = first_lines_fault done.result c.is_ok-is_flushed.result in
    let leaves : IsSomeAnd (contents done.new.writer) (LeavesTranslated c.args.start done.result log before) = done.ensures.translated log before reads holds in
    let said : IsSomeAnd (contents done.new.writer) (Translates c.args.start log before ends) =
    weaker (LeavesTranslated c.args.start done.result log before) (Translates c.args.start log before ends) (contents done.new.writer)
    (λ bytes is. flushed_lines (IsTranslatedAfterFront c.args.start) RefusesNone log before bytes done.result c.is_ok-is_flushed.result is) leaves in
    subst (λ (r : Result (Unit {0}) Fault). IsSomeAnd (contents c.flush.new.self) (Translates c.args.start log before r)) (sym c.first_lines_fault.ensures)
    (kept (Translates c.args.start log before ends) (contents done.new.writer) (contents c.flush.new.self) c.flush.ensures.bytes said)
