use Rattle.std.proofs.Common.{sym, subst, Result, IsSomeAnd}
use Rattle.std.specs.Io.Buffered.{writer_contents}
use Rattle.gw_ending.specs.declared.fault.Fault.{Fault}
use Rattle.gw_log_words.specs.Translation.{RefusesNone}
use Rattle.gw_json.specs.Log.{IsEntryIn, LeavesEntries}
use Rattle.gw_tools.specs.Lines.{first_lines_fault}
use Rattle.gw_tools.specs.Objects.{Lists}
use Rattle.gw_tools.proofs.LinesLemmas.{flushed_lines}
use Rattle.gw_ending.proofs.reading_lemmas.KnownLemmas.{kept, weaker}
use Rattle.gw_tools.proofs.objects.list.Goals as goal

pub returns-clause-lists : goal.returns-clause-lists
returns-clause-lists g c = λ log before reads holds.
    let contents = writer_contents g.W.Write.contents in
    let done = c.log_in_json-listing in
    let ends = first_lines_fault done.result c.is_ok-is_flushed.result in
    let leaves : IsSomeAnd (contents done.new.writer) (LeavesEntries done.result log before) = done.ensures.entries log before reads holds in
    let listed : IsSomeAnd (contents done.new.writer) (Lists log before ends) =
    weaker (LeavesEntries done.result log before) (Lists log before ends) (contents done.new.writer)
    (λ bytes is. flushed_lines IsEntryIn RefusesNone log before bytes done.result c.is_ok-is_flushed.result is) leaves in
    subst (λ (r : Result (Unit {0}) Fault). IsSomeAnd (contents c.flush.new.self) (Lists log before r)) (sym c.first_lines_fault.ensures)
    (kept (Lists log before ends) (contents done.new.writer) (contents c.flush.new.self) c.flush.ensures.bytes listed)
