use Rattle.std.proofs.Common.{sym, subst, Result, IsSomeAnd}
use Rattle.std.specs.Io.Buffered.{writer_contents}
use Rattle.gw_policy_drafts.specs.suggestion.Suggestion.{LeavesSuggestion}
use Rattle.gw_tools.specs.Suggesting.{Suggests, first_suggestion_fault}
use Rattle.gw_ending.specs.declared.fault.Fault.{Fault}
use Rattle.gw_ending.proofs.reading_lemmas.KnownLemmas.{kept, weaker}
use Rattle.gw_tools.proofs.SuggestLemmas.{flushed_suggestion}
use Rattle.gw_tools.proofs.suggesting.suggest.Goals as goal

pub returns-clause-suggests : goal.returns-clause-suggests
returns-clause-suggests g c = λ log before reads holds.
    let contents = writer_contents g.W.Write.contents in
    let text = c.args.text.now in
    let done = c.suggest-suggestion in
    let ends = first_suggestion_fault done.result c.is_ok-is_flushed.result in
    let leaves : IsSomeAnd (contents done.new.writer) (LeavesSuggestion text c.args.manner done.result log before) = done.ensures log before reads holds in
    let suggested : IsSomeAnd (contents done.new.writer) (Suggests text c.args.manner log before ends) =
    weaker (LeavesSuggestion text c.args.manner done.result log before) (Suggests text c.args.manner log before ends) (contents done.new.writer)
    (λ bytes is. flushed_suggestion text c.args.manner log before bytes done.result c.is_ok-is_flushed.result is) leaves in
    subst (λ (r : Result (Unit {0}) Fault). IsSomeAnd (contents c.flush.new.self) (Suggests text c.args.manner log before r)) (sym c.first_fault.ensures)
    (kept (Suggests text c.args.manner log before ends) (contents done.new.writer) (contents c.flush.new.self) c.flush.ensures.bytes suggested)
