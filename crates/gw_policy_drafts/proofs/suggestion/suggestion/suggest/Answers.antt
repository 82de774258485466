use Rattle.std.proofs.Common.{List, ℕ, subst, sym}
use Rattle.gw_policy_drafts.specs.suggestion.Suggestion.{IsSuggested}
use Rattle.gw_policy_drafts.proofs.suggestion_lemmas.TextLaw.{made_left}
use Rattle.gw_policy_drafts.proofs.suggestion.suggestion.suggest.Goals as goal

pub returns-in-Ok : goal.returns-in-Ok
returns-in-Ok g c = λ log before read held.
    made_left c.args.text.now c.args.manner c.write.result (g.W.OctetSink.held c.write.new.writer) log before c.as_slice.result.now
    (subst (λ (t : List ℕ). IsSuggested c.args.text.now c.args.manner log t) (sym c.as_slice.ensures.value) (c.in-Ok.ensures log read))
    (c.write.ensures before held)
