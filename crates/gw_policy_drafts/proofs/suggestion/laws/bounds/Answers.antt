use Rattle.gw_policy_drafts.proofs.suggestion_lemmas.SuggestLaw.{allows_no_other, fills_no_other, opens_nothing}
use Rattle.gw_policy_drafts.proofs.suggestion.laws.bounds.Goals as goal

pub returns : goal.returns
returns c = record { seen = allows_no_other; closed = opens_nothing; filled = fills_no_other }
