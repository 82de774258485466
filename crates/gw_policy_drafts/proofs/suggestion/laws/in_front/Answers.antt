use Rattle.gw_policy_drafts.proofs.suggestion_lemmas.SuggestLaw.{allows_what_matches}
use Rattle.gw_policy_drafts.proofs.suggestion.laws.in_front.Goals as goal

pub returns : goal.returns
returns c = allows_what_matches
