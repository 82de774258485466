use Rattle.gw_policy_drafts.proofs.suggestion_lemmas.SuggestLaw.{allows_each}
use Rattle.gw_policy_drafts.proofs.suggestion.laws.given.Goals as goal

pub returns : goal.returns
returns c = allows_each
