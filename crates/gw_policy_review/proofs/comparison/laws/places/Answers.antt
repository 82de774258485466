use Rattle.gw_policy_review.proofs.comparison_lemmas.NamesLaw.{no_place_is_named}
use Rattle.gw_policy_review.proofs.comparison.laws.places.Goals as goal

pub returns : goal.returns
returns c = no_place_is_named
