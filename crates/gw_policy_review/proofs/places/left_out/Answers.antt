use Rattle.gw_policy_review.proofs.PlacesLaw.{left_out}
use Rattle.gw_policy_review.proofs.places.left_out.Goals as goal

pub returns : goal.returns
returns c = left_out
