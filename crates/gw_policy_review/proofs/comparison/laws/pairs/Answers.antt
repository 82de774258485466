use Rattle.gw_policy_review.proofs.comparison_lemmas.TextLaw.{pairs_are_all, pairs_have_asks}
use Rattle.gw_policy_review.proofs.comparison.laws.pairs.Goals as goal

pub returns : goal.returns
returns c = record { all = pairs_are_all; asks = pairs_have_asks }
