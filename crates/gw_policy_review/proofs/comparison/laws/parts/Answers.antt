use Rattle.gw_policy_review.proofs.comparison_lemmas.LoggedLaw.{alike_is_logged}
use Rattle.gw_policy_review.proofs.comparison_lemmas.PartsLaw.{alike_is_like, like_has_none, none_differs}
use Rattle.gw_policy_review.proofs.comparison.laws.parts.Goals as goal

pub returns : goal.returns
returns c = record { none = none_differs; like = like_has_none; alike = alike_is_like; logged = alike_is_logged }
