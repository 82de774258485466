use Rattle.gw_policy_review.proofs.comparison_lemmas.TextLaw.{alike_is_alike, found_is_all, lines_are_true, lines_have_asks, none_has_ask, operation_has_ask}
use Rattle.gw_policy_review.proofs.comparison.laws.comparisons.Goals as goal

pub returns : goal.returns
returns c = record { all = found_is_all; alike = alike_is_alike; lines = lines_are_true; asks = lines_have_asks; or_none = none_has_ask; operations = operation_has_ask }
