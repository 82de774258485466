use Rattle.gw_addr.proofs.Appended.{then_put}
use Rattle.gw_policy_review.proofs.comparison.comparing.put_used.Goals as goal

pub returns : goal.returns
returns c = then_put c.in_ok-put_decimal.ensures c.put_slice.ensures
