use Rattle.gw_addr.proofs.Appended.{then_put}
use Rattle.gw_policy_review.proofs.comparison.pairs.put_given_up.Goals as goal

pub returns : goal.returns
returns c =
    (then_put c.in_ok-put_slice.ensures (then_put c.in_ok-put_decimal.ensures
    (then_put c.in_ok-put_slice-2.ensures (then_put c.in_ok-put_decimal-2.ensures c.put_slice-3.ensures)))).ok
