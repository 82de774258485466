use Rattle.gw_policy_review.proofs.comparison_lemmas.Appending.{two}
use Rattle.gw_policy_review.proofs.comparison.port_details.put_replaced.Goals as goal

pub returns : goal.returns
returns c =
    two c.put_three-2.result c.args.out.now.items c.put_three.new.out.items c.put_three-2.new.out.items _ _ c.in_ok-put_three.ensures
    c.put_three-2.ensures
