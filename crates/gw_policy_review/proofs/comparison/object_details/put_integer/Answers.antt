use Rattle.gw_policy_review.proofs.comparison_lemmas.Appending.{two}
use Rattle.gw_policy_review.proofs.comparison.object_details.put_integer.Goals as goal

pub returns : goal.returns
returns c =
    let units = c.put_number_change.ensures in
    let units = rw (c.from.ensures, c.from-2.ensures) at units in
    two c.put_number_change.result c.args.out.now.items c.put_default.new.out.items c.put_number_change.new.out.items _ _
    c.in_ok-put_default.ensures units
