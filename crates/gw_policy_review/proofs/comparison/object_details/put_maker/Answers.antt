use Rattle.gw_policy_review.proofs.comparison_lemmas.Appending.{three}
use Rattle.gw_policy_review.proofs.comparison.object_details.put_maker.Goals as goal

pub returns : goal.returns
returns c =
    let vendor = c.in_ok-put_number_change.ensures in
    let vendor = rw (c.from-vendor.ensures, c.from-other.ensures) at vendor in
    three c.put_text_change-2.result c.args.out.now.items c.put_number_change.new.out.items c.put_text_change.new.out.items
    c.put_text_change-2.new.out.items _ _ _ vendor c.in_ok-put_text_change.ensures c.put_text_change-2.ensures
