use Rattle.gw_policy_review.proofs.comparison_lemmas.Appending.{three}
use Rattle.gw_policy_review.proofs.comparison.object_details.put_identity.Goals as goal

pub returns : goal.returns
returns c =
    let network = c.in_ok-put_number_change.ensures in
    let network = rw (c.from-network.ensures, c.get.ensures.value, c.from-other.ensures, c.get-2.ensures.value) at network in
    let instance = c.in_ok-put_number_change-2.ensures in
    let instance = rw (c.from-instance.ensures, c.get-3.ensures.value, c.from-other-2.ensures, c.get-4.ensures.value) at instance in
    three c.put_text_change.result c.args.out.now.items c.put_number_change.new.out.items c.put_number_change-2.new.out.items
    c.put_text_change.new.out.items _ _ _ network instance c.put_text_change.ensures
