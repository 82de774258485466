use Rattle.gw_policy_review.proofs.comparison_lemmas.Appending.{four}
use Rattle.gw_policy_review.proofs.comparison.object_details.put_device.Goals as goal

pub returns : goal.returns
returns c =
    four c.put_text_change.result c.args.out.now.items c.put_identity.new.out.items c.put_maker.new.out.items
    c.put_versions.new.out.items c.put_text_change.new.out.items _ _ _ _ c.in_ok-put_identity.ensures c.in_ok-put_maker.ensures
    c.in_ok-put_versions.ensures c.put_text_change.ensures
