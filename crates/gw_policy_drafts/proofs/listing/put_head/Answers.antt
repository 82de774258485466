use Rattle.gw_policy_drafts.specs.Listing.{head_text}
use Rattle.gw_policy_drafts.proofs.Putting.{three_tried}
use Rattle.gw_policy_drafts.proofs.listing.put_head.Goals as goal

pub returns : goal.returns
unfolding head_text
returns c =
    three_tried c.put_allow.result c.args.out.now.items c.extend_from_slice.new.self.items c.put_quoted.new.out.items c.put_allow.new.out.items
    _ _ _ c.in_ok-extend_from_slice.ensures.items (rw c.as_str.ensures.text at c.in_ok-put_quoted.ensures) c.put_allow.ensures
