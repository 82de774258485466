use Rattle.gw_policy_drafts.specs.suggestion.Text.{left_table}
use Rattle.gw_policy_drafts.proofs.Putting.{five_put}
use Rattle.gw_policy_drafts.proofs.suggestion.text.put_left_table.Goals as goal

pub returns : goal.returns
unfolding left_table
returns c =
    five_put c.args.out.now.items c.extend_from_slice.new.self.items c.extend_from_slice-2.new.self.items c.extend_from_slice-3.new.self.items
    c.put_left_fields.new.out.items c.push.new.self.items _ _ _ _ _ c.in_ok-extend_from_slice.ensures.items
    (rw (c.as_bytes.ensures.value, c.as_str.ensures.text) at c.in_ok-extend_from_slice-2.ensures.items)
    c.in_ok-extend_from_slice-3.ensures.items c.in_ok-put_left_fields.ensures c.in_ok-push.ensures.items
