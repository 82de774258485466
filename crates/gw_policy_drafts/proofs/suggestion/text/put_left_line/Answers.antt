use Rattle.gw_policy_drafts.specs.suggestion.Text.{left_line}
use Rattle.gw_policy_drafts.proofs.Putting.{three_put}
use Rattle.gw_policy_drafts.proofs.suggestion.text.put_left_line.Goals as goal

pub returns : goal.returns
unfolding left_line
returns c =
    three_put c.args.out.now.items c.extend_from_slice.new.self.items c.extend_from_slice-2.new.self.items c.extend_from_slice-3.new.self.items
    _ _ _ c.in_ok-extend_from_slice.ensures.items (rw c.as_bytes.ensures.value at c.in_ok-extend_from_slice-2.ensures.items)
    c.in_ok-extend_from_slice-3.ensures.items
