use Rattle.gw_policy_drafts.specs.suggestion.Text.{open_asks_line}
use Rattle.gw_policy_drafts.proofs.Putting.{three_put}
use Rattle.gw_policy_drafts.proofs.suggestion.text.put_open_asks.Goals as goal

pub returns : goal.returns
unfolding open_asks_line
returns c =
    three_put c.args.out.now.items c.extend_from_slice.new.self.items c.put_counted.new.out.items
    c.extend_from_slice-2.new.self.items _ _ _ c.in_ok-extend_from_slice.ensures.items c.in_ok-put_counted.ensures
    c.in_ok-extend_from_slice-2.ensures.items
