use Rattle.gw_frames.specs.npdu.Npdu.{view}
use Rattle.gw_frames.specs.npdu.Onward.{onward_view}
use Rattle.gw_frames.proofs.npdu_lemmas.Whole.{next_again}
use Rattle.gw_frames.proofs.npdu.laws.read_at_next_hop.Goals as goal

pub returns : goal.returns
returns c =
    next_again (view c.args.npdu.now) (onward_view c.args.how.now) (view c.next-next.result) c.next-next.ensures c.valid.ensures
