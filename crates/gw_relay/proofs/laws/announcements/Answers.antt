use Rattle.gw_relay.proofs.NeighbourLemmas.{announcements_end, each_is_announced_once, nothing_learned_nothing_sent, onward_is_first_learned, onward_is_granted, onward_leaves}
use Rattle.gw_relay.proofs.laws.announcements.Goals as goal

pub returns : goal.returns
returns c = record {
  elsewhere = onward_leaves;
  granted = onward_is_granted;
  nothing = nothing_learned_nothing_sent;
  learned = onward_is_first_learned;
  end = announcements_end;
  once = each_is_announced_once;
}
