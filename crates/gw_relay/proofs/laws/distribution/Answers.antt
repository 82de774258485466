use Rattle.gw_relay.proofs.TargetLemmas.{all_ones_reach, own_left_out, sender_left_out}
use Rattle.gw_relay.proofs.laws.distribution.Goals as goal

pub returns : goal.returns
returns c = record { sender = sender_left_out; own = own_left_out; all_ones = all_ones_reach }
