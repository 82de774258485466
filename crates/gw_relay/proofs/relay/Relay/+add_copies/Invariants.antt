use Rattle.std.proofs.Common.{length}
use Rattle.gw_relay.proofs.relay.Relay.+add_copies.Given as goal

abbrev pub decreases-add_copies : goal.decreases-add_copies
decreases-add_copies g l = length l.ports.now
