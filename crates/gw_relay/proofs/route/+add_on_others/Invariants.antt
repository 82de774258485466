use Rattle.std.proofs.Common.{length}
use Rattle.gw_relay.proofs.route.+add_on_others.Given as goal

abbrev pub decreases-add_on_others : goal.decreases-add_on_others
decreases-add_on_others l = length l.ports.now
