use Rattle.std.proofs.Common.{length}
use Rattle.gw_relay.proofs.manage.+are_networks.Given as goal

abbrev pub decreases-are_networks : goal.decreases-are_networks
decreases-are_networks l = length l.octets.now
