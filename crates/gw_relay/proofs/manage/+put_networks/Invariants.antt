use Rattle.std.proofs.Common.{length}
use Rattle.gw_relay.proofs.manage.+put_networks.Given as goal

abbrev pub decreases-put_networks : goal.decreases-put_networks
decreases-put_networks l = length l.networks.now
