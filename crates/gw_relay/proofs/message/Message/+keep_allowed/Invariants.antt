use Rattle.std.proofs.Common.{length}
use Rattle.gw_relay.proofs.message.Message.+keep_allowed.Given as goal

abbrev pub decreases-keep_allowed : goal.decreases-keep_allowed
decreases-keep_allowed g l = length l.octets.now
