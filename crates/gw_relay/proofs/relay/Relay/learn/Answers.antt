use Rattle.std.proofs.Common.{◌∙◌, ap}
use Rattle.gw_relay.specs.Manage.{are_networks}
use Rattle.gw_relay.specs.Message.{message_view}
use Rattle.gw_relay.proofs.Learning.{whole_networks}
use Rattle.gw_relay.proofs.relay.Relay.learn.Goals as goal

pub keep_allowed-requires : goal.keep_allowed-requires
keep_allowed-requires g c =
    ap are_networks c.octets-octets.ensures ∙ whole_networks (message_view c.args.message.now).npdu c.requires
