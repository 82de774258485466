use Rattle.gw_relay.proofs.Delivery.{nothing_is_delivered_outside}
use Rattle.gw_relay.proofs.laws.delivery.Goals as goal

pub returns : goal.returns
returns c = record { inside = nothing_is_delivered_outside }
