use Rattle.gw_relay.proofs.Claims.{broadcasts_carry_their_claim, network_messages_carry_their_claim, routing_carries_the_claim}
use Rattle.gw_relay.proofs.laws.claims.Goals as goal

pub returns-clause-broadcasts : goal.returns-clause-broadcasts
returns-clause-broadcasts c = broadcasts_carry_their_claim

pub returns-clause-routing : goal.returns-clause-routing
returns-clause-routing c = routing_carries_the_claim

pub returns-clause-network_messages : goal.returns-clause-network_messages
returns-clause-network_messages c = network_messages_carry_their_claim
