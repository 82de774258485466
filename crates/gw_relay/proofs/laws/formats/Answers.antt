use Rattle.gw_relay.proofs.FormatLemmas.{broadcasts_are_as_before, network_messages_are_as_before, routing_is_as_before, tables_are_as_before}
use Rattle.gw_relay.proofs.laws.formats.Goals as goal

pub returns-clause-tables : goal.returns-clause-tables
returns-clause-tables c = tables_are_as_before

pub returns-clause-broadcasts : goal.returns-clause-broadcasts
returns-clause-broadcasts c = broadcasts_are_as_before

pub returns-clause-routing : goal.returns-clause-routing
returns-clause-routing c = routing_is_as_before

pub returns-clause-network_messages : goal.returns-clause-network_messages
returns-clause-network_messages c = network_messages_are_as_before
