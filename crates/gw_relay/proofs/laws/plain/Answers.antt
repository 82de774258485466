use Rattle.gw_relay.proofs.PlainLemmas.{plain_broadcasts, plain_network_messages, plain_tables}
use Rattle.gw_relay.proofs.laws.plain.Goals as goal

pub returns : goal.returns
returns c = record {
  tables = plain_tables;
  broadcasts = plain_broadcasts;
  network_messages = plain_network_messages;
}
