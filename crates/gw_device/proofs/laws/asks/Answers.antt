use Rattle.gw_device.proofs.Changes.{asks_have_their_sender, asks_have_their_source}
use Rattle.gw_device.proofs.laws.asks.Goals as goal

pub returns-clause-source : goal.returns-clause-source
returns-clause-source c = asks_have_their_source

pub returns-clause-sender : goal.returns-clause-sender
returns-clause-sender c = asks_have_their_sender
