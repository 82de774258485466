-- How the messages of a list are kept.
use Rattle.std.specs.Prelude.{List, []}
use Rattle.gw_relay.specs.Sends.{Batch}
use Rattle.gw_relay.specs.declared.sends.Batches.{Batches}
use Rattle.gw_relay.specs.declared.sends.Batches.TheVariants.{None, One, Many}

-- the messages
abbrev pub batches_of : Batches → List Batch
batches_of None = []
batches_of (One batch) = batch
batches_of (Many batches) = batches.items
