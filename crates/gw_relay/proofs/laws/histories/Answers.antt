use Rattle.gw_relay.proofs.Histories.{changes_extend, configured_stand, ticks_extend}
use Rattle.gw_relay.proofs.laws.histories.Goals as goal

pub returns : goal.returns
returns c = record { initial = configured_stand; changes = changes_extend; ticks = ticks_extend }
