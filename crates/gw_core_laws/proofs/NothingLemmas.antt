-- What asks nothing writes and changes nothing, and what is dropped needs no memory.
use Rattle.std.proofs.Common.{ap}
use Rattle.std.specs.Option.{option_map}
use Rattle.gw_relay.specs.State.{Commit}
use Rattle.gw_script.specs.Event.{Datagram}
use Rattle.gw_core.specs.Asks.{asks, asks_for}
use Rattle.gw_core.specs.Effects.{change_at, move_at, sends, sends_for}
use Rattle.gw_core_laws.specs.Laws.{DroppedNeedsNoMemory, NothingAskedIsChanged, NothingAskedIsWritten}
use Rattle.gw_core.specs.Receive.{Received, receive}
use Rattle.gw_core.proofs.SilenceLemmas.{unchanged, unwritten}

pub nothing_asked_is_written : NothingAskedIsWritten
unfolding asks change_at
nothing_asked_is_written w e none = unwritten w.rules w.relay w.device (receive w e) none

pub nothing_asked_is_changed : NothingAskedIsChanged
unfolding asks move_at
nothing_asked_is_changed w port from octets none =
    ap (option_map Commit) (unchanged w.rules w.relay w.device (receive w (Datagram port from octets)) none)

-- what is dropped asks and sends nothing
pub dropped_needs_no_memory : DroppedNeedsNoMemory
unfolding asks sends
dropped_needs_no_memory w e is =
    (ap (λ (r : Received). asks_for w.rules w.relay w.device r) is, ap (λ (r : Received). sends_for w.rules w.relay w.device r) is)
