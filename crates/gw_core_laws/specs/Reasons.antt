-- A reason is given exactly of what is dropped.
use Rattle.std.specs.Prelude.{◌≡◌, ℕ, Bool, true, false, List, Option, Some, None}
use Rattle.gw_addr.specs.declared.bip.BipAddr.{BipAddr}
use Rattle.gw_script.specs.Event.{Datagram}
use Rattle.gw_core.specs.declared.drops.DropReason.{DropReason}
use Rattle.gw_core.specs.Drops.{drop_at}
use Rattle.gw_core.specs.Receive.{Received, dropped, receive}
use Rattle.gw_core.specs.State.{State}

abbrev pub is_dropped : Received → Bool
is_dropped dropped = true
is_dropped _ = false

abbrev pub has_reason : Option DropReason → Bool
has_reason None = false
has_reason (Some why) = true

-- A datagram is dropped exactly if it has a reason.
abbrev pub DropsHaveReasons : Type 0
DropsHaveReasons = (w : State) (port : ℕ) (from : BipAddr) (octets : List ℕ) →
    is_dropped (receive w (Datagram port from octets)) ≡ has_reason (drop_at w (Datagram port from octets))
