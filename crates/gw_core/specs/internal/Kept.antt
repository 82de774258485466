-- What a gateway keeps true of its parts.
use Rattle.std.specs.Prelude.{◌≡◌, ◌^◌, ◌≤◌, ℕ, length}
use Rattle.gw_addr.specs.declared.TheConstants.{MAX_PORTS}
use Rattle.gw_relay.specs.State.{Relay}
use Rattle.gw_core.specs.declared.event.Counts.{Counts}

-- There are 1 to 8 ports, each with its tables; and no count is past its end, nor are the relay's ticks more than the
-- gateway's.
pub record IsKept (count : ℕ) (relay : Relay) (counts : Counts) : Type 0 where
  pub some : 1 ≤ count
  pub most : count ≤ MAX_PORTS
  pub ports : length relay.ports ≡ count
  pub later : relay.ticks ≤ counts.ticks
  pub ticks : counts.ticks ≤ 2 ^ 63
  pub denials : counts.denials ≤ 2 ^ 63
