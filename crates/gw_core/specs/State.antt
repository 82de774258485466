-- The state of a gateway: what it keeps between two events, one field for each of its parts, and the
-- counts.
use Rattle.std.specs.Prelude.{ℕ, List}
use Rattle.gw_objects.specs.Objects.{Database}
use Rattle.gw_relay.specs.State.{Relay}
use Rattle.gw_rules.specs.declared.rule.Rule.{Rule}

-- The ports with their tables, and the routes; the device with the slots and the default of each of its
-- objects; and the rules; how many ticks there were, and the number of the last denial.
pub record State : Type 0 where
  pub relay : Relay
  pub device : Database
  pub rules : List Rule
  pub ticks : ℕ
  pub denials : ℕ

-- the network that the device is the one station of
abbrev pub device_network : Database → ℕ
device_network d = d.configured.device.network
