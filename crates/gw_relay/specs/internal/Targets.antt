-- How whom a message goes to is kept.
use Rattle.std.specs.Prelude.{List}
use Rattle.gw_addr.specs.declared.bip.BipAddr.{BipAddr}
use Rattle.gw_relay.specs.declared.sends.Targets.{Targets}
use Rattle.gw_relay.specs.declared.sends.Targets.TheVariants.{One, Many}

-- the addresses
abbrev pub addresses_of : Targets → List BipAddr
addresses_of (One target) = target
addresses_of (Many targets) = targets.items
