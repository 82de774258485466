-- The sends of an NPDU that was made, or was too long to be.
use Rattle.std.specs.Prelude.{ℕ, List, [], ◌∷◌, Option}
use Rattle.std.specs.Option.{option_map_or}
use Rattle.gw_addr.specs.declared.bip.BipAddr.{BipAddr}
use Rattle.gw_frames.specs.bvll.Bvll.{original_unicast}
use Rattle.gw_relay.specs.Cast.{spread}
use Rattle.gw_relay.specs.Sends.{Sending, sent}
use Rattle.gw_relay.specs.declared.port.PortState.{PortState}

-- to one address
abbrev pub unicast_of : ℕ → BipAddr → Option (List ℕ) → List Sending
unicast_of port to npdu = option_map_or (λ octets. sent port (to ∷ []) (original_unicast octets)) npdu []

-- as a broadcast on a port
abbrev pub broadcast_of : Option (List ℕ) → PortState → List Sending
broadcast_of npdu state = option_map_or (spread state) npdu []
