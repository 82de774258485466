-- What the device answers to a node of the port's own network.
use Rattle.std.specs.Prelude.{ℕ, List, [], ◌∷◌, false, Some, None}
use Rattle.gw_frames.specs.npdu.Npdu.{Fields, apdu}
use Rattle.gw_core.specs.Reply.{device_station}

-- the request names no source, so the reply names no destination (clause 6.2.2)
abbrev pub local_reply : ℕ → ℕ → List ℕ → Fields
local_reply network priority octets = record {
  destination = None;
  source = Some (record { network = network; mac = device_station ∷ [] });
  reply_expected = false;
  priority = priority;
  payload = apdu octets;
}
