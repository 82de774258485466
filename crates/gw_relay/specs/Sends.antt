-- Datagrams to send. One message, whose octets are kept once, may go to many addresses.
use Rattle.std.specs.Prelude.{ℕ, List, [], length, map, nat_le, if◌then◌else◌}
use Rattle.gw_addr.specs.declared.bip.BipAddr.{BipAddr}
use Rattle.gw_frames.specs.bvll.Bvll.{encoding}
use Rattle.gw_frames.specs.bvll.Bvll.{Message as Frame}
use Rattle.gw_frames.specs.declared.bvll.writing.TheConstants.{MAX_LEN}
pub use Rattle.gw_frames.specs.bvll.Sending.{Sending}

-- one message, and whom it is sent to in order
pub record Batch : Type 0 where
  pub port : ℕ
  pub targets : List BipAddr
  pub octets : List ℕ

-- a datagram to an address
abbrev pub sending : ℕ → List ℕ → BipAddr → Sending
sending port octets to = record { port = port; to = to; octets = octets }

-- a datagram to each of the addresses
abbrev pub sendings : ℕ → List BipAddr → List ℕ → List Sending
sendings port targets octets = map (sending port octets) targets

-- the datagrams of a batch
abbrev pub sendings_of : Batch → List Sending
sendings_of batch = sendings batch.port batch.targets batch.octets

-- a message to each of the addresses; one that is too long isn't sent
abbrev pub sent : ℕ → List BipAddr → Frame → List Sending
sent port targets message =
    if nat_le (length (encoding message)) MAX_LEN
    then sendings port targets (encoding message) else []
