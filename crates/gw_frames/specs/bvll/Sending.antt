-- A datagram to send.
use Rattle.std.specs.Prelude.{ℕ, List}
use Rattle.gw_addr.specs.declared.bip.BipAddr.{BipAddr}

-- a datagram: the number of the port that it is sent on, whom it is sent to, and what it holds
pub record Sending : Type 0 where
  pub port : ℕ
  pub to : BipAddr
  pub octets : List ℕ
