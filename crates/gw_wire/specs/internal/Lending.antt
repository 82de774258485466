-- What the ports are once the sockets of one were lent.
use Rattle.std.specs.Prelude.{ℕ, slice_set}
use Rattle.std.specs.Borrow.{Lends, Fml, MutBor, RattleType}
use Rattle.gw_wire.specs.declared.sock_pair.SockPair.{SockPair}
use Rattle.gw_wire.specs.contracts.sock_pair.SockPair as pair
use Rattle.gw_wire.specs.contracts.ports.Ports as ports
use Rattle.gw_wire.specs.Ports.{Ports}

-- the sockets of the port at a place are these, and all else is as it was
abbrev pub with_pair : {S : Type 0} → Ports S → ℕ → SockPair S → Ports S
with_pair before place sockets = record before { pairs = slice_set before.pairs place sockets }

-- The ports end with the sockets of the port at a place as they were left.
abbrev pub LendsPair : (S : RattleType) → MutBor (Ports S.Denot) → ℕ → MutBor (SockPair S.Denot) → Fml
LendsPair S lender place lent = Lends (ports.the_row S) (pair.the_row S) lender lent (with_pair lender.now place)
