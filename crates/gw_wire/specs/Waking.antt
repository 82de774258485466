-- What came at the sockets of the ports during a wait, as far as a waiter says.
use Rattle.std.specs.Prelude.{◌≡◌, ◌⊎◌, ℕ, ◌+◌, ◌*◌, ◌<◌, Bool, true, false, ◌||◌, ◌&&◌, length, nat_lt}
use Rattle.std.specs.List.{list_any}
use Rattle.gw_wire.specs.declared.sock_pair.SockPair.{SockPair}
use Rattle.gw_wire.specs.declared.watch.Watch.{Watch}
use Rattle.gw_wire.specs.Ports.{AtPlace, Ports, asked}
use Rattle.gw_wire.specs.SockPair.{socket}
use Rattle.gw_wire.specs.Watch.{holding, woken}

-- something may wait at one of the two
abbrev pub is_awake : {S : Type 0} → SockPair (Watch S) → Bool
is_awake pair = pair.own.is_awake || pair.broadcast.is_awake

-- the number of a socket among those of all ports, by the place of its port: of each port that of
-- the own one comes first
abbrev pub number_of : ℕ → Bool → ℕ
number_of place true = 2 * place
number_of place false = 2 * place + 1

-- Of this socket it is noted that something may wait there; or nothing came there, and it is as it was.
abbrev pub IsWoken : {S : Type 0} → Type 0 → Watch S → Watch S → Type 0
IsWoken Quiet before after = (after ≡ woken true before) ⊎ (Quiet × (after ≡ before))

-- Of the two sockets of the port at a place it is noted where something may wait, by the numbers of
-- those at which nothing came.
abbrev pub AreWoken : {S : Type 0} → (ℕ → Type 0) → ℕ → SockPair (Watch S) → SockPair (Watch S) → Type 0
AreWoken Quiet place before after = (own : Bool) → IsWoken (Quiet (number_of place own)) (socket own before) (socket own after)

-- Of all sockets it is noted where something may wait, by the numbers of those at which nothing came.
pub record AreAllWoken {S : Type 0} (Quiet : ℕ → Type 0) (before after : Ports (Watch S)) : Type 0 where
  pub each : (place : ℕ) → place < length before.pairs → AtPlace before.pairs after.pairs place (AreWoken Quiet place)
  pub count : length after.pairs ≡ length before.pairs
  pub rest : after ≡ asked after.pairs before

-- one of the two holds the next tick
abbrev pub holds_tick : {S : Type 0} → SockPair (Watch S) → Bool
holds_tick pair = pair.own.holds_tick || pair.broadcast.holds_tick

-- some socket does
abbrev pub is_held : {S : Type 0} → Ports (Watch S) → Bool
is_held ports = list_any holds_tick ports.pairs

-- a tick is due, and some socket holds it
abbrev pub is_tick_held : {S : Type 0} → Ports (Watch S) → Bool
is_tick_held ports = nat_lt 0 ports.ticks && is_held ports

-- of the two each at which something may wait holds the next tick, and no other
abbrev pub pair_holding : {S : Type 0} → SockPair (Watch S) → SockPair (Watch S)
pair_holding pair = record { own = holding pair.own; broadcast = holding pair.broadcast }

-- so it is with all sockets
pub record AreAllHolding {S : Type 0} (before after : Ports (Watch S)) : Type 0 where
  pub each : (place : ℕ) → place < length before.pairs → AtPlace before.pairs after.pairs place (λ one two. two ≡ pair_holding one)
  pub count : length after.pairs ≡ length before.pairs
  pub rest : after ≡ asked after.pairs before
