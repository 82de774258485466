-- A socket that asks another one, but only while something may wait there.
use Rattle.std.specs.Prelude.{◌≡◌, ℕ, Bool, true, false, not, List, None, Result, Ok}
use Rattle.gw_addr.specs.declared.bip.BipAddr.{BipAddr}
use Rattle.gw_wire.specs.declared.socket.SockFault.{SockFault}
use Rattle.gw_wire.specs.declared.watch.Watch.{Watch}
use Rattle.gw_wire.specs.Socket.{Answer, HasAnswered, is_nothing}

-- The answer of a watch, by its socket before and after: where it is awake that socket was asked once, and this is its answer; where it
-- sleeps nothing came, and the socket is as it was.
abbrev pub WatchAnswer : {S : Type 0} → (S → ℕ) → (S → Bool) → (S → S → Answer → List ℕ → Type 0)
    → Bool → S → S → Answer → List ℕ → Type 0
WatchAnswer looks empty Answered true before after answer buffer =
    HasAnswered looks empty Answered before after answer buffer
WatchAnswer looks empty Answered false before after answer buffer = (after ≡ before) × (answer ≡ Ok None)

-- A receive of a watch: its answer, and then it sleeps exactly where nothing came, and holds no tick.
pub record HasReceived {S : Type 0} (looks : S → ℕ) (empty : S → Bool) (Answered : S → S → Answer → List ℕ → Type 0)
    (before after : Watch S) (answer : Answer) (buffer : List ℕ) : Type 0 where
  pub answered : WatchAnswer looks empty Answered before.is_awake before.socket after.socket answer buffer
  pub sleeps : after.is_awake ≡ not (is_nothing answer)
  pub holds : after.holds_tick ≡ false

-- A send of a watch is that of its socket, and all else of it is as it was.
pub record HasSent {S : Type 0} (Sent : S → S → BipAddr → List ℕ → Result Unit SockFault → Type 0)
    (before after : Watch S) (to : BipAddr) (octets : List ℕ) (said : Result Unit SockFault) : Type 0 where
  pub sent : Sent before.socket after.socket to octets said
  pub rest : after ≡ record before { socket = after.socket }

-- where something came it may wait there, and else it is as it was
abbrev pub woken : {S : Type 0} → Bool → Watch S → Watch S
woken true watch = record watch { is_awake = true }
woken false watch = watch

-- where something may wait it holds the next tick, until it is asked
abbrev pub holding : {S : Type 0} → Watch S → Watch S
holding watch = record watch { holds_tick = watch.is_awake }
