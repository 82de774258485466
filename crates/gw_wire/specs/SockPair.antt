-- The two sockets of a port, which are asked one after the other.
use Rattle.std.specs.Prelude.{◌≡◌, ◌≢◌, ℕ, Bool, true, false, not, List, Result}
use Rattle.gw_addr.specs.declared.bip.BipAddr.{BipAddr}
use Rattle.gw_wire.specs.declared.sock_pair.SockPair.{SockPair}
use Rattle.gw_wire.specs.declared.socket.SockFault.{SockFault}
use Rattle.gw_wire.specs.Socket.{Answer, HasAnswered, IsPassed, Said, some_answer}

-- the own one, or that of the broadcast address
abbrev pub socket : {S : Type 0} → Bool → SockPair S → S
socket true pair = pair.own
socket false pair = pair.broadcast

-- Both were asked, and nothing waited at either.
abbrev pub ArePassed : {S : Type 0} → (S → ℕ) → (S → Bool) → (S → S → Answer → List ℕ → Type 0) → SockPair S → SockPair S → Type 0
ArePassed looks empty Answered before after =
    (own : Bool) → IsPassed looks empty Answered (socket own before) (socket own after)

-- One of them answered: where it is the first, the other wasn't asked; where it is the second, nothing waited at the other.
pub record IsAnswer {S : Type 0} (looks : S → ℕ) (empty : S → Bool) (Answered : S → S → Answer → List ℕ → Type 0)
    (own_first own : Bool) (before after : SockPair S) (said : Said) (buffer : List ℕ) : Type 0 where
  pub answered : HasAnswered looks empty Answered (socket own before) (socket own after) (some_answer said) buffer
  pub first : own ≡ own_first → socket (not own) after ≡ socket (not own) before
  pub second : own ≢ own_first → IsPassed looks empty Answered (socket (not own) before) (socket (not own) after)

-- The own socket sent, or failed to, and the other one is as it was.
pub record HasSentOwn {S : Type 0} (Sent : S → S → BipAddr → List ℕ → Result Unit SockFault → Type 0)
    (to : BipAddr) (octets : List ℕ) (said : Result Unit SockFault) (before after : SockPair S) : Type 0 where
  pub sent : Sent before.own after.own to octets said
  pub other : after.broadcast ≡ before.broadcast
