-- What a socket answers where it is asked for a datagram.
use Rattle.std.specs.Prelude.{◌≡◌, ⊤, ◌≤◌, ℕ, ◌+◌, ◌%◌, ◌^◌, List, Bool, true, false, Option, Some, None, Result, Ok, Err}
use Rattle.gw_addr.specs.declared.bip.BipAddr.{BipAddr}
use Rattle.gw_wire.specs.declared.wire.TheConstants.{RECEIVE_ROOM}
use Rattle.gw_wire.specs.declared.socket.SockFault.{SockFault}

-- how many octets came and from whom, or nothing, or that it failed
abbrev pub Answer : Type 0
Answer = Result (Option (ℕ × BipAddr)) SockFault

-- nothing waited
abbrev pub is_nothing : Answer → Bool
is_nothing (Ok None) = true
is_nothing (Ok (Some came)) = false
is_nothing (Err fault) = false

-- what came fits the buffer, which has room for one octet more than a datagram that is heard
abbrev pub FitsBuffer : Answer → Type 0
FitsBuffer (Ok None) = ⊤
FitsBuffer (Ok (Some came)) = came.0 ≤ RECEIVE_ROOM
FitsBuffer (Err fault) = ⊤

-- an answer that isn't nothing: what came, or that it failed
abbrev pub Said : Type 0
Said = Result (ℕ × BipAddr) SockFault

-- that answer
abbrev pub some_answer : Said → Answer
some_answer (Ok came) = Ok (Some came)
some_answer (Err fault) = Err fault

-- The socket was asked once, and this is its answer, with what the buffer then held.
pub record HasAnswered {S : Type 0} (looks : S → ℕ) (empty : S → Bool) (Answered : S → S → Answer → List ℕ → Type 0)
    (before after : S) (answer : Answer) (buffer : List ℕ) : Type 0 where
  pub once : looks after ≡ (looks before + 1) % 2 ^ 64
  pub nothing : empty after ≡ is_nothing answer
  pub answered : Answered before after answer buffer

-- The socket was asked once, and nothing waited there.
pub record IsPassed {S : Type 0} (looks : S → ℕ) (empty : S → Bool) (Answered : S → S → Answer → List ℕ → Type 0)
    (before after : S) : Type 0 where
  pub buffer : List ℕ
  pub nothing : HasAnswered looks empty Answered before after (Ok None) buffer
