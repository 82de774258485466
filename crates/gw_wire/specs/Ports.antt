-- Whose turn it is: due ticks first, then the ports after the last that answered, one after the
-- other around to itself, and of each port its two sockets.
use Rattle.std.specs.Prelude.{◌≡◌, ◌⊎◌, ℕ, ◌+◌, ◌-◌, ◌≤◌, ◌<◌, Bool, false, not, List, [], ◌∷◌, ◌++◌, length}
use Rattle.std.specs.Prelude.{slice_index_or, slice_set, Option, Some}
use Rattle.std.specs.Prelude.{Result, Ok, Err, unwrap_or}
use Rattle.std.specs.List.{All, flat_map, range_with_len}
use Rattle.gw_addr.specs.declared.bip.BipAddr.{BipAddr}
use Rattle.gw_wire.specs.declared.sock_pair.SockPair.{SockPair}
use Rattle.gw_wire.specs.declared.socket.SockFault.{SockFault}
use Rattle.gw_wire.specs.declared.socket.SockFault.TheVariants as sock_fault
use Rattle.gw_wire.specs.declared.wire.Got.{Got}
use Rattle.gw_wire.specs.declared.wire.Got.TheVariants as got
use Rattle.gw_wire.specs.declared.wire.WireFault.{WireFault}
use Rattle.gw_wire.specs.declared.wire.WireFault.TheVariants as wire_fault
use Rattle.gw_wire.specs.Wire.{failures_of}
use Rattle.gw_wire.specs.Socket.{Answer, HasAnswered, IsPassed, Said, some_answer}
use Rattle.gw_wire.specs.SockPair.{HasSentOwn, socket}

-- ---- the ports

-- the sockets of each port in order, whether each port's own one is asked before the other, how many ticks are due, the port that
-- answered last, and how many calls failed
pub record Ports (S : Type 0) : Type 0 where
  pub pairs : List (SockPair S)
  pub own_first : List Bool
  pub ticks : ℕ
  pub last : Option ℕ
  pub failures : ℕ

-- ---- the order of the turns

-- the port that answered last, 0 where none did
abbrev pub last_number : Option ℕ → ℕ
last_number last = unwrap_or last 0

-- the places of so many ports in turn: those after the last that answered, then those up to it. (The place of a port is one less
-- than its number, so the port after the last one has its number as its place.)
abbrev pub turn_order : ℕ → ℕ → List ℕ
turn_order last count = range_with_len last (count - last) ++ range_with_len 0 last

-- a socket: the place of its port, and whether it is that of the port's own address
pub record Turn : Type 0 where
  pub place : ℕ
  pub own : Bool

-- the two sockets of the port at a place, in turn
abbrev pub both : List Bool → ℕ → List Turn
both own_first place =
    record { place = place; own = slice_index_or own_first place false }
    ∷ record { place = place; own = not (slice_index_or own_first place false) } ∷ []

-- the sockets of the ports at these places, in turn
abbrev pub sockets_of : List Bool → List ℕ → List Turn
sockets_of own_first places = flat_map (both own_first) places

-- all sockets, in turn
abbrev pub sockets_in_turn : {S : Type 0} → Ports S → List Turn
sockets_in_turn ports = sockets_of ports.own_first (turn_order (last_number ports.last) (length ports.pairs))

-- ---- what holds of a port or a socket before and after

-- what holds of the pair at a place before and after
abbrev pub AtPlace : {S : Type 0} → List (SockPair S) → List (SockPair S) → ℕ → (SockPair S → SockPair S → Type 0)
    → Type 0
AtPlace before after place Holds =
    (d : SockPair _) → Holds (slice_index_or before place d) (slice_index_or after place d)

-- what holds of a socket before and after
abbrev pub AtSocket : {S : Type 0} → (S → S → Type 0) → List (SockPair S) → List (SockPair S) → Turn → Type 0
AtSocket Holds before after turn = AtPlace before after turn.place (λ one two. Holds (socket turn.own one) (socket turn.own two))

-- ---- the next that comes

-- what a wire hands in of what a port answered
abbrev pub got_of : ℕ → Said → Result Got WireFault
got_of port (Ok came) = Ok (got.Datagram port came.1 came.0)
got_of port (Err fault) = Err wire_fault.Failed

-- one more where a call failed
abbrev pub failed_of : Said → ℕ
failed_of (Ok came) = 0
failed_of (Err fault) = 1

-- Of these sockets, in turn, nothing waited at any.
abbrev pub AllPassed : {S : Type 0} → (S → ℕ) → (S → Bool) → (S → S → Answer → List ℕ → Type 0)
    → List (SockPair S) → List (SockPair S) → List Turn → Type 0
AllPassed looks empty Answered before after turns = All (AtSocket (IsPassed looks empty Answered) before after) turns

-- Of these sockets, in turn, each before that of this turn was asked once, and nothing waited there; it was asked once and gave this
-- answer; and those after it are as they were.
pub record IsHeard {S : Type 0} (looks : S → ℕ) (empty : S → Bool) (Answered : S → S → Answer → List ℕ → Type 0)
    (before after : List (SockPair S)) (turns : List Turn) (turn : Turn) (said : Said) (buffer : List ℕ) : Type 0 where
  pub sooner : List Turn
  pub later : List Turn
  pub order : turns ≡ sooner ++ (turn ∷ later)
  pub passed : AllPassed looks empty Answered before after sooner
  pub answered : AtSocket (λ one two. HasAnswered looks empty Answered one two (some_answer said) buffer) before after turn
  pub untouched : All (AtSocket (λ one two. two ≡ one) before after) later

-- one tick is handed in
abbrev pub ticked : {S : Type 0} → Ports S → Ports S
ticked before = record before { ticks = before.ticks - 1 }

-- the sockets as they are once they were asked
abbrev pub asked : {S : Type 0} → List (SockPair S) → Ports S → Ports S
asked pairs before = record before { pairs = pairs }

-- The socket of this turn answered: its port is the last, of which the other socket is then first; and a fault is counted.
abbrev pub handed_in : {S : Type 0} → Turn → Said → Ports S → Ports S
handed_in turn said before = record before {
  own_first = slice_set before.own_first turn.place (not turn.own);
  last = Some (turn.place + 1);
  failures = before.failures + failed_of said;
}

-- What the sockets answer, in turn: nothing waits at any; or what the first one at which something does. Ticks that are due stay so.
pub data Hears {S : Type 0} (looks : S → ℕ) (empty : S → Bool) (Answered : S → S → Answer → List ℕ → Type 0)
    (before after : Ports S) (buffer : List ℕ) (given : Result Got WireFault) : Type 0 where
  nothing : length after.pairs ≡ length before.pairs →
      AllPassed looks empty Answered before.pairs after.pairs (sockets_in_turn before) →
      after ≡ asked after.pairs before → given ≡ Ok got.Idle →
      Hears looks empty Answered before after buffer given
  something : (turn : Turn) (said : Said) → length after.pairs ≡ length before.pairs →
      IsHeard looks empty Answered before.pairs after.pairs (sockets_in_turn before) turn said buffer →
      after ≡ handed_in turn said (asked after.pairs before) → given ≡ got_of (turn.place + 1) said →
      Hears looks empty Answered before after buffer given

-- What comes next: a tick that is due, with no socket asked; nothing; or what a socket answered.
pub data IsNext {S : Type 0} (looks : S → ℕ) (empty : S → Bool) (Answered : S → S → Answer → List ℕ → Type 0)
    (before after : Ports S) (buffer : List ℕ) (given : Result Got WireFault) : Type 0 where
  tick : 1 ≤ before.ticks → after ≡ ticked before → given ≡ Ok got.Tick →
      IsNext looks empty Answered before after buffer given
  idle : before.ticks ≡ 0 → length after.pairs ≡ length before.pairs →
      AllPassed looks empty Answered before.pairs after.pairs (sockets_in_turn before) →
      after ≡ asked after.pairs before → given ≡ Ok got.Idle →
      IsNext looks empty Answered before after buffer given
  answered : (turn : Turn) (said : Said) → before.ticks ≡ 0 → length after.pairs ≡ length before.pairs →
      IsHeard looks empty Answered before.pairs after.pairs (sockets_in_turn before) turn said buffer →
      after ≡ handed_in turn said (asked after.pairs before) → given ≡ got_of (turn.place + 1) said →
      IsNext looks empty Answered before after buffer given

-- ---- some places of the list, one after the other

-- the pairs at all places but these are as they were
pub record Stay {S : Type 0} (from to : ℕ) (before after : List (SockPair S)) : Type 0 where
  pub count : length after ≡ length before
  pub lower : (place : ℕ) → place < from → AtPlace before after place (λ one two. two ≡ one)
  pub upper : (place : ℕ) → to ≤ place → AtPlace before after place (λ one two. two ≡ one)

-- ---- a send

-- The own socket of the port of this number sent, or failed to; a send on a port that isn't there fails. All other sockets are as they were.
pub data HasTried {S : Type 0} (Sent : S → S → BipAddr → List ℕ → Result Unit SockFault → Type 0) (port : ℕ)
    (to : BipAddr) (octets : List ℕ)
    (before after : List (SockPair S)) (said : Result Unit SockFault) : Type 0 where
  there : 1 ≤ port → port ≤ length before → Stay (port - 1) port before after →
      AtPlace before after (port - 1) (HasSentOwn Sent to octets said) → HasTried Sent port to octets before after said
  absent : (port ≡ 0) ⊎ (length before < port) → after ≡ before → said ≡ Err sock_fault.Failed →
      HasTried Sent port to octets before after said

-- what a wire answers of a send
abbrev pub sent_of : Result Unit SockFault → Result Unit WireFault
sent_of (Ok done) = Ok done
sent_of (Err fault) = Err wire_fault.Failed

-- A send on the port of this number: nothing else changes but the count of failures, where it failed.
pub record HasSentOn {S : Type 0} (Sent : S → S → BipAddr → List ℕ → Result Unit SockFault → Type 0) (port : ℕ)
    (to : BipAddr) (octets : List ℕ)
    (before after : Ports S) (given : Result Unit WireFault) : Type 0 where
  pub said : Result Unit SockFault
  pub tried : HasTried Sent port to octets before.pairs after.pairs said
  pub answer : given ≡ sent_of said
  pub rest : after ≡ record before { pairs = after.pairs; failures = before.failures + failures_of given }
