-- Between two ticks that are handed in, each socket at which something might wait was asked.
use Rattle.std.specs.Prelude.{◌≡◌, ◌⊎◌, ℕ, ◌+◌, ◌%◌, ◌^◌, ◌<◌, Bool, true, List, [], ◌∷◌, length, slice_index_or, Result, Ok}
use Rattle.gw_wire.specs.declared.sock_pair.SockPair.{SockPair}
use Rattle.gw_wire.specs.declared.watch.Watch.{Watch}
use Rattle.gw_wire.specs.declared.wire.Got.{Got}
use Rattle.gw_wire.specs.declared.wire.Got.TheVariants as got
use Rattle.gw_wire.specs.declared.wire.WireFault.{WireFault}
use Rattle.gw_wire.specs.Ports.{Ports, Turn}
use Rattle.gw_wire.specs.SockPair.{socket}
use Rattle.gw_wire.specs.Socket.{Answer}
use Rattle.gw_wire.specs.Timed.{ComesNext, with_due}
use Rattle.gw_wire.specs.Waking.{AreAllHolding, AreAllWoken}

-- a socket of the ports
abbrev pub watch_at : {S : Type 0} → SockPair (Watch S) → Turn → Ports (Watch S) → Watch S
watch_at d turn ports = socket turn.own (slice_index_or ports.pairs turn.place d)

-- it was asked once
abbrev pub IsAsked : {S : Type 0} → Watch S → Watch S → Type 0
IsAsked one two = two.looks ≡ (one.looks + 1) % 2 ^ 64

-- What is done with the ports between two ticks: something came of them, it was noted where something may have come, or more ticks
-- became due.
pub data IsStep {S P : Type 0} (looks : S → ℕ) (empty : S → Bool) (Answered : S → S → Answer → List ℕ → Type 0)
    (Quiet : P → ℕ → Type 0) (before after : Ports (Watch S)) : Type 0 where
  next_came : (buffer : List ℕ) (given : Result Got WireFault) → ComesNext looks empty Answered before after buffer given →
      IsStep looks empty Answered Quiet before after
  woke : (waiter : P) → AreAllWoken (Quiet waiter) before after → IsStep looks empty Answered Quiet before after
  more_due : (ticks : ℕ) → after ≡ with_due ticks before → IsStep looks empty Answered Quiet before after

-- the ports after each of some steps, one after the other
abbrev pub Along : {S : Type 0} → (Ports (Watch S) → Ports (Watch S) → Type 0) → Ports (Watch S) → List (Ports (Watch S)) → Ports (Watch S)
    → Type 0
Along Step first [] last = last ≡ first
Along Step first (next ∷ rest) last = Step first next × Along Step next rest last

-- a socket was asked in one of these steps
abbrev pub WasAsked : {S : Type 0} → SockPair (Watch S) → Turn → Ports (Watch S) → List (Ports (Watch S)) → Type 0
WasAsked d turn first [] = ⊥
WasAsked d turn first (next ∷ rest) = IsAsked (watch_at d turn first) (watch_at d turn next) ⊎ WasAsked d turn next rest

-- From the moment at which the sockets hold the next tick to that at which it was handed in, each one at which something might wait was
-- asked.
abbrev pub TicksAreSpaced : {S P : Type 0} → (S → ℕ) → (S → Bool) → (S → S → Answer → List ℕ → Type 0) → (P → ℕ → Type 0) → Type 0
TicksAreSpaced {S} {P} looks empty Answered Quiet =
    (woken first last after : Ports (Watch S)) (steps : List (Ports (Watch S))) (buffer : List ℕ) →
    AreAllHolding woken first → Along (IsStep looks empty Answered Quiet) first steps last →
    ComesNext looks empty Answered last after buffer (Ok got.Tick) →
    (turn : Turn) (d : SockPair (Watch S)) → turn.place < length first.pairs → (watch_at d turn first).is_awake ≡ true →
    WasAsked d turn first steps ⊎ IsAsked (watch_at d turn last) (watch_at d turn after)
