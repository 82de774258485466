-- The number of the last denial changes nothing that is asked, sent or changed.
use Rattle.std.proofs.Common.{◌≡◌, ◌∙◌, ap, ap₂, refl, ℕ, ◌+◌, List, [], ◌∷◌, length, map, Option}
use Rattle.gw_objects.specs.Write.{Write}
use Rattle.gw_relay.specs.State.{Move, moved}
use Rattle.gw_rules.specs.Ask.{Ask}
use Rattle.gw_script.specs.Event.{Event, Datagram, Tick}
use Rattle.gw_core.specs.Asks.{asks, asks_for}
use Rattle.gw_core.specs.Denials.{denials_at}
use Rattle.gw_core.specs.Effects.{change_at, change_for, changed, effects_at, move_at, move_for, sends_for, ticks_of}
use Rattle.gw_core.specs.History.{next}
use Rattle.gw_core.specs.Receive.{Received, receive}
use Rattle.gw_core.specs.State.{State}
use Rattle.gw_core_laws.specs.Decisions.{counting}

pub receive_counting : (n : ℕ) (w : State) (e : Event) → receive (counting n w) e ≡ receive w e
unfolding receive
receive_counting n w (Datagram port from octets) = refl
receive_counting n w Tick = refl

pub asks_counting : (n : ℕ) (w : State) (e : Event) → asks (counting n w) e ≡ asks w e
unfolding asks
asks_counting n w e = ap (λ (x : Received). asks_for w.rules w.relay w.device x) (receive_counting n w e)

pub sends_counting : (n : ℕ) (w : State) (e : Event) → (effects_at (counting n w) e).sends ≡ (effects_at w e).sends
unfolding effects_at
sends_counting n w e = ap (λ (x : Received). sends_for w.rules w.relay w.device x) (receive_counting n w e)

moves_counting : (n : ℕ) (w : State) (e : Event) → move_at (counting n w) e ≡ move_at w e
unfolding move_at
moves_counting n w e = ap (λ (x : Received). move_for w.rules w.relay e x) (receive_counting n w e)

writes_counting : (n : ℕ) (w : State) (e : Event) → change_at (counting n w) e ≡ change_at w e
unfolding change_at
writes_counting n w e = ap (λ (x : Received). change_for w.rules w.relay.format w.device x) (receive_counting n w e)

-- the next state by what changes, with this number
moved_to : State → Event → ℕ → Option Move → Option Write → State
moved_to w e k moves write = record w {
  relay = moved moves w.relay;
  device = changed write w.device;
  ticks = w.ticks + ticks_of e;
  denials = k;
}

pub next_counting : (n : ℕ) (w : State) (e : Event) → next (counting n w) e ≡ counting (next (counting n w) e).denials (next w e)
unfolding next moved_to
next_counting n w e =
    ap₂ (λ (moves : Option Move) (write : Option Write). moved_to w e (n + length (denials_at (counting n w) e)) moves write)
    (moves_counting n w e) (writes_counting n w e)
