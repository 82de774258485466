-- What comes of sockets that are asked before a tick is handed in.
use Rattle.std.proofs.Common.{◌≡◌, refl, sym, subst, true≢false, ℕ, Bool, true, List, Result, Ok, Err}
use Rattle.gw_wire.specs.declared.wire.Got.{Got}
use Rattle.gw_wire.specs.declared.wire.Got.TheVariants as got
use Rattle.gw_wire.specs.declared.wire.WireFault.{WireFault}
use Rattle.gw_wire.specs.declared.watch.Watch.{Watch}
use Rattle.gw_wire.specs.Ports.{Hears, IsNext, Ports, answered, idle, nothing, something}
use Rattle.gw_wire.specs.Socket.{Answer}
use Rattle.gw_wire.specs.Timed.{ComesNext, WatchesHear, WatchesNext, is_idle, released}
use Rattle.gw_wire.specs.Waking.{is_tick_held}

-- where no tick is due, what the sockets answer comes next
pub heard_next : {S : Type 0} (looks : S → ℕ) (empty : S → Bool) (Answered : S → S → Answer → List ℕ → Type 0) (before after : Ports S)
    (buffer : List ℕ) (given : Result Got WireFault) → before.ticks ≡ 0 → Hears looks empty Answered before after buffer given →
    IsNext looks empty Answered before after buffer given
heard_next looks empty Answered before after buffer given none (nothing count passed rest is) = idle none count passed rest is
heard_next looks empty Answered before after buffer given none (something turn said count heard rest is) =
    answered turn said none count heard rest is

idle_is : (given : Result Got WireFault) → is_idle given ≡ true → given ≡ Ok got.Idle
idle_is (Ok got.Idle) is = refl
idle_is (Ok got.Tick) is = absurd (true≢false (sym is))
idle_is (Ok (got.Datagram port from len)) is = absurd (true≢false (sym is))
idle_is (Err fault) is = absurd (true≢false (sym is))

-- nothing waited at any socket, and then this came
pub next_released : {S : Type 0} (looks : S → ℕ) (empty : S → Bool) (Answered : S → S → Answer → List ℕ → Type 0)
    (before between after : Ports (Watch S)) (held buffer : List ℕ) (heard given : Result Got WireFault) → is_tick_held before ≡ true →
    WatchesHear looks empty Answered before between held heard → is_idle heard ≡ true →
    WatchesNext looks empty Answered between after buffer given → ComesNext looks empty Answered before after buffer given
next_released looks empty Answered before between after held buffer heard given is hears none next =
    released between held is
    (subst (λ (r : Result Got WireFault). WatchesHear looks empty Answered before between held r) (idle_is heard none) hears) next
