-- What a wait reported.
use Rattle.std.specs.Prelude.{ℕ, Bool, ◌==◌}
use Rattle.std.specs.List.{list_any}
use Rattle.mio.specs.Event.{event_token}
use Rattle.mio.specs.Events.{items}
use Rattle.mio.specs.declared.event.events.Events.{Events}

-- some event names the socket of this number
abbrev pub has_event_of : {A : Type 0} → ℕ → Events A → Bool
has_event_of number events = list_any (λ event. (event_token event).0 == number) (items events)
