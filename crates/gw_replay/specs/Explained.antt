-- The text of an event that is explained: what it asks, and after that what it does.
use Rattle.std.specs.Prelude.{ℕ, List, ◌++◌}
use Rattle.gw_script.specs.Event.{Event}
use Rattle.gw_core.specs.Explained.{asks_text}
use Rattle.gw_core.specs.State.{State}
use Rattle.gw_replay.specs.Shown.{event_text}

-- the lines of an event that is explained: those of its asks, and after them those of what it does
abbrev pub explained_text : State → Event → List ℕ
explained_text w e = asks_text w e ++ event_text w e
