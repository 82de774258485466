-- Which events last: what they change is kept before their answers are sent.
use Rattle.std.specs.Prelude.{Bool, true, false, ◌||◌, is_some, Option, Some}
use Rattle.gw_relay.specs.State.{Move, Commit}
use Rattle.gw_relay.specs.declared.change.Change.TheVariants.{Entries}
use Rattle.gw_script.specs.Event.{Event}
use Rattle.gw_core.specs.Effects.{change_at, move_at}
use Rattle.gw_core.specs.State.{State}

-- a port is granted a table of peers (Annex J.4)
abbrev pub lasting_move : Option Move → Bool
lasting_move (Some (Commit (Entries port bdt))) = true
lasting_move _ = false

-- an event lasts: a port is granted a table of peers, or the device makes a write (clause 15.9)
unfoldable pub lasts : State → Event → Bool
lasts w e = lasting_move (move_at w e) || is_some (change_at w e)
