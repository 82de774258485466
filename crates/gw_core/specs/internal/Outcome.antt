-- What is done about an event, as the code finds it before anything is committed.
use Rattle.std.specs.Prelude.{◌≡◌, ◌+◌, ◌^◌, ◌≤◌, ◌||◌, [], false, None, is_some, length}
use Rattle.std.specs.Option.{option_map}
use Rattle.gw_device.specs.Response.{HasPlace}
use Rattle.gw_relay.specs.State.{Commit}
use Rattle.gw_script.specs.Event.{Event}
use Rattle.gw_core.specs.Asks.{asks}
use Rattle.gw_core.specs.Denials.{denials_at, denials_for}
use Rattle.gw_core.specs.Drops.{drop_at}
use Rattle.gw_core.specs.Effects.{change_at, change_for, effects_at, effects_for, move_at, relay_change_for}
use Rattle.gw_core.specs.Lasting.{lasting_move, lasts}
use Rattle.gw_core.specs.Receive.{Received}
use Rattle.gw_core.specs.State.{State}
use Rattle.gw_core.specs.declared.gateway.Taken.{Taken}

-- nothing is sent, denied and changed
pub record IsEmpty (taken : Taken) : Type 0 where
  pub sends : taken.effects.sends ≡ []
  pub denials : taken.effects.denials ≡ []
  pub lasts : taken.lasts ≡ false
  pub change : taken.change ≡ None
  pub write : taken.write ≡ None

-- What is done about what is received, and whether it lasts; the relay's change and the write to the device; and its denials
-- can be numbered, as could the ticks before it.
pub record IsAnswered (w : State) (received : Received) (taken : Taken) : Type 0 where
  pub effects : taken.effects ≡ effects_for w received
  pub lasting : taken.lasts ≡ (lasting_move (option_map Commit taken.change) || is_some taken.write)
  pub change : taken.change ≡ relay_change_for w.rules w.relay received
  pub write : taken.write ≡ change_for w.rules w.relay.format w.device received
  pub place : HasPlace w.device taken.write
  pub ticks : w.ticks ≤ 2 ^ 63
  pub room : w.denials + length (denials_for w received) ≤ 2 ^ 63

-- What it does, why it is dropped, if it is, and whether it lasts; the relay's change, which nothing asks for where there
-- is none, and the write to the device; and its denials can be numbered, as could the ticks before it.
pub record IsOutcome (w : State) (event : Event) (taken : Taken) : Type 0 where
  pub effects : taken.effects ≡ effects_at w event
  pub dropped : taken.drop ≡ drop_at w event
  pub lasting : taken.lasts ≡ lasts w event
  pub denied : length taken.effects.denials ≡ length (denials_at w event)
  pub moves : option_map Commit taken.change ≡ move_at w event
  pub stays : asks w event ≡ [] → taken.change ≡ None
  pub write : taken.write ≡ change_at w event
  pub place : HasPlace w.device taken.write
  pub ticks : w.ticks ≤ 2 ^ 63
  pub room : w.denials + length (denials_at w event) ≤ 2 ^ 63
