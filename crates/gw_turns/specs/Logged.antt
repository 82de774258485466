-- Nothing of an event is sent before the lines of its denials are in the log.
use Rattle.std.specs.Prelude.{◌≡◌, ℕ, Bool, List, ◌++◌, Result}
use Rattle.std.specs.List.{flat_map}
use Rattle.std.specs.Io.KnownBytes.{Appends}
use Rattle.gw_script.specs.Event.{Event}
use Rattle.gw_core.specs.History.{run_from}
use Rattle.gw_core.specs.State.{State}
use Rattle.gw_turns.specs.Serve.{Scene, ServesAll, Stops, log_of}
use Rattle.gw_turns.specs.Served.{tried}
use Rattle.gw_turns.specs.Stretch.{EndsStretch, Moment}
use Rattle.gw_turns.specs.declared.serving.ServeFault.{ServeFault}
use Rattle.gw_turns.specs.declared.serving.Served.{Served}
use Rattle.gw_turns.specs.declared.serving.ServeStop.{ServeStop}
use Rattle.gw_turns.specs.declared.stretch.StretchEnd.{StretchEnd}
use Rattle.gw_wire.specs.Wire.{Call, Records}

-- From one scene to another the datagrams that were tried to be sent are those of some events, each of them in the state in which
-- those before it left the gateway, all in order; and the log got all lines of these events, before whatever else it got.
pub record IsLoggedFirst (before after : Scene) : Type 0 where
  pub calls : List Call
  pub recorded : Records before.calls after.calls calls
  pub events : List Event
  pub sent : tried calls ≡ flat_map (λ x. x.sends) (run_from before.gateway events)
  pub more : List ℕ
  pub logged : Appends before.log after.log (log_of (run_from before.gateway events) ++ more)

-- So it is wherever a stretch ends, also where the log or memory failed it, and where a guard didn't let datagrams go.
abbrev pub StretchesLogFirst : {G : Type 0} → (G → State → Event → G → Bool → Type 0) → Type 0
StretchesLogFirst {G} Passes = (count : ℕ) (before after : Moment G) (answer : Result StretchEnd ServeFault) (unwritten : List ℕ) →
    EndsStretch Passes count before answer unwritten after → IsLoggedFirst before.scene after.scene

-- And so it is wherever serving ends.
abbrev pub ServingLogsFirst : Type 0
ServingLogsFirst =
    (count : ℕ) (before after : Scene) (served : Served) → ServesAll count before served after → IsLoggedFirst before after

abbrev pub StopsLogFirst : Type 0
StopsLogFirst = (count : ℕ) (before after : Scene) (stop : ServeStop) → Stops count before stop after → IsLoggedFirst before after
