-- What `run` opens: the log and the sockets; and what serving them from the gateway's first state leaves, over the definitions of
-- `gw_core` and `gw_turns`.
use Rattle.std.specs.Prelude.{◌≡◌, ◌⊎◌, ⊤, ℕ, ◌≤◌, Bool, false, List, [], ◌∷◌, ◌++◌, Option, Some, None, Result, Ok, Err}
use Rattle.std.specs.Io.KnownBytes.{Keeps}
use Rattle.gw_core.specs.History.{state_after, no_counts}
use Rattle.gw_script.specs.Event as event
use Rattle.gw_turns.specs.Serve.{Scene, ServesAll, Stops, Try, Turn, scene, taken_event}
use Rattle.gw_core.specs.State.{State}
use Rattle.gw_wire.specs.Wire.{Call}
use Rattle.gw_turns.specs.declared.serving.Served.{Served}
use Rattle.gw_turns.specs.declared.serving.ServeFault.{ServeFault}
use Rattle.gw_turns.specs.declared.serving.ServeFault.TheVariants as serving
use Rattle.gw_configuration.specs.Configuration.{Configuration}
use Rattle.gw_configuration.specs.declared.port.Port.{Port}
use Rattle.gw_notices.specs.Startup.{IsWarning}
use Rattle.gw_system.specs.Host.{LogOpening}
use Rattle.gw_system.specs.Offers.{Offers, OpensLog}
use Rattle.gw_system.specs.Opening.{IsNote}
use Rattle.gw_system.specs.declared.opening.LogFailure.{LogFailure}
use Rattle.gw_system.specs.declared.opening.LogFailure.TheVariants as log_failure
use Rattle.gw_system.specs.declared.opening.OpenFailure.{OpenFailure}
use Rattle.gw_system.specs.declared.opening.OpenFailure.TheVariants as opening
use Rattle.gw_system.specs.declared.opening.SocketFailure.{SocketFailure}
use Rattle.gw_service.specs.Fault.{fault_of_opening}
use Rattle.gw_service.specs.declared.fault.ServiceFault.{ServiceFault}
use Rattle.gw_service.specs.declared.fault.ServiceFault.TheVariants as fault

-- what a log holds and what a wire reports, if they are known
pub record Ends : Type 0 where
  pub log : Option (List ℕ)
  pub calls : Option (List Call)

abbrev pub ends : Option (List ℕ) → Option (List Call) → Ends
ends log calls = record { log = log; calls = calls }

-- the gateway of a configuration that nothing came to, between these ends
abbrev pub first_scene : Configuration → Ends → Scene
first_scene c ends = scene (state_after c no_counts []) ends.log ends.calls

-- how it is served: for how many turns; how many seconds lie between two reports, where some are reported, and whether each
-- counts the asks of each rule; whether it is verbose; and whether it goes on if its log fails
pub record Service : Type 0 where
  pub turns : ℕ
  pub stats : Option ℕ
  pub rules : Bool
  pub verbose : Bool
  pub holds : Bool

abbrev pub service : ℕ → Option ℕ → (rules verbose holds : Bool) → Service
service turns stats rules verbose holds = record { turns = turns; stats = stats; rules = rules; verbose = verbose; holds = holds }

-- All turns were served, and the gateway is as they left it.
pub record ServesWhole (c : Configuration) (turns : ℕ) (before after : Ends) : Type 0 where
  pub gateway : State
  pub served : Served
  pub serves : ServesAll turns (first_scene c before) served (scene gateway after.log after.calls)

-- Serving stopped by this fault, before all turns were done.
pub record StopsBy (by : ServeFault) (c : Configuration) (turns : ℕ) (before after : Ends) : Type 0 where
  pub gateway : State
  pub served : Served
  pub stops : Stops turns (first_scene c before) (record { fault = by; served = served })
      (scene gateway after.log after.calls)

-- Some turns were served, at most so many and the last one took a tick, and the gateway is as they left it: the log couldn't be made to
-- last then.
pub record StopsUnsynced (c : Configuration) (turns : ℕ) (before after : Ends) : Type 0 where
  pub gateway : State
  pub served : Served
  pub count : ℕ
  pub most : count ≤ turns
  pub serves : ServesAll count (first_scene c before) served (scene gateway after.log after.calls)
  pub earlier : List Turn
  pub tries : List Try
  pub tick : serves.turns ≡ earlier ++ taken_event event.Tick tries ∷ []

-- What serving from the gateway's first state leaves at each outcome.
-- Memory may run out before the first turn too, and then nothing was received.
abbrev pub Serves : Configuration → (turns : ℕ) → Ends → Ends → Result (Unit {0}) ServiceFault → Type 0
Serves c turns before after (Ok done) = ServesWhole c turns before after
Serves c turns before after (Err fault.Log) = StopsBy serving.Log c turns before after ⊎ StopsUnsynced c turns before after
Serves c turns before after (Err fault.Memory) = StopsBy serving.Memory c turns before after ⊎ (after ≡ before)
Serves c turns before after (Err fault.CountEnd) = StopsBy serving.CountEnd c turns before after
Serves c turns before after (Err _) = ⊥

-- What a machine may give: the log of a name, the sockets of some ports, whether it routes IP itself, and log and
-- sockets when they are closed; and what a log holds, and which calls sockets show.
pub record Machine (Log Sockets : Type 0) : Type 1 where
  pub LogOpens : LogOpening Log
  pub SocketsOpen : List Port → Result Sockets SocketFailure → Type 0
  pub RoutesIp : Bool → Type 0
  pub Closes : Sockets → Option Log → Type 0
  pub held : Log → Option (List ℕ)
  pub calls : Sockets → Option (List Call)

abbrev pub machine : {Log Sockets : Type 0} → LogOpening Log → (List Port → Result Sockets SocketFailure → Type 0)
    → (Bool → Type 0) → (Sockets → Option Log → Type 0) → (Log → Option (List ℕ)) → (Sockets → Option (List Call))
    → Machine Log Sockets
machine LogOpens SocketsOpen RoutesIp Closes held calls = record {
  LogOpens = LogOpens;
  SocketsOpen = SocketsOpen;
  RoutesIp = RoutesIp;
  Closes = Closes;
  held = held;
  calls = calls;
}

-- by what it offers, how it closes, and what a log and sockets show
abbrev pub machine_of : {Log Sockets S Q : Type 0} → Offers Log Sockets S Q → (Closes : Sockets → Option Log → Type 0)
    → (Log → Option (List ℕ)) → (Sockets → Option (List Call)) → Machine Log Sockets
machine_of offers Closes held calls = machine (OpensLog offers held) offers.SocketsOpen offers.RoutesIp Closes held calls

-- The log is open: it is in the file of this name, and standard output is as it was; or it is
-- standard output, whose buffer was flushed.
abbrev pub LogIsOpen : {Log : Type 0} → (LogOpens : LogOpening Log) → (name held holds : Option (List ℕ)) → Option Log
    → Type 0
LogIsOpen LogOpens (Some name) held holds (Some log) = LogOpens name (Ok log) × (holds ≡ held)
LogIsOpen LogOpens None held holds None = Keeps held holds
LogIsOpen LogOpens _ held holds _ = ⊥

-- The log can't be opened. On standard output that is where its buffer can't be flushed.
abbrev pub LogIsShut : {Log : Type 0} → (LogOpens : LogOpening Log) → (name held holds : Option (List ℕ)) → LogFailure
    → Type 0
LogIsShut LogOpens (Some name) held holds f = LogOpens name (Err f) × (holds ≡ held)
LogIsShut LogOpens None held holds f = (f ≡ log_failure.Failed) × Keeps held holds

-- what the log holds, which is a file or standard output
abbrev pub log_held : {Log : Type 0} → (Log → Option (List ℕ)) → Option Log → Option (List ℕ) → Option (List ℕ)
log_held held (Some log) output = held log
log_held held None output = output

-- While it is served a log in a file stays one, and standard output is as it was then; and a log on
-- standard output stays there.
abbrev pub LogStays : {Log : Type 0} → (log log_then : Option Log) → (held holds : Option (List ℕ)) → Type 0
LogStays (Some log) (Some log_then) held holds = holds ≡ held
LogStays None None held holds = ⊤
LogStays _ _ held holds = ⊥

-- What of standard output isn't flushed when the log is open: nothing where it is the log, and else what was so before.
abbrev pub IsFlushedFor : (name : Option (List ℕ)) → (was is : List ℕ) → Type 0
IsFlushedFor (Some name) was is = is ≡ was
IsFlushedFor None was is = is ≡ []

-- The log and the sockets are open.
pub record AreOpen {Log Sockets : Type 0} (LogOpens : LogOpening Log)
    (SocketsOpen : Result Sockets SocketFailure → Type 0)
    (name held holds : Option (List ℕ)) (log : Option Log) (sockets : Sockets) : Type 0 where
  pub log_is : LogIsOpen LogOpens name held holds log
  pub sockets_are : SocketsOpen (Ok sockets)

-- Why they aren't: the sockets can't be opened, and then the log isn't touched; or they are open, and then memory ran out, or the
-- log can't be opened.
abbrev pub ArentOpen : {Log Sockets : Type 0} → LogOpening Log → (Result Sockets SocketFailure → Type 0)
    → (name held holds : Option (List ℕ)) → OpenFailure → Type 0
ArentOpen LogOpens SocketsOpen name held holds (opening.Log f) =
    (sockets : _) × SocketsOpen (Ok sockets) × (((f ≡ log_failure.Memory) × (holds ≡ held)) ⊎ LogIsShut LogOpens name held holds f)
ArentOpen LogOpens SocketsOpen name held holds (opening.Sockets failure) = SocketsOpen (Err failure) × (holds ≡ held)

-- What a run of `serve` leaves under a configuration: not all can be opened, and why may be written; or all was opened, this
-- line was written and a warning of the machine, and then it was served from the gateway's first state, and closed. Only if it is verbose
-- something else may be written, of what was dropped and of sends that fail.
pub data LeavesServed {Log Sockets : Type 0} (machine : Machine Log Sockets) (name : Option (List ℕ))
    (held holds : Option (List ℕ))
    (c : Configuration) (turns : ℕ) (is_verbose : Bool) (line said : List ℕ) (outcome : Result (Unit {0}) ServiceFault)
    : Type 0 where
  shut : (failure : OpenFailure) → ArentOpen machine.LogOpens (machine.SocketsOpen c.ports) name held holds failure →
      outcome ≡ Err (fault_of_opening failure) → IsNote is_verbose failure said →
      LeavesServed machine name held holds c turns is_verbose line said outcome
  served : (log log_then : Option Log) (sockets sockets_then : Sockets) (output : Option (List ℕ)) (warning minutes : List ℕ) →
      AreOpen machine.LogOpens (machine.SocketsOpen c.ports) name held output log sockets →
      machine.Closes sockets_then log_then → LogStays log log_then output holds →
      Serves c turns (ends (log_held machine.held log output) (machine.calls sockets))
      (ends (log_held machine.held log_then holds) (machine.calls sockets_then)) outcome →
      IsWarning machine.RoutesIp is_verbose warning → (is_verbose ≡ false → minutes ≡ []) → said ≡ (line ++ warning) ++ minutes →
      LeavesServed machine name held holds c turns is_verbose line said outcome
