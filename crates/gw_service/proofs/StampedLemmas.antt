-- What a run leaves, if what was closed is seen otherwise.
use Rattle.std.proofs.Common.{◌≡◌, ℕ, Bool, true, false, List, Option, Result}
use Rattle.std.specs.Prelude.{option_map, string_bytes}
use Rattle.gw_configuration.specs.declared.run_options.RunOptions.{RunOptions}
use Rattle.gw_configuration.specs.Configuration.{Configuration}
use Rattle.gw_notices.specs.Startup.{startup_line}
use Rattle.gw_service.specs.Kept.{LeavesService, LeavesWithState, Names, StateMachine, names_of, ran, unopened, unprepared, whole_machine}
use Rattle.gw_service.specs.Serving.{LeavesServed, Machine, Service, served, service, shut}
use Rattle.gw_service.specs.StampedRun.{LeavesBy}
use Rattle.gw_service.specs.declared.edition.Edition.{Edition}
use Rattle.gw_service.specs.declared.fault.ServiceFault.{ServiceFault}

served_closes : {Log Sockets : Type 0} (m : Machine Log Sockets) (Closes : Sockets → Option Log → Type 0)
    → ((sockets : Sockets) (log : Option Log) → m.Closes sockets log → Closes sockets log) → (name held holds : Option (List ℕ)) (c : Configuration)
    (turns : ℕ) (is_verbose : Bool) (line said : List ℕ) (outcome : Result (Unit {0}) ServiceFault)
    → LeavesServed m name held holds c turns is_verbose line said outcome
    → LeavesServed (record m { Closes = Closes }) name held holds c turns is_verbose line said outcome
served_closes m Closes so name held holds c turns is_verbose line said outcome (shut failure opens is note) = shut failure opens is note
served_closes m Closes so name held holds c turns is_verbose line said outcome
    (served log log_then sockets sockets_then output warning minutes opens closes stays serves warns mute is) =
    served log log_then sockets sockets_then output warning minutes opens (so sockets_then log_then closes) stays serves warns mute is

kept_closes : {Log Sockets S Q : Type 0} (m : Machine Log Sockets) (states : StateMachine S Q) (Closes : Sockets → Option Log → Type 0)
    → ((sockets : Sockets) (log : Option Log) → m.Closes sockets log → Closes sockets log) → (names : Names) (held holds : Option (List ℕ))
    (e : Edition) (how : Service) (is_verbose : Bool) (line said : List ℕ) (outcome : Result (Unit {0}) ServiceFault)
    → LeavesWithState m states names held holds e how is_verbose line said outcome
    → LeavesWithState (record m { Closes = Closes }) states names held holds e how is_verbose line said outcome
kept_closes m states Closes so names held holds e how is_verbose line said outcome (unprepared f sockets opens why is stays none) =
    unprepared f sockets opens why is stays none
kept_closes m states Closes so names held holds e how is_verbose line said outcome (unopened failure opens is note) =
    unopened failure opens is note
kept_closes m states Closes so names held holds e how is_verbose line said outcome
    (ran before log log_then sockets sockets_then output warning text prepared opens closes stays leaves warns is) =
    ran before log log_then sockets sockets_then output warning text prepared opens (so sockets_then log_then closes) stays leaves warns is

pub service_closes : {Log Sockets S Q : Type 0} (m : Machine Log Sockets) (states : StateMachine S Q) (Waits : List ℕ → Bool → Type 0) (Closes : Sockets → Option Log → Type 0)
    → ((sockets : Sockets) (log : Option Log) → m.Closes sockets log → Closes sockets log) → (options : RunOptions)
    (held holds : Option (List ℕ)) (e : Edition) (said : List ℕ) (outcome : Result (Unit {0}) ServiceFault)
    → LeavesService (whole_machine m states Waits) options held holds e said outcome
    → LeavesService (whole_machine (record m { Closes = Closes }) states Waits) options held holds e said outcome
service_closes m states Waits Closes so options held holds e said outcome leaves =
    let name = option_map string_bytes options.log in
    let line = startup_line options.verbose e.config name in
    let how = service options.turns options.stats options.stats_rules options.verbose options.holds in (
      leaves.0,
      leaves.1,
      leaves.2,
      leaves.3,
      (
        kept_closes m states Closes so (names_of options) held holds e how options.verbose line leaves.2 outcome leaves.4.0,
        λ is quiet. served_closes m Closes so name held holds e.config options.turns options.verbose line leaves.2 outcome
            (leaves.4.1 is quiet),
      ),
    )

pub with_them : (b : Bool) (Stamped Plain : Type 0) → b ≡ true → Stamped → LeavesBy b Stamped Plain
with_them true Stamped Plain is leaves = leaves
with_them false Stamped Plain is leaves = absurd cc

pub without_them : (b : Bool) (Stamped Plain : Type 0) → b ≡ false → Plain → LeavesBy b Stamped Plain
without_them true Stamped Plain is leaves = absurd cc
without_them false Stamped Plain is leaves = leaves
