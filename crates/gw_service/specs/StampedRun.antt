-- What a run leaves whose log in a file has stamps and notes: what the log holds is seen without them.
use Rattle.std.specs.Prelude.{⊤, ℕ, Bool, true, false, List, Option, Some, None, OnOk, Result, codes}
use Rattle.std.specs.Io.KnownBytes.{Keeps}
use Rattle.gw_script.specs.declared.sink.WriteFailed.{WriteFailed}
use Rattle.gw_log_words.specs.Noted.{IsNoted}
use Rattle.gw_log_words.specs.Stamped.{held_without}
use Rattle.gw_configuration.specs.declared.run_options.RunOptions.{RunOptions}
use Rattle.gw_log_words.specs.declared.noted.Noted.{Noted}
use Rattle.gw_log_words.specs.declared.stamped.Stamped.{Stamped}
use Rattle.gw_system.specs.Host.{OpensAtLine}
use Rattle.gw_system.specs.StampedHost.{IsWhole, OpensStamped, held_in, log_if, log_in}
use Rattle.gw_service.specs.Kept.{LeavesService, WholeMachine, whole_machine}
use Rattle.gw_service.specs.Serving.{Machine, machine}
use Rattle.gw_service.specs.declared.edition.Edition.{Edition}
use Rattle.gw_service.specs.declared.fault.ServiceFault.{ServiceFault}

-- what the last note says, with the version of the program
abbrev pub ended_text : List ℕ
ended_text = codes "bacgw 0.1.0 ended"

-- A log is given its last note, which isn't seen; or that fails, and what is seen stays, too.
pub record IsEndedIn {Log C : Type 0} (held : Log → Option (List ℕ)) (was is : Noted (Stamped Log C)) : Type 0 where
  pub outcome : Result (Unit {0}) WriteFailed
  pub note : OnOk outcome (IsNoted was.place (held_without was.sink.in_stamp (held (log_in was))) ended_text
      (held_without is.sink.in_stamp (held (log_in is))))
  pub keeps : Keeps (held_in held was) (held_in held is)

abbrev pub EndsIn : {Log C : Type 0} → (Log → Option (List ℕ)) → (was is : Option (Noted (Stamped Log C))) → Type 0
EndsIn held None None = ⊤
EndsIn held (Some was) (Some is) = IsEndedIn held was is
EndsIn held _ _ = ⊥

-- By what a machine gives to a run without them: a log that it opens at a line is given a note, and the log that it closes is
-- given another, and is the one that has stamps and notes in it. `C` gives the time of day.
abbrev pub with_stamps : {Log C Sockets : Type 0} → Machine Log Sockets → Machine (Noted (Stamped Log C)) Sockets
with_stamps {Log} {C} plain =
    machine (OpensAtLine (OpensStamped plain.LogOpens plain.held) IsWhole (held_in plain.held)) plain.SocketsOpen plain.RoutesIp
    (λ sockets log. (last : Option (Noted (Stamped Log C))) × EndsIn plain.held log last × plain.Closes sockets (log_if last))
    (held_in plain.held) plain.calls

abbrev pub whole_with_stamps : {Log C Sockets S Q : Type 0} → WholeMachine Log Sockets S Q
    → WholeMachine (Noted (Stamped Log C)) Sockets S Q
whole_with_stamps plain = whole_machine (with_stamps plain.machine) plain.states plain.Waits

-- what a machine may give to a run whose log may have stamps, for which `C` gives the time of day
pub record TimedMachine (C Log Sockets S Q : Type 0) : Type 1 where
  pub whole : WholeMachine Log Sockets S Q

abbrev pub timed_machine : {C Log Sockets S Q : Type 0} → WholeMachine Log Sockets S Q → TimedMachine C Log Sockets S Q
timed_machine whole = record { whole = whole }

-- what a run leaves, by whether there are stamps and notes
abbrev pub LeavesBy : Bool → (Stamped Plain : Type 0) → Type 0
LeavesBy true Stamped Plain = Stamped
LeavesBy false Stamped Plain = Plain

-- What a run leaves, by whether its options ask for stamps and notes: if they don't, what any run leaves.
abbrev pub LeavesTimed : {C Log Sockets S Q : Type 0} → TimedMachine C Log Sockets S Q → RunOptions → (held holds : Option (List ℕ))
    → Edition → List ℕ → Result (Unit {0}) ServiceFault → Type 0
LeavesTimed {C = C} timed options held holds e said outcome =
    LeavesBy options.stamp
    (LeavesService (whole_with_stamps {C = C} timed.whole) options held holds e said outcome)
    (LeavesService timed.whole options held holds e said outcome)
