-- What a program reports of a fault: the line on standard error, and the exit status.
use Rattle.std.specs.Prelude.{⊤, ℕ, ◌==◌, if◌then◌else◌, Bool, true, false, List, [], ◌∷◌, ◌++◌, length, codes, decimal, Result, Ok, Err}
use Rattle.gw_configuration.specs.Shown.{shown}
use Rattle.gw_command_line.specs.declared.options.fault.WordsFault.{WordsFault}
use Rattle.gw_command_line.specs.declared.options.fault.WordsFault.TheVariants as words
use Rattle.gw_state_text.specs.declared.fault.FaultKind.{FaultKind}
use Rattle.gw_state_text.specs.declared.fault.FaultKind.TheVariants as state_fault
use Rattle.gw_state_text.specs.declared.fault.StateFault.{StateFault}
use Rattle.gw_notices.specs.Reload.{name_of}
use Rattle.gw_wire.specs.declared.store.StoreFault.{StoreFault}
use Rattle.gw_wire.specs.declared.store.StoreFault.TheVariants as store
use Rattle.gw_system.specs.Obstacle.{obstacle_words}
use Rattle.gw_system.specs.declared.obstacle.Obstacle.{Obstacle}
use Rattle.gw_watchers.specs.declared.files.fault.TrialFault.{TrialFault}
use Rattle.gw_watchers.specs.declared.files.fault.TrialFault.TheVariants as trial
use Rattle.gw_ending.specs.declared.fault.Fault.{Fault}
use Rattle.gw_ending.specs.declared.fault.Fault.TheVariants as fault
use Rattle.gw_ending.specs.declared.fault.MigrationFlaw.{MigrationFlaw}
use Rattle.gw_ending.specs.declared.fault.MigrationFlaw.TheVariants as migration
use Rattle.gw_configuration.specs.declared.fault.ConfigFault.{ConfigFault}
use Rattle.gw_configuration.specs.declared.fault.ConfigFault.TheVariants as config
use Rattle.gw_replay.specs.declared.replaying.RunFault.{RunFault}
use Rattle.gw_replay.specs.declared.replaying.RunFault.TheVariants as run
use Rattle.gw_script.specs.declared.flaw.LineFlaw.{LineFlaw}
use Rattle.gw_script.specs.declared.flaw.LineFlaw.TheVariants as flaw
use Rattle.gw_script.specs.declared.lines.LinesFault.{LinesFault}
use Rattle.gw_script.specs.declared.lines.LinesFault.TheVariants as lines

-- what is wrong with a line
abbrev pub words_of : LineFlaw → List ℕ
words_of flaw.Long = codes "it has more than 4096 octets"
words_of flaw.CarriageReturn = codes "it ends with a carriage return"
words_of flaw.Form = codes "it is neither tick nor a port, an address and octets"
words_of flaw.Port = codes "there is no such port"
words_of flaw.Address = codes "after its port there is no address and a space"
words_of flaw.OddDigits = codes "its octets have an odd number of digits"
words_of flaw.Digits = codes "its octets are no pairs of digits"

-- why a configuration isn't written in format 3
abbrev pub reason_of : MigrationFlaw → List ℕ
reason_of migration.Already = codes "it is of format 3"
reason_of migration.Unlike = codes "it has no text of format 3"

-- why a text is none of a state
abbrev pub cause_of : FaultKind → List ℕ
cause_of state_fault.Version = codes "another version"
cause_of state_fault.Line = codes "no line that may be here"
cause_of state_fault.Range = codes "out of range"
cause_of state_fault.Twice = codes "comes twice"
cause_of state_fault.TooMany = codes "too many"
cause_of state_fault.Cut = codes "the text is cut"
cause_of state_fault.Memory = codes "out of memory"

-- why a file isn't written
abbrev pub store_words : StoreFault → List ℕ
store_words store.NoSpace = codes "no space"
store_words store.NotPermitted = codes "not permitted"
store_words store.ReadOnly = codes "read-only"
store_words store.Memory = codes "out of memory"
store_words store.System = codes "refused by the system"
store_words store.TooMany = codes "too many changes"

-- why a policy isn't on trial
abbrev pub trial_words : TrialFault → List ℕ
trial_words (trial.Unreadable why) = codes "cannot read configuration: "
trial_words (trial.Configuration f) = codes "configuration: "
trial_words trial.Format = codes "it isn't of the configuration's format"
trial_words trial.Ports = codes "its ports aren't the configuration's"
trial_words trial.Log = codes "log failed"

-- and why its file can't be read, or the fault of its configuration, if that is why
abbrev pub trial_reason : TrialFault → List ℕ
trial_reason (trial.Unreadable why) = obstacle_words why
trial_reason (trial.Configuration f) = name_of f
trial_reason f = []

-- the line on standard error of a fault that has one, without the program's name in front and its line feed
abbrev pub text_of : Fault → List ℕ
text_of fault.CommandLine = codes "bad command line"
text_of (fault.Unreadable why) = codes "cannot read configuration: " ++ obstacle_words why
text_of (fault.OtherUnreadable why) = codes "cannot read configuration: " ++ obstacle_words why
text_of (fault.LogUnreadable why) = codes "cannot read log: " ++ obstacle_words why
text_of (fault.Configuration f) = codes "configuration: " ++ name_of f
text_of (fault.OtherConfiguration f) = codes "configuration: " ++ name_of f
text_of (fault.Migration f) = codes "migration: " ++ reason_of f
text_of (fault.Line n) = codes "line " ++ decimal n
text_of (fault.FlawedLine n f) = codes "line " ++ decimal n ++ codes ": " ++ words_of f
text_of fault.Read = codes "read failed"
text_of fault.Write = codes "write failed"
text_of fault.Log = codes "log failed"
text_of (fault.Socket port) = codes "socket failed on port " ++ decimal port
text_of fault.Memory = codes "out of memory"
text_of fault.CountEnd = codes "count at its end"
text_of (fault.StateUnreadable why) = codes "cannot read state: " ++ obstacle_words why
text_of (fault.State f) = codes "state: line " ++ decimal f.line ++ codes ": " ++ cause_of f.kind
text_of (fault.Store f) = codes "state isn't kept: " ++ store_words f
text_of (fault.Trial f) = codes "trial: " ++ (trial_words f ++ trial_reason f)
text_of fault.Audit = codes "audit failed"
text_of (fault.Metrics f) = codes "metrics failed: " ++ store_words f
text_of (fault.Request f) = codes "request failed: " ++ store_words f
text_of fault.NoAnswer = codes "no answer"
text_of fault.TooManyAsks = codes "suggestion: too many asks"
text_of fault.TooManyRules = codes "suggestion: too many rules"
text_of fault.Unwritable = codes "suggestion: the rules can't be written"
text_of fault.Unlisted = codes "the rules can't be written"
text_of fault.Refused = []
text_of fault.Broken = []
text_of fault.Different = []
text_of fault.OtherParts = []
text_of fault.NotAllowed = []

-- the line after the program's name
abbrev pub rest_of : Fault → List ℕ
rest_of f = text_of f ++ 10 ∷ []

-- The same of a file that can't be read: its name, with `?` in the place of each control character, and why.
abbrev pub unread_line : (text name : List ℕ) → Obstacle → List ℕ
unread_line text name why = text ++ (shown name ++ (codes ": " ++ (obstacle_words why ++ 10 ∷ [])))

-- The same of a file that can't be written: a text, why, and its name, if it has one.
abbrev pub named : (file : List ℕ) → List ℕ
named file = if length file == 0 then [] else codes ": " ++ shown file

abbrev pub failed_line : (file text why : List ℕ) → List ℕ
failed_line file text why = text ++ (why ++ (named file ++ 10 ∷ []))

-- the same of why a policy isn't on trial, with the name of the file that can't be read, or of the log that can't be opened
abbrev pub trial_rest : (file : List ℕ) → TrialFault → List ℕ
trial_rest file (trial.Unreadable why) = unread_line (codes "trial: cannot read configuration ") file why
trial_rest file trial.Log = failed_line file (codes "trial: ") (codes "log failed")
trial_rest file f = rest_of (fault.Trial f)

-- the same of any fault that has a line, with the name of the file if that can't be read or written
abbrev pub rest_naming : (file : List ℕ) → Fault → List ℕ
rest_naming file (fault.Unreadable why) = unread_line (codes "cannot read configuration ") file why
rest_naming file (fault.OtherUnreadable why) = unread_line (codes "cannot read configuration ") file why
rest_naming file (fault.LogUnreadable why) = unread_line (codes "cannot read log ") file why
rest_naming file (fault.StateUnreadable why) = unread_line (codes "cannot read state ") file why
rest_naming file (fault.Trial f) = trial_rest file f
rest_naming file fault.Log = failed_line file (codes "log failed") []
rest_naming file fault.Audit = failed_line file (codes "audit failed") []
rest_naming file (fault.Store f) = failed_line file (codes "state isn't kept: ") (store_words f)
rest_naming file (fault.Metrics f) = failed_line file (codes "metrics failed: ") (store_words f)
rest_naming file f = rest_of f

-- a fault has a line: not if `compare` found two configurations that aren't alike, if the answer to a request says why it
-- was refused, or if an assertion doesn't hold
abbrev pub has_line : Fault → Bool
has_line fault.Different = false
has_line fault.OtherParts = false
has_line fault.NotAllowed = false
has_line fault.Refused = false
has_line fault.Broken = false
has_line f = true

-- a line of the program of this name, if there is one
abbrev pub line_if : Bool → (program rest : List ℕ) → List ℕ
line_if true program rest = (program ++ codes ": ") ++ rest
line_if false program rest = []

-- the line of a fault, if it has one
abbrev pub line_of : (program : List ℕ) → Fault → List ℕ
line_of program f = line_if (has_line f) program (rest_of f)

-- the same, which names the file that can't be read or written
abbrev pub line_by : (program file : List ℕ) → Fault → List ℕ
line_by program file f = line_if (has_line f) program (rest_naming file f)

-- 2 if a policy can't be on trial, and 1 if a file of it can't be had
abbrev pub status_of_trial : TrialFault → ℕ
status_of_trial (trial.Unreadable why) = 1
status_of_trial (trial.Configuration f) = 2
status_of_trial trial.Format = 2
status_of_trial trial.Ports = 2
status_of_trial trial.Log = 1

-- 2 where what the program was given is wrong, 1 where what it needs failed
abbrev pub status_of : Fault → ℕ
status_of fault.CommandLine = 2
status_of (fault.Unreadable why) = 1
status_of (fault.OtherUnreadable why) = 1
status_of (fault.LogUnreadable why) = 1
status_of (fault.Configuration f) = 2
status_of (fault.OtherConfiguration f) = 2
status_of (fault.Migration f) = 2
status_of (fault.Line n) = 2
status_of (fault.FlawedLine n f) = 2
status_of fault.Read = 1
status_of fault.Write = 1
status_of fault.Log = 1
status_of (fault.Socket port) = 1
status_of fault.Memory = 1
status_of fault.CountEnd = 1
status_of (fault.StateUnreadable why) = 1
status_of (fault.State f) = 2
status_of (fault.Store f) = 1
status_of (fault.Trial f) = status_of_trial f
status_of fault.Audit = 1
status_of (fault.Metrics f) = 1
status_of (fault.Request f) = 1
status_of fault.NoAnswer = 1
status_of fault.TooManyAsks = 2
status_of fault.TooManyRules = 2
status_of fault.Unwritable = 2
status_of fault.Unlisted = 2
status_of fault.Refused = 2
status_of fault.Broken = 2
status_of fault.Different = 1
status_of fault.OtherParts = 1
status_of fault.NotAllowed = 1

-- a comparison found something
abbrev pub is_different : Fault → Bool
is_different fault.Different = true
is_different fault.OtherParts = true
is_different _ = false

-- the fault of the configuration that another is compared with
abbrev pub of_other : Fault → Fault
of_other (fault.Unreadable why) = fault.OtherUnreadable why
of_other (fault.Configuration f) = fault.OtherConfiguration f
of_other f = f

-- why words choose nothing, as the program reports it
abbrev pub fault_of_words : WordsFault → Fault
fault_of_words words.CommandLine = fault.CommandLine
fault_of_words words.Memory = fault.Memory

-- the fault of a configuration, as the program reports it
abbrev pub fault_of_configuration : ConfigFault → Fault
fault_of_configuration config.Memory = fault.Memory
fault_of_configuration f = fault.Configuration f

-- why a text isn't that of a state, as the program reports it
abbrev pub fault_of_state : StateFault → FaultKind → Fault
fault_of_state f state_fault.Memory = fault.Memory
fault_of_state f _ = fault.State f

-- why a state isn't kept, as the program reports it
abbrev pub fault_of_store : StoreFault → Fault
fault_of_store store.Memory = fault.Memory
fault_of_store f = fault.Store f

-- why metrics aren't written, as the program reports it
abbrev pub fault_of_metrics : StoreFault → Fault
fault_of_metrics store.Memory = fault.Memory
fault_of_metrics f = fault.Metrics f

-- why a request isn't made, as the program reports it
abbrev pub fault_of_request : StoreFault → Fault
fault_of_request store.Memory = fault.Memory
fault_of_request f = fault.Request f

-- a request to read the configuration again that has no answer
abbrev pub IsUnanswered : Fault → Type 0
IsUnanswered (fault.Request f) = ⊤
IsUnanswered fault.NoAnswer = ⊤
IsUnanswered fault.Memory = ⊤
IsUnanswered _ = ⊥

-- the fault of a run, as the program reports it
abbrev pub fault_of : RunFault → Fault
fault_of run.Read = fault.Read
fault_of (run.Line n) = fault.Line n
fault_of run.Write = fault.Write
fault_of run.Memory = fault.Memory
fault_of run.CountEnd = fault.CountEnd

-- the fault of the lines, as the program reports it
abbrev pub fault_of_lines : LinesFault → Fault
fault_of_lines lines.Read = fault.Read
fault_of_lines (lines.Line n) = fault.Line n
fault_of_lines lines.Write = fault.Write
fault_of_lines lines.Memory = fault.Memory

-- what standard error is given: nothing, or the fault's line
abbrev pub error_text : (program : List ℕ) → Result (Unit {0}) Fault → List ℕ
error_text program (Ok done) = []
error_text program (Err of_program) = line_of program of_program

-- the exit status: 0, or the fault's
abbrev pub status_after : Result (Unit {0}) Fault → ℕ
status_after (Ok done) = 0
status_after (Err of_program) = status_of of_program
