-- What a run leaves: one that may keep its state, read its configuration again, report and be watched.
use Rattle.std.specs.Prelude.{◌≡◌, ◌⊎◌, ⊤, ℕ, ◌&&◌, ◌||◌, Bool, true, false, is_some, not, List, [], ◌∷◌, ◌++◌, Option, Some, None, Result}
use Rattle.std.specs.Prelude.{Ok, Err, codes, option_map, string_bytes}
use Rattle.std.specs.Global.{Vec}
use Rattle.gw_configuration.specs.Configuration.{Configuration}
use Rattle.gw_core.specs.State.{State}
use Rattle.gw_policy_text.specs.Document.{configuration}
use Rattle.gw_core.specs.declared.event.Counts.{Counts}
use Rattle.gw_state.specs.Saved.{Saved, origin_of}
use Rattle.gw_core.specs.Guard.{PassesBoth}
use Rattle.gw_script.specs.declared.sink.WriteFailed.{WriteFailed}
use Rattle.gw_turns.specs.Announcing.{first_announcing}
use Rattle.gw_turns.specs.Keeping.{IsTried, nothing_kept}
use Rattle.gw_turns.specs.Serve.{scene, zero_counts}
use Rattle.gw_turns.specs.Stretch.{moment}
use Rattle.gw_turns.specs.Tally.{no_tally}
use Rattle.gw_turns.specs.declared.announcing.Announcing.{Announcing}
use Rattle.gw_turns.specs.declared.serving.ServeFault.{ServeFault}
use Rattle.gw_core.specs.declared.guard.BothGuards.{BothGuards}
use Rattle.gw_turns.specs.declared.serving.Served.{Served}
use Rattle.gw_wire.specs.declared.store.StoreFault.{StoreFault}
use Rattle.gw_turns.specs.declared.tally.DropTally.{DropTally}
use Rattle.gw_system.specs.Host.{LogOpening}
use Rattle.gw_system.specs.Offers.{Offers}
use Rattle.gw_wire.specs.Wire.{Call}
use Rattle.gw_watchers.specs.Watching.{HasWatched, Watching}
use Rattle.gw_system.specs.Opening.{IsNote}
use Rattle.gw_system.specs.Requests.{Asking, GoesOn, answered, recorded_by}
use Rattle.gw_system.specs.declared.opening.OpenFailure.{OpenFailure}
use Rattle.gw_system.specs.declared.reading.ReadFailure.{ReadFailure}
use Rattle.gw_system.specs.declared.reading.ReadFailure.TheVariants as reading
use Rattle.gw_system.specs.declared.store.StoreKind.{StoreKind}
use Rattle.gw_system.specs.declared.store.StoreKind.TheVariants as kind
use Rattle.gw_service.specs.Chain.{Begins, Link, Manner, Runs, Stage, chain_text, stage}
use Rattle.gw_service.specs.Conduct.{manner_by}
use Rattle.gw_service.specs.Holding.{Hold, RunsHolding, hold, holding_manner, more_holding, unheld}
use Rattle.gw_service.specs.declared.holding.Holding.{Holding}
use Rattle.gw_service.specs.declared.running.RunEnd.{RunEnd}
use Rattle.gw_service.specs.declared.running.RunEnd.TheVariants as end
use Rattle.gw_notices.specs.metrics.Writing.{Metering, nothing_written}
use Rattle.gw_notices.specs.Parts.{IsTrialLine}
use Rattle.gw_notices.specs.Startup.{IsWarning, startup_line}
use Rattle.gw_service.specs.Metering.{MetersLast, lost_by, metered, seconds_of}
use Rattle.gw_service.specs.Fault.{fault_of_opening, fault_of_serving}
use Rattle.gw_service.specs.Keeping.{IsPassed, failing_in, unkept_in}
use Rattle.gw_notices.specs.Notices.{no_status_line, no_troubles, notice_of, stop_line}
use Rattle.gw_service.specs.Watch.{IsUnwatched, WatchNames, WatchesUnder, conduct_beside, is_watched, more_of, troubles_of, unaudited_note}
use Rattle.gw_service.specs.Watch.{watch_names}
use Rattle.gw_service.specs.Serving.{AreOpen, ArentOpen, Ends, LeavesServed, LogStays, Machine, Service, ends, log_held, machine_of}
use Rattle.gw_service.specs.Serving.{service}
use Rattle.gw_service.specs.Start.{BeginsAs, IsStateRead, counts_of, start_text}
use Rattle.gw_notices.specs.Reload.{counts_since}
use Rattle.gw_notices.specs.declared.checksum.Checksum.{Checksum}
use Rattle.gw_service.specs.Stats.{Reporting, end_stats, reporting}
use Rattle.gw_service.specs.declared.edition.Edition.{Edition}
use Rattle.gw_service.specs.declared.fault.ServiceFault.{ServiceFault}
use Rattle.gw_service.specs.declared.fault.ServiceFault.TheVariants as fault
use Rattle.gw_service.specs.declared.keeping.Kept.{Kept}
use Rattle.gw_notices.specs.declared.reload.ReloadCounts.{ReloadCounts}
use Rattle.gw_notices.specs.declared.troubles.Troubles.{Troubles}
use Rattle.gw_service.specs.declared.keeping.Kept.TheVariants.{Nowhere, In}
use Rattle.gw_service.specs.declared.kept.Before.{Before}
use Rattle.gw_configuration.specs.declared.run_options.RunOptions.{RunOptions}

-- ---- what is read before anything is opened

-- what was saved in the file of this name, if one is named
abbrev pub IsStateUnder : (List ℕ → Result (Option (List ℕ)) ReadFailure → Type 0) → Option (List ℕ)
    → Result (Option Saved) ServiceFault → Type 0
IsStateUnder FileReads None outcome = outcome ≡ Ok None
IsStateUnder FileReads (Some name) outcome =
    (read : Result (Option (List ℕ)) ReadFailure) × FileReads name read × IsStateRead read outcome

-- the fault of a log that can't be read
abbrev pub fault_of_log_reading : ReadFailure → ServiceFault
fault_of_log_reading (reading.Unreadable why) = fault.Log
fault_of_log_reading reading.Memory = fault.Memory

abbrev pub line_outcome : Result (Option (List ℕ)) ReadFailure → Result (Option (List ℕ)) ServiceFault
line_outcome (Ok line) = Ok line
line_outcome (Err failure) = Err (fault_of_log_reading failure)

-- a line that was read
abbrev pub line_read : Result (Option (Vec ℕ)) ServiceFault → Result (Option (List ℕ)) ServiceFault
line_read (Ok line) = Ok (option_map (λ line. line.items) line)
line_read (Err f) = Err f

-- the line of the log's last denial, if a state is kept and the log is in a file
abbrev pub IsLastDenial : (List ℕ → Result (Option (List ℕ)) ReadFailure → Type 0) → (state log : Option (List ℕ))
    → Result (Option (List ℕ)) ServiceFault → Type 0
IsLastDenial LastDenials (Some state) (Some log) outcome =
    (read : Result (Option (List ℕ)) ReadFailure) × LastDenials log read × (outcome ≡ line_outcome read)
IsLastDenial LastDenials _ _ outcome = outcome ≡ Ok None

-- what opening a store of a name may give, by what it is for
abbrev pub StoreOpening : Type 0 → Type 1
StoreOpening S = StoreKind → List ℕ → Result S StoreFault → Type 0

-- the store under this name, if one is named, or why it can't be opened
abbrev pub store_outcome : {S : Type 0} → Result S StoreFault → Result (Option S) ServiceFault
store_outcome (Ok store) = Ok (Some store)
store_outcome (Err f) = Err (fault.Store f)

abbrev pub IsStoreUnder : {S : Type 0} → StoreOpening S → Option (List ℕ) → Result (Option S) ServiceFault → Type 0
IsStoreUnder StoreOpens None outcome = outcome ≡ Ok None
IsStoreUnder {S} StoreOpens (Some name) outcome =
    (opened : Result S StoreFault) × StoreOpens kind.Kept name opened × (outcome ≡ store_outcome opened)

-- the store of the metrics under this name, if one is named, or why it can't be opened
abbrev pub metrics_outcome : {S : Type 0} → Result S StoreFault → Result (Option S) ServiceFault
metrics_outcome (Ok store) = Ok (Some store)
metrics_outcome (Err f) = Err (fault.Metrics f)

abbrev pub IsMetricsUnder : {S : Type 0} → StoreOpening S → Option (List ℕ) → Result (Option S) ServiceFault → Type 0
IsMetricsUnder StoreOpens None outcome = outcome ≡ Ok None
IsMetricsUnder {S} StoreOpens (Some name) outcome =
    (opened : Result S StoreFault) × StoreOpens kind.Shown name opened × (outcome ≡ metrics_outcome opened)

-- what asks by the file of this name to read this configuration again, if one is named
abbrev pub AreRequestsUnder : {Q : Type 0} → (List ℕ → List ℕ → Q → Type 0) → Option (List ℕ) → List ℕ → Option Q → Type 0
AreRequestsUnder ReloadsOpen None config None = ⊤
AreRequestsUnder ReloadsOpen (Some name) config (Some requests) = ReloadsOpen name config requests
AreRequestsUnder ReloadsOpen _ config _ = ⊥

-- what is said of the state at the start, if one is kept
abbrev pub text_before : Option (List ℕ) → Bool → Configuration → Option Saved → List ℕ
text_before None verbose c saved = []
text_before (Some name) verbose c saved = start_text verbose name c saved

-- What is said of a policy that is to be on trial beside this configuration, by what its file gave: that only its rules are tried,
-- if other parts of its configuration differ. Nothing, if it has none, or memory runs out.
abbrev pub IsTrialNoteOf : Configuration → Result (Option (List ℕ)) ReadFailure → List ℕ → Type 0
IsTrialNoteOf c (Ok (Some text)) note =
    ((trial : Configuration) × (configuration text ≡ Ok trial) × IsTrialLine c trial note) ⊎ (note ≡ [])
IsTrialNoteOf c read note = note ≡ []

-- of the file of this name, if there is a trial
abbrev pub IsTrialNote : (List ℕ → Result (Option (List ℕ)) ReadFailure → Type 0) → Option (List ℕ) → Configuration → List ℕ → Type 0
IsTrialNote FileReads None c note = note ≡ []
IsTrialNote FileReads (Some name) c note =
    (read : Result (Option (List ℕ)) ReadFailure) × FileReads name read × IsTrialNoteOf c read note

-- what is said at the start: of the state, and of the trial
pub record IsTextBefore (FileReads : List ℕ → Result (Option (List ℕ)) ReadFailure → Type 0) (state trial : Option (List ℕ))
    (is_verbose : Bool)
    (c : Configuration) (saved : Option Saved) (text : List ℕ) : Type 0 where
  pub note : List ℕ
  pub tried : IsTrialNote FileReads trial c note
  pub says : text ≡ text_before state is_verbose c saved ++ note

-- ---- the first moment

-- The state is kept at once in this store, if there is one; or that failed, and the keeper says why.
abbrev pub KeepsFirst : {S : Type 0} → (S → Option (List ℕ)) → Option S → Configuration → State → Kept S → Type 0
KeepsFirst held None c w Nowhere = ⊤
KeepsFirst held (Some store) c w (In k) = IsTried held (nothing_kept store (origin_of c)) w k
KeepsFirst held _ c w _ = ⊥

-- ---- a run

-- what a store holds, what requests say and what a log beside the log holds; what was saved, the last denial of the log, and the
-- store, that of the metrics and the requests, if there are some; what watches, maybe nothing; and the checksum of the configuration's text
pub record Given (S Q L : Type 0) : Type 0 where
  pub held : S → Option (List ℕ)
  pub said : Q → Asking
  pub log_held : L → Option (List ℕ)
  pub saved : Option Saved
  pub line : Option (List ℕ)
  pub store : Option S
  pub metrics : Option S
  pub requests : Option Q
  pub watcher : Watching L L
  pub checksum : Checksum

abbrev pub given : {S Q L : Type 0} → (S → Option (List ℕ)) → (Q → Asking) → (L → Option (List ℕ)) → Before S Q L → Given S Q L
given held said log_held before = record {
  held = held;
  said = said;
  log_held = log_held;
  saved = before.saved;
  line = option_map (λ line. line.items) before.line;
  store = before.store;
  metrics = before.metrics;
  requests = before.requests;
  watcher = before.watcher;
  checksum = before.checksum;
}

-- what watches a gateway, and then keeps its state by a store: what is recorded of an event is written before its state is kept
abbrev pub unkept_of : {S L : Type 0} → BothGuards (Watching L L) (Kept S) → ℕ
unkept_of k = unkept_in k.second

abbrev pub watched_manner_of : {S L : Type 0} → (S → Option (List ℕ)) → (L → Option (List ℕ)) → Reporting
    → Manner (BothGuards (Watching L L) (Kept S))
watched_manner_of held log_held how =
    manner_by (PassesBoth (HasWatched log_held log_held) (IsPassed held)) (conduct_beside held) how

-- the outcome of a run that was asked to stop, by why the state isn't kept, if it isn't
abbrev pub outcome_of_stop : Option StoreFault → Result (Unit {0}) ServiceFault
outcome_of_stop None = Ok tt
outcome_of_stop (Some f) = Err (fault.Store f)

-- the outcome of a run, by the answer of serving
abbrev pub outcome_by : Result RunEnd ServeFault → (failing : Option StoreFault) → Result (Unit {0}) ServiceFault
outcome_by (Ok end.Turns) failing = Ok tt
outcome_by (Ok end.Stopped) failing = outcome_of_stop failing
outcome_by (Ok end.Unsynced) failing = Err fault.Log
outcome_by (Err fault) failing = Err (fault_of_serving fault)

-- what answers a request to say what is counted: that text, or that there was no memory for it
abbrev pub status_or : Result (Vec ℕ) WriteFailed → List ℕ
status_or (Ok text) = text.items
status_or (Err failed) = no_status_line

-- the gateway was asked to stop
abbrev pub is_stopped : Result RunEnd ServeFault → Bool
is_stopped (Ok end.Turns) = false
is_stopped (Ok end.Stopped) = true
is_stopped (Ok end.Unsynced) = false
is_stopped (Err fault) = false

-- what is answered and reported at the end, if the gateway was asked to stop
abbrev pub stop_text : Result RunEnd ServeFault → (failing : Option StoreFault) → List ℕ
stop_text (Ok end.Turns) failing = []
stop_text (Ok end.Stopped) failing = stop_line failing
stop_text (Ok end.Unsynced) failing = []
stop_text (Err fault) failing = []

abbrev pub AnswersStop : Result RunEnd ServeFault → (failing : Option StoreFault) → (before after : Asking) → Type 0
AnswersStop (Ok end.Turns) failing before after = after ≡ before
AnswersStop (Ok end.Stopped) failing before after = GoesOn before after (answered (stop_line failing) ∷ [])
AnswersStop (Ok end.Unsynced) failing before after = after ≡ before
AnswersStop (Err fault) failing before after = after ≡ before

-- the metrics are put once more then
abbrev pub MetersEnd : Result RunEnd ServeFault → Option Metering → Option ℕ → Option Metering → Type 0
MetersEnd (Ok end.Turns) before seconds after = after ≡ before
MetersEnd (Ok end.Stopped) before seconds after = MetersLast before seconds after
MetersEnd (Ok end.Unsynced) before seconds after = after ≡ before
MetersEnd (Err fault) before seconds after = after ≡ before

-- the first stage: nothing was counted, an announcement is due, and it was reported whether the state is kept
abbrev pub first_stage : {S Q L K : Type 0} → Given S Q L → Configuration → State → K → Troubles → Ends → Stage K
first_stage given c w keeper troubles ends =
    stage c (moment (scene w ends.log ends.calls) keeper zero_counts no_tally) (recorded_by given.said given.requests)
    (counts_since w.ticks given.checksum) first_announcing troubles (metered (option_map nothing_written given.metrics))

-- What is reported of such a run, of which a gateway in this state begins: whether each report counts the asks of each rule; how
-- often its state couldn't be kept, if it is or requests are looked for; how often its configuration was read again, if they are; and
-- what is said each minute, if it is verbose.
abbrev pub reporting_of : {S Q L : Type 0} → Given S Q L → Service → State → Reporting
reporting_of given how w =
    reporting how.stats how.rules (counts_of w) (is_some given.requests || is_some given.store) (is_some given.requests) how.verbose

-- what is left of a run: what kept its state, and what was asked and answered
pub record Rest (K : Type 0) : Type 0 where
  pub keeper : K
  pub requests : Asking

abbrev pub rest : {K : Type 0} → K → Asking → Rest K
rest keeper requests = record { keeper = keeper; requests = requests }

-- what a run does at its end, from the last stage of it: it keeps its state once more, whatever ended it; if it was asked to stop,
-- it puts its metrics once more; it reports what was done; and if it was asked to stop, it answers that
pub record EndsRun {K : Type 0} (manner : Manner K)
    (last_report : K → ReloadCounts → Announcing → Option ℕ → State → Served → DropTally → List ℕ)
    (start : Counts) (answer : Result RunEnd ServeFault) (last : Stage K) (left : Rest K) (text : List ℕ) : Type 0 where
  pub keeps : manner.Lasts last.now.guard last.now.scene.gateway left.keeper
  pub metrics : Option Metering
  pub put : MetersEnd answer last.metrics (seconds_of start last.now.scene.gateway last.now.served last.now.tally) metrics
  pub answers : AnswersStop answer (manner.troubles left.keeper).state last.requests left.requests
  pub said : text ≡ last_report left.keeper last.counts last.announcing (lost_by metrics) last.now.scene.gateway
      last.now.served last.now.tally
      ++ stop_text answer (manner.troubles left.keeper).state

-- A run of so many turns from a stage, by its answer: what isn't kept or recorded is reported first, then what is due is announced,
-- before the first turn, and last is what it does at its end.
pub record RunsFrom {K : Type 0} (manner : Manner K)
    (last_report : K → ReloadCounts → Announcing → Option ℕ → State → Served → DropTally → List ℕ)
    (start : Counts) (turns : ℕ) (first : Stage K) (answer : Result RunEnd ServeFault) (after : Ends) (left : Rest K)
    (text : List ℕ) : Type 0 where
  pub begun : Stage K
  pub begins : Begins first begun
  pub links : List Link
  pub last : Stage K
  pub runs : Runs manner turns begun answer links last
  pub log : last.now.scene.log ≡ after.log
  pub calls : last.now.scene.calls ≡ after.calls
  pub end_text : List ℕ
  pub ends : EndsRun manner last_report start answer last left end_text
  pub said : text ≡ (notice_of no_troubles first.said ++ chain_text links) ++ end_text

-- A run from a stage, while nothing waits: what isn't kept or recorded is reported first, then what is due is announced, and last is
-- what it does at its end.
pub record RunsFromHolding {K : Type 0} (manner : Manner (Holding K))
    (last_report : Holding K → ReloadCounts → Announcing → Option ℕ → State → Served → DropTally → List ℕ)
    (start : Counts) (turns : ℕ) (first : Stage (Holding K)) (answer : Result RunEnd ServeFault) (after : Ends) (left : Rest (Holding K))
    (text : List ℕ)
    : Type 0 where
  pub begun : Stage (Holding K)
  pub begins : Begins first begun
  pub last : Hold K
  pub run_text : List ℕ
  pub runs : RunsHolding manner turns (hold begun []) answer run_text last
  pub log : last.stage.now.scene.log ≡ after.log
  pub calls : last.stage.now.scene.calls ≡ after.calls
  pub end_text : List ℕ
  pub ends : EndsRun manner last_report start answer last.stage left end_text
  pub said : text ≡ (notice_of no_troubles first.said ++ run_text) ++ end_text

-- A gateway of this configuration begins with what was saved, its state is kept at once, and then it runs for so many turns, and
-- reports what it did. It is watched, maybe for nothing, before its state is kept.
pub record RunsWatched {S Q L : Type 0} (given : Given S Q L) (c : Configuration) (how : Service) (before after : Ends) (text : List ℕ)
    (outcome : Result (Unit {0}) ServiceFault) : Type 0 where
  pub gateway : State
  pub begins : BeginsAs c given.saved given.line gateway
  pub keeper : BothGuards (Watching L L) (Kept S)
  pub keeps : KeepsFirst given.held given.store c gateway keeper.second
  pub watches : keeper.first ≡ given.watcher
  pub answer : Result RunEnd ServeFault
  pub left : Rest (BothGuards (Watching L L) (Kept S))
  pub runs : RunsFrom (watched_manner_of given.held given.log_held (reporting_of given how gateway))
      (end_stats unkept_of more_of (reporting_of given how gateway)) (counts_of gateway) how.turns
      (first_stage given c gateway keeper (troubles_of keeper) before) answer after left text
  pub answers : outcome ≡ outcome_by answer (failing_in left.keeper.second)

-- It may go on if its log fails: what watches and keeps the state is in what withholds what is denied while lines wait.
abbrev pub watched_holding_manner_of : {S L : Type 0} → (S → Option (List ℕ)) → (L → Option (List ℕ)) → Reporting
    → Manner (Holding (BothGuards (Watching L L) (Kept S)))
watched_holding_manner_of held log_held how =
    holding_manner (PassesBoth (HasWatched log_held log_held) (IsPassed held)) (conduct_beside held) how

pub record HoldsWatched {S Q L : Type 0} (given : Given S Q L) (c : Configuration) (how : Service) (before after : Ends) (text : List ℕ)
    (outcome : Result (Unit {0}) ServiceFault) : Type 0 where
  pub gateway : State
  pub begins : BeginsAs c given.saved given.line gateway
  pub keeper : BothGuards (Watching L L) (Kept S)
  pub keeps : KeepsFirst given.held given.store c gateway keeper.second
  pub watches : keeper.first ≡ given.watcher
  pub answer : Result RunEnd ServeFault
  pub left : Rest (Holding (BothGuards (Watching L L) (Kept S)))
  pub runs : RunsFromHolding (watched_holding_manner_of given.held given.log_held (reporting_of given how gateway))
      (end_stats (λ h. unkept_of h.keeper) (more_holding more_of) (reporting_of given how gateway)) (counts_of gateway) how.turns
      (first_stage given c gateway (unheld keeper) (troubles_of keeper) before) answer after left text
  pub answers : outcome ≡ outcome_by answer (failing_in left.keeper.keeper.second)

-- by whether it goes on if its log fails
abbrev pub RunsBy : {S Q L : Type 0} → Given S Q L → (holds : Bool) → Configuration → Service → Ends → Ends → List ℕ
    → Result (Unit {0}) ServiceFault → Type 0
RunsBy given false c how before after text outcome = RunsWatched given c how before after text outcome
RunsBy given true c how before after text outcome = HoldsWatched given c how before after text outcome

-- Memory ran out before that: nothing was received or reported.
abbrev pub IsUnbegun : (before after : Ends) → (text : List ℕ) → (outcome : Result (Unit {0}) ServiceFault) → Type 0
IsUnbegun before after text outcome = (after ≡ before) × (text ≡ []) × (outcome ≡ Err fault.Memory)

-- what a run leaves that keeps its state or reads its configuration again
abbrev pub LeavesKept : {S Q L : Type 0} → Given S Q L → Configuration → Service → Ends → Ends → List ℕ → Result (Unit {0}) ServiceFault
    → Type 0
LeavesKept given c how before after text outcome =
    RunsBy given how.holds c how before after text outcome ⊎ IsUnbegun before after text outcome

-- ---- the whole

-- What a machine may give to a run that keeps its state or reads its configuration again: a file's octets, the last denial of a
-- log, a store, and what asks to read the configuration again; what a store holds, and what was asked and answered.
pub record StateMachine (S Q : Type 0) : Type 1 where
  pub FileReads : List ℕ → Result (Option (List ℕ)) ReadFailure → Type 0
  pub LastDenials : List ℕ → Result (Option (List ℕ)) ReadFailure → Type 0
  pub StoreOpens : StoreOpening S
  pub ReloadsOpen : List ℕ → List ℕ → Q → Type 0
  pub held : S → Option (List ℕ)
  pub said : Q → Asking

abbrev pub state_machine : {S Q : Type 0} → (List ℕ → Result (Option (List ℕ)) ReadFailure → Type 0)
    → (List ℕ → Result (Option (List ℕ)) ReadFailure → Type 0) → StoreOpening S → (List ℕ → List ℕ → Q → Type 0)
    → (S → Option (List ℕ)) → (Q → Asking) → StateMachine S Q
state_machine FileReads LastDenials StoreOpens ReloadsOpen held said = record {
  FileReads = FileReads;
  LastDenials = LastDenials;
  StoreOpens = StoreOpens;
  ReloadsOpen = ReloadsOpen;
  held = held;
  said = said;
}

-- the names of the files of a run: its configuration, and if there are some, its log, its state, its metrics, its requests, and
-- those of what watches
pub record Names : Type 0 where
  pub config : List ℕ
  pub log : Option (List ℕ)
  pub state : Option (List ℕ)
  pub metrics : Option (List ℕ)
  pub reload : Option (List ℕ)
  pub watch : WatchNames

abbrev pub names_of : RunOptions → Names
names_of options = record {
  config = string_bytes options.config;
  log = option_map string_bytes options.log;
  state = option_map string_bytes options.state;
  metrics = option_map string_bytes options.metrics;
  reload = option_map string_bytes options.reload;
  watch = watch_names options;
}

-- what was read and made before the log was opened
pub record IsPrepared {S Q Log : Type 0} (machine : StateMachine S Q) (LogOpens : LogOpening Log) (names : Names) (e : Edition)
    (is_verbose : Bool) (before : Before S Q Log) : Type 0 where
  pub saved : IsStateUnder machine.FileReads names.state (Ok before.saved)
  pub line : IsLastDenial machine.LastDenials names.state names.log (Ok (option_map (λ line. line.items) before.line))
  pub text : IsTextBefore machine.FileReads names.state names.watch.trial is_verbose e.config before.saved before.text.items
  pub store : IsStoreUnder machine.StoreOpens names.state (Ok before.store)
  pub metrics : IsMetricsUnder machine.StoreOpens names.metrics (Ok before.metrics)
  pub requests : AreRequestsUnder machine.ReloadsOpen names.reload names.config before.requests
  pub watcher : WatchesUnder machine.FileReads machine.LastDenials LogOpens e.config names.watch before.watcher
  pub checksum : before.checksum ≡ e.checksum

-- Why it couldn't be: the state can't be read, or isn't one; the log can't be read; its store can't be opened,
-- or that of the metrics; what is to watch can't; or memory ran out.
abbrev pub IsUnprepared : {S Q Log : Type 0} → StateMachine S Q → LogOpening Log → Names → Configuration → ServiceFault → Type 0
IsUnprepared machine LogOpens names c f =
    IsStateUnder machine.FileReads names.state (Err f) ⊎ (IsLastDenial machine.LastDenials names.state names.log (Err f)
    ⊎ ((IsStoreUnder machine.StoreOpens names.state (Err f) ⊎ IsMetricsUnder machine.StoreOpens names.metrics (Err f))
    ⊎ (IsUnwatched machine.FileReads machine.LastDenials LogOpens c names.watch f ⊎ (f ≡ fault.Memory))))

-- What a run leaves under a configuration: the sockets are open, but its state or its log's last denial can't be had; not all can
-- be opened, and why may be written; or all was opened, this line, a warning of the machine and what is due of the state were
-- written, and then it ran and was closed.
pub data LeavesWithState {Log Sockets S Q : Type 0} (machine : Machine Log Sockets) (states : StateMachine S Q) (names : Names)
    (held holds : Option (List ℕ)) (e : Edition) (how : Service) (is_verbose : Bool) (line said : List ℕ)
    (outcome : Result (Unit {0}) ServiceFault) : Type 0 where
  unprepared : (f : ServiceFault) (sockets : Sockets) → machine.SocketsOpen e.config.ports (Ok sockets) →
      IsUnprepared states machine.LogOpens names e.config f → outcome ≡ Err f → holds ≡ held → said ≡ [] →
      LeavesWithState machine states names held holds e how is_verbose line said outcome
  unopened : (failure : OpenFailure) → ArentOpen machine.LogOpens (machine.SocketsOpen e.config.ports) names.log held holds failure →
      outcome ≡ Err (fault_of_opening failure) → IsNote is_verbose failure said →
      LeavesWithState machine states names held holds e how is_verbose line said outcome
  ran : (before : Before S Q Log) (log log_then : Option Log) (sockets sockets_then : Sockets) (output : Option (List ℕ))
      (warning text : List ℕ) → IsPrepared states machine.LogOpens names e is_verbose before →
      AreOpen machine.LogOpens (machine.SocketsOpen e.config.ports) names.log held output log sockets →
      machine.Closes sockets_then log_then → LogStays log log_then output holds →
      LeavesKept (given states.held states.said machine.held before) e.config how
      (ends (log_held machine.held log output) (machine.calls sockets))
      (ends (log_held machine.held log_then holds) (machine.calls sockets_then))
      text outcome →
      IsWarning machine.RoutesIp is_verbose warning → said ≡ ((line ++ warning) ++ before.text.items) ++ text →
      LeavesWithState machine states names held holds e how is_verbose line said outcome

-- neither a state nor a request file is named, nothing watches, and it doesn't go on if its log fails
abbrev pub is_plain : RunOptions → Bool
is_plain options =
    (not (is_some options.state) && (not (is_some options.reload) && not (is_watched (watch_names options)))) && not options.holds

-- what a machine may give to any run, and whether opening the log of a name may wait for its reader
pub record WholeMachine (Log Sockets S Q : Type 0) : Type 1 where
  pub machine : Machine Log Sockets
  pub states : StateMachine S Q
  pub Waits : List ℕ → Bool → Type 0

abbrev pub whole_machine : {Log Sockets S Q : Type 0} → Machine Log Sockets → StateMachine S Q → (Waits : List ℕ → Bool → Type 0)
    → WholeMachine Log Sockets S Q
whole_machine machine states Waits = record { machine = machine; states = states; Waits = Waits }

-- by what it offers, how it closes, and what a log, sockets, a store and what asks show
abbrev pub states_of : {Log Sockets S Q : Type 0} → Offers Log Sockets S Q → (S → Option (List ℕ)) → (Q → Asking) → StateMachine S Q
states_of offers held said = state_machine offers.FileReads offers.LastDenials offers.StoreOpens offers.ReloadsOpen held said

abbrev pub whole_of : {Log Sockets S Q : Type 0} → Offers Log Sockets S Q → (Closes : Sockets → Option Log → Type 0)
    → (log_held : Log → Option (List ℕ)) → (calls : Sockets → Option (List Call)) → (held : S → Option (List ℕ)) → (said : Q → Asking)
    → WholeMachine Log Sockets S Q
whole_of offers Closes log_held calls held said =
    whole_machine (machine_of offers Closes log_held calls) (states_of offers held said) offers.Waits

-- how options ask to serve
abbrev pub service_by : RunOptions → Service
service_by options = service options.turns options.stats options.stats_rules options.verbose options.holds

-- What a run leaves under a configuration, by its options. If they name neither a state nor a request file, nothing watches and
-- nothing is announced, then it is also what one of `serve` from the gateway's first state leaves.
abbrev pub LeavesChosen : {Log Sockets S Q : Type 0} → WholeMachine Log Sockets S Q → RunOptions → (held holds : Option (List ℕ))
    → Edition → List ℕ → Result (Unit {0}) ServiceFault → Type 0
LeavesChosen whole options held holds e said outcome =
    let name = option_map string_bytes options.log in
    let line = startup_line options.verbose e.config name in
    LeavesWithState whole.machine whole.states (names_of options) held holds e (service_by options) options.verbose line said outcome
    × (is_plain options ≡ true → e.config.announce ≡ false
    → LeavesServed whole.machine name held holds e.config options.turns options.verbose line said outcome)

-- whether opening the log may wait for its reader: if it is in a file, what the machine says of that
abbrev pub IsWaiting : (Waits : List ℕ → Bool → Type 0) → (log : Option (List ℕ)) → Bool → Type 0
IsWaiting Waits None waits = waits ≡ false
IsWaiting Waits (Some name) waits = Waits name waits

-- what is written of that
abbrev pub waiting_note : Bool → List ℕ
waiting_note true = codes "bacgw: the log waits for its reader\n"
waiting_note false = []

-- and before all it is said if rules say that they are audited, and no audit is named; and if the log waits for its reader
abbrev pub LeavesService : {Log Sockets S Q : Type 0} → WholeMachine Log Sockets S Q → RunOptions → (held holds : Option (List ℕ))
    → Edition → List ℕ → Result (Unit {0}) ServiceFault → Type 0
LeavesService whole options held holds e said outcome =
    (waits : Bool) × IsWaiting whole.Waits (option_map string_bytes options.log) waits × (rest : List ℕ)
    × (said ≡ (unaudited_note e.config.audits (is_some options.audit) ++ waiting_note waits) ++ rest)
    × LeavesChosen whole options held holds e rest outcome
