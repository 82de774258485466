-- A run whose options name neither a state nor a request file, and that nothing watches: it is one of `serve`, and reports nothing unless
-- it is verbose.
use Rattle.std.proofs.Common.{◌≡◌, ◌∙◌, ℕ, List, [], ◌∷◌, ◌++◌, Bool, true, false, Option, Some, None, refl, sym, ap, ap₂, subst, inl, inr}
use Rattle.std.proofs.lemmas.List.{append-nil}
use Rattle.std.proofs.lemmas.List.Concat.{flat_map-cons}
use Rattle.std.specs.Prelude.{Result, Ok, Err, if◌then◌else◌, is_some, not, ◌&&◌, ◌||◌, option_map, string_bytes}
use Rattle.gw_configuration.specs.Configuration.{Configuration}
use Rattle.gw_configuration.specs.declared.run_options.RunOptions.{RunOptions}
use Rattle.gw_core.specs.State.{State}
use Rattle.gw_core.specs.declared.event.Counts.{Counts}
use Rattle.gw_notices.specs.Notices.{metrics_notice, no_troubles, notice_of}
use Rattle.gw_notices.specs.declared.troubles.Troubles.{Troubles}
use Rattle.gw_state.specs.Saved.{Saved}
use Rattle.gw_system.specs.Host.{LogOpening}
use Rattle.gw_system.specs.Opening.{IsNote}
use Rattle.gw_system.specs.Requests.{nobody, recorded_by}
use Rattle.gw_system.specs.declared.opening.LogFailure.TheVariants as log_failure
use Rattle.gw_system.specs.declared.opening.OpenFailure.TheVariants as opening
use Rattle.gw_system.specs.declared.reading.ReadFailure.{ReadFailure}
use Rattle.gw_turns.specs.declared.serving.ServeFault.{ServeFault}
use Rattle.gw_notices.specs.metrics.Writing.{Metering, nothing_written}
use Rattle.gw_wire.specs.declared.store.StoreFault.{StoreFault}
use Rattle.gw_service.specs.Metering.{MetersDue, failing_by, metered, seconds_of}
use Rattle.gw_watchers.specs.Watching.{Watching}
use Rattle.gw_watchers.specs.declared.beside.Beside.{Beside}
use Rattle.gw_watchers.specs.declared.trial.Trial.{Trial}
use Rattle.gw_service.specs.Chain.{AreLinks, IsLink, Link, Look, Runs, Stage, Standing, announced_at, chain_text, link_text, look_text, standing_at}
use Rattle.gw_service.specs.Chain.{ended, served, ticked, unrequested, withheld}
use Rattle.gw_service.specs.declared.running.RunEnd.{RunEnd}
use Rattle.gw_service.specs.declared.running.RunEnd.TheVariants as end
use Rattle.gw_service.specs.Keeping.{IsKeptFor, failing_in, troubles_in}
use Rattle.gw_service.specs.Kept.{AreRequestsUnder, Given, IsLastDenial, IsMetricsUnder, IsStateUnder, IsStoreUnder, IsUnprepared, LeavesKept, LeavesWithState}
use Rattle.gw_service.specs.Kept.{IsTrialNote, Names, RunsBy, StateMachine, StoreOpening, first_stage, given, is_plain, names_of, ran, reporting_of, service_by, stop_text, text_before, unopened, unprepared}
use Rattle.gw_service.specs.Plain.{RunsKept, WatchesNothing, manner_of}
use Rattle.gw_service.specs.Serving.{Ends, LeavesServed, Machine, Service, shut}
use Rattle.gw_service.specs.Serving.{served as served_by}
use Rattle.gw_service.specs.Stats.{Reporting, due_by, end_by, is_due, minute_text, troubles_text}
use Rattle.gw_turns.specs.declared.serving.Served.{Served}
use Rattle.gw_turns.specs.declared.tally.DropTally.{DropTally}
use Rattle.gw_service.specs.Watch.{AreCountsOf, IsAuditNamed, IsTrialNamed, IsUnwatched, WatchNames, WatchesUnder, is_watched}
use Rattle.gw_service.specs.declared.edition.Edition.{Edition}
use Rattle.gw_service.specs.declared.fault.ServiceFault.{ServiceFault}
use Rattle.gw_service.specs.declared.fault.ServiceFault.TheVariants as fault
use Rattle.gw_service.specs.declared.keeping.Kept.{Kept}
use Rattle.gw_service.specs.declared.keeping.Kept.TheVariants.{Nowhere}
use Rattle.gw_service.proofs.ChainLemmas.{unsynced_chain}
use Rattle.gw_service.proofs.NothingLemmas.{as_plain}
use Rattle.gw_service.proofs.ServedLemmas.{IsQuiet, as_served, begins_quiet, first_nowhere, link_none, link_serves, looks_none, never_stops}

-- ---- nothing is reported

due_none : (seconds : Option ℕ) (start : Counts) (w : State) (minute : List ℕ) (text : ℕ → List ℕ) → seconds ≡ None → minute ≡ []
    → due_by seconds start w minute text ≡ []
due_none None start w minute text is none = none
due_none (Some n) start w minute text is none = absurd cc

-- nothing is said each minute unless the run is verbose
minute_none : (how : Reporting) (w : State) (s : Served) (t : DropTally) → how.verbose ≡ false → minute_text how w s t ≡ []
minute_none how w s t mute =
    ap (λ (b : Bool). if b && is_due how.start w 60 then troubles_text (Some 60) w s t else []) mute

end_none : (seconds : Option ℕ) (text : List ℕ) → seconds ≡ None → end_by seconds text ≡ []
end_none None text is = refl
end_none (Some n) text is = absurd cc

-- where no metrics are put, none are after a tick
meters_none : (seconds : Option ℕ) (before after : Option Metering) → before ≡ None → MetersDue before seconds after → after ≡ None
meters_none seconds None after is puts = puts
meters_none seconds (Some before) after is puts = absurd cc

-- what is said after a tick, if no request was found, nothing is kept, no report is due and no metrics are put
tick_silent : {S : Type 0} (c : Configuration) (look : Look) (was is : Troubles) (report : List ℕ) (before after : Option Metering)
    → look ≡ unrequested → was ≡ no_troubles → is ≡ no_troubles → report ≡ [] → before ≡ None → after ≡ None → (s : Standing (Kept S))
    → ((look_text c s look ++ notice_of was is) ++ report) ++ metrics_notice (failing_by before) (failing_by after) ≡ []
tick_silent c look was is report before after unasked no_was no_is none no_before no_after s =
    let put = metrics_notice (failing_by before) (failing_by after) in
    ap (λ (l : Look). ((look_text c s l ++ notice_of was is) ++ report) ++ put) unasked
    ∙ ap (λ (t : Troubles). (notice_of t is ++ report) ++ put) no_was
    ∙ ap (λ (t : Troubles). (notice_of no_troubles t ++ report) ++ put) no_is
    ∙ ap (λ (x : List ℕ). x ++ put) none
    ∙ ap (λ (m : Option Metering). metrics_notice (failing_by m) (failing_by after)) no_before
    ∙ ap (λ (m : Option Metering). metrics_notice None (failing_by m)) no_after

link_silent : {S : Type 0} (held : S → Option (List ℕ)) (how : Reporting) (s t : Stage (Kept S)) (link : Link)
    → IsLink (manner_of held how) s link t → s.requests ≡ nobody → s.now.guard ≡ Nowhere → IsQuiet s.now.scene.gateway → how.seconds ≡ None
    → how.verbose ≡ false → s.said ≡ no_troubles → s.metrics ≡ None → (link_text link ≡ []) × (t.said ≡ no_troubles) × (t.metrics ≡ None)
link_silent held how s t (served turns) is none nowhere quiet unreported mute said unmetered = (refl, is.said ∙ said, is.metrics ∙ unmetered)
link_silent held how s t (ticked turns look text) is none nowhere quiet unreported mute said unmetered =
    let found = looks_none (IsKeptFor held) s.config t.config _ _ look is.done.looked none in
    let after = link_serves held how s t (ticked turns look text) is none nowhere quiet in
    let now : t.said ≡ no_troubles = is.said ∙ ap troubles_in after.nowhere in
    let still = meters_none (seconds_of how.start t.now.scene.gateway t.now.served t.now.tally) s.metrics t.metrics unmetered is.metrics in (
      is.lines ∙ tick_silent s.config look s.said t.said _ s.metrics t.metrics found.0 said now
          (due_none how.seconds how.start t.now.scene.gateway _ _ unreported
          (minute_none how t.now.scene.gateway t.now.served t.now.tally mute)) unmetered still
          (standing_at is.then s.requests s.counts s.announcing),
      now,
      still,
    )
link_silent held how s t (withheld turns event text) is none nowhere quiet unreported mute said unmetered =
    let after = link_serves held how s t (withheld turns event text) is none nowhere quiet in
    let now : t.said ≡ no_troubles = is.said ∙ ap troubles_in after.nowhere in (
      is.lines ∙ ap (λ (x : Troubles). notice_of x t.said) said ∙ ap (λ (x : Troubles). notice_of no_troubles x) now,
      now,
      is.metrics ∙ unmetered,
    )
link_silent held how s t (ended turns text) is none nowhere quiet unreported mute said unmetered = absurd is

chain_silent : {S : Type 0} (held : S → Option (List ℕ)) (how : Reporting) (s t : Stage (Kept S)) (links : List Link)
    → AreLinks (manner_of held how) s links t → s.requests ≡ nobody → s.now.guard ≡ Nowhere → IsQuiet s.now.scene.gateway
    → how.seconds ≡ None → how.verbose ≡ false → s.said ≡ no_troubles → s.metrics ≡ None → chain_text links ≡ []
unfolding AreLinks
chain_silent held how s t [] chain none nowhere quiet unreported mute said unmetered = refl
chain_silent held how s t (link ∷ links) chain none nowhere quiet unreported mute said unmetered =
    let still = link_none (manner_of held how) s chain.0 link chain.1 none in
    let after = link_serves held how s chain.0 link chain.1 none nowhere quiet in
    let first = link_silent held how s chain.0 link chain.1 none nowhere quiet unreported mute said unmetered in
    let later = chain_silent held how chain.0 t links chain.2 still.2 after.nowhere after.quiet unreported mute first.1 first.2 in
    flat_map-cons link_text link links ∙ ap (λ (x : List ℕ). x ++ chain_text links) first.0 ∙ later

run_silent : {S : Type 0} (held : S → Option (List ℕ)) (how : Reporting) (count : ℕ) (s t : Stage (Kept S)) (answer : Result RunEnd ServeFault)
    (links : List Link) → Runs (manner_of held how) count s answer links t → s.requests ≡ nobody → s.now.guard ≡ Nowhere
    → IsQuiet s.now.scene.gateway → how.seconds ≡ None → how.verbose ≡ false → s.said ≡ no_troubles → s.metrics ≡ None
    → chain_text links ≡ []
run_silent held how count s t (Ok end.Stopped) links runs none nowhere quiet unreported mute said unmetered =
    absurd (never_stops (manner_of held how) s t links runs none)
run_silent held how count s t (Ok end.Turns) links runs none nowhere quiet unreported mute said unmetered =
    chain_silent held how s t links runs.chain none nowhere quiet unreported mute said unmetered
run_silent held how count s t (Ok end.Unsynced) links runs none nowhere quiet unreported mute said unmetered =
    chain_silent held how s t links (unsynced_chain (manner_of held how) count s t links runs) none nowhere quiet unreported mute said unmetered
run_silent held how count s t (Err f) links runs none nowhere quiet unreported mute said unmetered =
    chain_silent held how s runs.then links runs.chain none nowhere quiet unreported mute said unmetered

-- nobody asks to stop, so nothing is answered
no_stop : {S : Type 0} (held : S → Option (List ℕ)) (how : Reporting) (count : ℕ) (s t : Stage (Kept S)) (answer : Result RunEnd ServeFault)
    (failing : Option StoreFault) (links : List Link) → Runs (manner_of held how) count s answer links t → s.requests ≡ nobody
    → stop_text answer failing ≡ []
no_stop held how count s t (Ok end.Turns) failing links runs none = refl
no_stop held how count s t (Ok end.Stopped) failing links runs none = absurd (never_stops (manner_of held how) s t links runs none)
no_stop held how count s t (Ok end.Unsynced) failing links runs none = refl
no_stop held how count s t (Err f) failing links runs none = refl

-- what is said of a whole run, if nothing is kept and no report is asked for
all_silent : (is : Troubles) (chain report : List ℕ) → is ≡ no_troubles → chain ≡ [] → report ≡ []
    → (notice_of no_troubles is ++ chain) ++ report ≡ []
all_silent is chain report no_is no_chain none =
    ap (λ (t : Troubles). (notice_of no_troubles t ++ chain) ++ report) no_is
    ∙ ap (λ (x : List ℕ). x ++ report) no_chain
    ∙ none

kept_silent : {S Q L : Type 0} (given : Given S Q L) → given.saved ≡ None → given.line ≡ None → given.store ≡ None → given.metrics ≡ None
    → given.requests ≡ None
    → (c : Configuration) (how : Service) (before after : Ends) (text : List ℕ) (outcome : Result (Unit {0}) ServiceFault) → c.announce ≡ false
    → how.stats ≡ None → how.verbose ≡ false → RunsKept given c how before after text outcome → text ≡ []
kept_silent given no_saved no_line no_store no_metrics no_requests c how before after text outcome announces_none unreported mute runs =
    let reporting = reporting_of given how runs.gateway in
    let nowhere = first_nowhere given.held given.store c runs.gateway runs.keeper no_store runs.keeps in
    let first = first_stage given c runs.gateway runs.keeper (troubles_in runs.keeper) before in
    let begun = runs.runs.begun in
    let is : begun ≡ announced_at first begun.announcing begun.now.scene.calls = runs.runs.begins.is in
    let quiet = begins_quiet c given.saved given.line runs.gateway no_saved no_line announces_none runs.begins in
    let said : first.said ≡ no_troubles = ap troubles_in nowhere in
    let chain = run_silent given.held reporting how.turns begun runs.runs.last runs.answer runs.runs.links runs.runs.runs
    (ap (λ (x : Stage (Kept _)). x.requests) is ∙ ap (recorded_by given.said) no_requests)
    (ap (λ (x : Stage (Kept _)). x.now.guard) is ∙ nowhere) (ap (λ (x : Stage (Kept _)). x.now.scene.gateway.relay.announce) is ∙ quiet)
    unreported mute (ap (λ (x : Stage (Kept _)). x.said) is ∙ said)
    (ap (λ (x : Stage (Kept _)). x.metrics) is ∙ ap (λ (x : Option _). metered (option_map nothing_written x)) no_metrics) in
    let unasked = ap (λ (x : Stage (Kept _)). x.requests) is ∙ ap (recorded_by given.said) no_requests in
    let unstopped = no_stop given.held reporting how.turns begun runs.runs.last runs.answer (failing_in runs.left.keeper) runs.runs.links
    runs.runs.runs unasked in
    let ended = runs.runs.ends.said ∙ ap (λ (x : List ℕ). x ++ stop_text runs.answer (failing_in runs.left.keeper)) (end_none how.stats _ unreported)
    ∙ unstopped in
    runs.runs.said ∙ all_silent first.said (chain_text runs.runs.links) runs.runs.end_text said chain ended

silent : {S Q L : Type 0} (given : Given S Q L) → given.saved ≡ None → given.line ≡ None → given.store ≡ None → given.metrics ≡ None
    → given.requests ≡ None → WatchesNothing given.watcher → (c : Configuration) (how : Service) (before after : Ends) (text : List ℕ)
    (outcome : Result (Unit {0}) ServiceFault) → c.announce ≡ false → how.stats ≡ None → how.verbose ≡ false → how.holds ≡ false
    → LeavesKept given c how before after text outcome → text ≡ []
silent given no_saved no_line no_store no_metrics no_requests nothing c how before after text outcome quiet unreported mute ends (inl runs) =
    kept_silent given no_saved no_line no_store no_metrics no_requests c how before after text outcome quiet unreported mute
    (as_plain given nothing false c how before after text outcome
    (subst (λ (h : Bool). RunsBy given h c how before after text outcome) ends runs))
silent given no_saved no_line no_store no_metrics no_requests nothing c how before after text outcome quiet unreported mute ends (inr unbegun) = unbegun.1

-- ---- what is read and opened before

state_none : (FileReads : List ℕ → Result (Option (List ℕ)) ReadFailure → Type 0) (name : Option (List ℕ)) (saved : Option Saved) → name ≡ None
    → IsStateUnder FileReads name (Ok saved) → saved ≡ None
state_none FileReads None saved is under = cc
state_none FileReads (Some name) saved is under = absurd cc

line_none : (LastDenials : List ℕ → Result (Option (List ℕ)) ReadFailure → Type 0) (state log line : Option (List ℕ))
    → state ≡ None → IsLastDenial LastDenials state log (Ok line) → line ≡ None
line_none LastDenials None log line is under = cc
line_none LastDenials (Some state) log line is under = absurd cc

store_none : {S : Type 0} (StoreOpens : StoreOpening S) (name : Option (List ℕ)) (store : Option S) → name ≡ None
    → IsStoreUnder StoreOpens name (Ok store) → store ≡ None
store_none StoreOpens None store is under = cc
store_none StoreOpens (Some name) store is under = absurd cc

metrics_none : {S : Type 0} (StoreOpens : StoreOpening S) (name : Option (List ℕ)) (metrics : Option S) → name ≡ None
    → IsMetricsUnder StoreOpens name (Ok metrics) → metrics ≡ None
metrics_none StoreOpens None metrics is under = cc
metrics_none StoreOpens (Some name) metrics is under = absurd cc

requests_none : {Q : Type 0} (ReloadsOpen : List ℕ → List ℕ → Q → Type 0) (name : Option (List ℕ)) (config : List ℕ) (requests : Option Q)
    → name ≡ None → AreRequestsUnder ReloadsOpen name config requests → requests ≡ None
requests_none ReloadsOpen None config None is under = refl
requests_none ReloadsOpen None config (Some requests) is under = absurd under
requests_none ReloadsOpen (Some name) config requests is under = absurd cc

trial_none : {Log : Type 0} (FileReads LastDenials : List ℕ → Result (Option (List ℕ)) ReadFailure → Type 0) (LogOpens : LogOpening Log)
    (c : Configuration) (rules log : Option (List ℕ)) (has_all : Bool) (trial : Option (Beside Trial Log)) → rules ≡ None
    → IsTrialNamed FileReads LastDenials LogOpens c rules log has_all (Ok trial) → trial ≡ None
trial_none FileReads LastDenials LogOpens c None log has_all trial is under = cc
trial_none FileReads LastDenials LogOpens c (Some rules) log has_all trial is under = absurd cc

audit_none : {Log : Type 0} (LastDenials : List ℕ → Result (Option (List ℕ)) ReadFailure → Type 0) (LogOpens : LogOpening Log)
    (c : Configuration) (name : Option (List ℕ)) (audit : Option (Beside (List Bool) Log)) → name ≡ None
    → IsAuditNamed LastDenials LogOpens c name (Ok audit) → audit ≡ None
audit_none LastDenials LogOpens c None audit is under = cc
audit_none LastDenials LogOpens c (Some name) audit is under = absurd cc

counts_none : (c : Configuration) (wanted : Bool) (counts : Option (List ℕ)) → wanted ≡ false → AreCountsOf c wanted counts → counts ≡ None
counts_none c false None is under = refl
counts_none c false (Some counts) is under = absurd under
counts_none c true counts is under = absurd cc

nothing_under : {Log : Type 0} (FileReads LastDenials : List ℕ → Result (Option (List ℕ)) ReadFailure → Type 0) (LogOpens : LogOpening Log)
    (c : Configuration) (names : WatchNames) (w : Watching Log Log) → names.trial ≡ None → names.audit ≡ None → names.counts ≡ false
    → WatchesUnder FileReads LastDenials LogOpens c names w → WatchesNothing w
nothing_under FileReads LastDenials LogOpens c names w no_trial no_audit uncounted under = record {
  trial = trial_none FileReads LastDenials LogOpens c names.trial names.trial_log names.trial_all w.trial no_trial under.trial;
  audit = audit_none LastDenials LogOpens c names.audit w.audit no_audit under.audit;
  counts = counts_none c names.counts w.counts uncounted under.counts;
  ended = under.ended;
}

text_none : (name : Option (List ℕ)) (is_verbose : Bool) (c : Configuration) (saved : Option Saved) → name ≡ None
    → text_before name is_verbose c saved ≡ []
text_none None is_verbose c saved is = refl
text_none (Some name) is_verbose c saved is = absurd cc

note_none : (FileReads : List ℕ → Result (Option (List ℕ)) ReadFailure → Type 0) (name : Option (List ℕ)) (c : Configuration) (note : List ℕ)
    → name ≡ None → IsTrialNote FileReads name c note → note ≡ []
note_none FileReads None c note is under = under
note_none FileReads (Some name) c note is under = absurd cc

-- ---- nothing can't be read or opened before

no_state_fault : (FileReads : List ℕ → Result (Option (List ℕ)) ReadFailure → Type 0) (name : Option (List ℕ)) (f : ServiceFault) → name ≡ None
    → IsStateUnder FileReads name (Err f) → f ≡ fault.Memory
no_state_fault FileReads None f is under = absurd cc
no_state_fault FileReads (Some name) f is under = absurd cc

no_line_fault : (LastDenials : List ℕ → Result (Option (List ℕ)) ReadFailure → Type 0) (state log : Option (List ℕ)) (f : ServiceFault)
    → state ≡ None → IsLastDenial LastDenials state log (Err f) → f ≡ fault.Memory
no_line_fault LastDenials None log f is under = absurd cc
no_line_fault LastDenials (Some state) log f is under = absurd cc

no_store_fault : {S : Type 0} (StoreOpens : StoreOpening S) (name : Option (List ℕ)) (f : ServiceFault) → name ≡ None
    → IsStoreUnder StoreOpens name (Err f) → f ≡ fault.Memory
no_store_fault StoreOpens None f is under = absurd cc
no_store_fault StoreOpens (Some name) f is under = absurd cc

no_metrics_fault : {S : Type 0} (StoreOpens : StoreOpening S) (name : Option (List ℕ)) (f : ServiceFault) → name ≡ None
    → IsMetricsUnder StoreOpens name (Err f) → f ≡ fault.Memory
no_metrics_fault StoreOpens None f is under = absurd cc
no_metrics_fault StoreOpens (Some name) f is under = absurd cc

no_trial_fault : {Log : Type 0} (FileReads LastDenials : List ℕ → Result (Option (List ℕ)) ReadFailure → Type 0) (LogOpens : LogOpening Log)
    (c : Configuration) (rules log : Option (List ℕ)) (has_all : Bool) (f : ServiceFault) → rules ≡ None
    → IsTrialNamed FileReads LastDenials LogOpens c rules log has_all (Err f) → f ≡ fault.Memory
no_trial_fault FileReads LastDenials LogOpens c None log has_all f is under = absurd cc
no_trial_fault FileReads LastDenials LogOpens c (Some rules) log has_all f is under = absurd cc

no_audit_fault : {Log : Type 0} (LastDenials : List ℕ → Result (Option (List ℕ)) ReadFailure → Type 0) (LogOpens : LogOpening Log)
    (c : Configuration) (name : Option (List ℕ)) (f : ServiceFault) → name ≡ None
    → IsAuditNamed LastDenials LogOpens c name (Err f) → f ≡ fault.Memory
no_audit_fault LastDenials LogOpens c None f is under = absurd cc
no_audit_fault LastDenials LogOpens c (Some name) f is under = absurd cc

-- the names of what such a run would open
record AreNone (names : Names) : Type 0 where
  state : names.state ≡ None
  metrics : names.metrics ≡ None
  reload : names.reload ≡ None
  trial : names.watch.trial ≡ None
  audit : names.watch.audit ≡ None
  counts : names.watch.counts ≡ false

-- then only memory can end it before the log is opened
watch_memory : {Log : Type 0} (FileReads LastDenials : List ℕ → Result (Option (List ℕ)) ReadFailure → Type 0) (LogOpens : LogOpening Log)
    (c : Configuration) (names : WatchNames) (f : ServiceFault) → names.trial ≡ None → names.audit ≡ None
    → IsUnwatched FileReads LastDenials LogOpens c names f → f ≡ fault.Memory
watch_memory FileReads LastDenials LogOpens c names f no_trial no_audit (inl trial) =
    no_trial_fault FileReads LastDenials LogOpens c names.trial names.trial_log names.trial_all f no_trial trial
watch_memory FileReads LastDenials LogOpens c names f no_trial no_audit (inr (inl audit)) =
    no_audit_fault LastDenials LogOpens c names.audit f no_audit audit
watch_memory FileReads LastDenials LogOpens c names f no_trial no_audit (inr (inr memory)) = memory

unprepared_memory : {S Q Log : Type 0} (states : StateMachine S Q) (LogOpens : LogOpening Log) (names : Names) (c : Configuration) (f : ServiceFault)
    → AreNone names → IsUnprepared states LogOpens names c f → f ≡ fault.Memory
unprepared_memory states LogOpens names c f none (inl state) = no_state_fault states.FileReads names.state f none.state state
unprepared_memory states LogOpens names c f none (inr (inl line)) = no_line_fault states.LastDenials names.state names.log f none.state line
unprepared_memory states LogOpens names c f none (inr (inr (inl (inl store)))) = no_store_fault states.StoreOpens names.state f none.state store
unprepared_memory states LogOpens names c f none (inr (inr (inl (inr metrics)))) = no_metrics_fault states.StoreOpens names.metrics f none.metrics metrics
unprepared_memory states LogOpens names c f none (inr (inr (inr (inl watch)))) =
    watch_memory states.FileReads states.LastDenials LogOpens c names.watch f none.trial none.audit watch
unprepared_memory states LogOpens names c f none (inr (inr (inr (inr memory)))) = memory

no_note : (is_verbose : Bool) (said : List ℕ) → said ≡ [] → IsNote is_verbose (opening.Log log_failure.Memory) said
no_note true said none = none
no_note false said none = none

-- ---- the whole

serves_plain : {Log Sockets S Q : Type 0} (m : Machine Log Sockets) (states : StateMachine S Q) (names : Names) (held holds : Option (List ℕ))
    (e : Edition) (how : Service) (is_verbose : Bool) (line said : List ℕ) (outcome : Result (Unit {0}) ServiceFault) → AreNone names
    → how.stats ≡ None → how.verbose ≡ is_verbose → how.holds ≡ false → e.config.announce ≡ false
    → LeavesWithState m states names held holds e how is_verbose line said outcome
    → LeavesServed m names.log held holds e.config how.turns is_verbose line said outcome
serves_plain m states names held holds e how is_verbose line said outcome none unreported is_loud ends quiet (unprepared f sockets opens why is stays unsaid) =
    shut (opening.Log log_failure.Memory) (sockets, opens, inl (refl, stays)) (is ∙ ap Err (unprepared_memory states m.LogOpens names e.config f none why))
    (no_note is_verbose said unsaid)
serves_plain m states names held holds e how is_verbose line said outcome none unreported is_loud ends quiet (unopened failure opens is note) =
    shut failure opens is note
serves_plain m states names held holds e how is_verbose line said outcome none unreported is_loud ends quiet
    (ran before log log_then sockets sockets_then output warning text prepared opens closes stays leaves warns is) =
    let at = given states.held states.said m.held before in
    let no_saved = state_none states.FileReads names.state before.saved none.state prepared.saved in
    let no_line = line_none states.LastDenials names.state names.log at.line none.state prepared.line in
    let no_store = store_none states.StoreOpens names.state before.store none.state prepared.store in
    let no_metrics = metrics_none states.StoreOpens names.metrics before.metrics none.metrics prepared.metrics in
    let no_requests = requests_none states.ReloadsOpen names.reload names.config before.requests none.reload prepared.requests in
    let nothing = nothing_under states.FileReads states.LastDenials m.LogOpens e.config names.watch before.watcher none.trial none.audit none.counts
    prepared.watcher in
    let told = prepared.text in
    let no_text : before.text.items ≡ [] = told.says ∙ ap₂ (λ (x y : List ℕ). x ++ y) (text_none names.state is_verbose e.config before.saved none.state)
    (note_none states.FileReads names.watch.trial e.config told.note none.trial told.tried) in
    let serves = as_served at no_saved no_line no_store no_requests e.config how _ _ text outcome ends quiet leaves in
    let says_nothing : is_verbose ≡ false → text ≡ [] = λ mute.
    silent at no_saved no_line no_store no_metrics no_requests nothing e.config how _ _ text outcome quiet unreported (is_loud ∙ mute) ends leaves in
    served_by log log_then sockets sockets_then output warning text opens closes stays serves warns says_nothing
    (is ∙ ap (λ (x : List ℕ). ((line ++ warning) ++ x) ++ text) no_text ∙ ap (λ (x : List ℕ). x ++ text) (append-nil (line ++ warning)))

none_of : {A : Type 0} (x : Option A) → is_some x ≡ false → x ≡ None
none_of None is = refl
none_of (Some x) is = absurd cc

-- what isn't named by options of a plain run
plain_parts : (a b c d : Bool) → ((not a && (not b && not c)) && not d) ≡ true → (a ≡ false) × (b ≡ false) × (c ≡ false) × (d ≡ false)
plain_parts false false false false is = (refl, refl, refl, refl)
plain_parts true b c d is = absurd cc
plain_parts false true c d is = absurd cc
plain_parts false false true d is = absurd cc
plain_parts false false false true is = absurd cc

or_parts : (a b : Bool) → (a || b) ≡ false → (a ≡ false) × (b ≡ false)
or_parts false b is = (refl, is)
or_parts true b is = absurd cc

pub plain_is_served : {Log Sockets S Q : Type 0} (m : Machine Log Sockets) (states : StateMachine S Q) (options : RunOptions)
    (held holds : Option (List ℕ)) (e : Edition) (line said : List ℕ) (outcome : Result (Unit {0}) ServiceFault) → is_plain options ≡ true
    → e.config.announce ≡ false → LeavesWithState m states (names_of options) held holds e (service_by options) options.verbose line said outcome
    → LeavesServed m (option_map string_bytes options.log) held holds e.config options.turns options.verbose line said outcome
plain_is_served m states options held holds e line said outcome plain quiet leaves =
    let names = names_of options in
    let parts = plain_parts (is_some options.state) (is_some options.reload) (is_watched names.watch) options.holds plain in
    let trial = or_parts (is_some names.watch.trial) (is_some names.watch.audit || names.watch.counts) parts.2 in
    let audit = or_parts (is_some names.watch.audit) names.watch.counts trial.1 in
    let counts = or_parts (is_some options.stats) (is_some options.metrics) audit.1 in
    serves_plain m states names held holds e (service_by options) options.verbose line said outcome
    (record {
      state = ap (option_map string_bytes) (none_of options.state parts.0);
      metrics = ap (option_map string_bytes) (none_of options.metrics counts.1);
      reload = ap (option_map string_bytes) (none_of options.reload parts.1);
      trial = none_of names.watch.trial trial.0;
      audit = none_of names.watch.audit audit.0;
      counts = audit.1;
    }) (none_of options.stats counts.0) refl parts.3 quiet leaves
