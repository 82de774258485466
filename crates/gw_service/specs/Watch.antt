-- What watches a gateway, before what keeps its state: from where it begins, what is done with it, and what is reported of it.
use Rattle.std.specs.Prelude.{◌≡◌, ◌⊎◌, ⊤, ℕ, ◌||◌, Bool, true, false, is_some, nat_le, not, ◌&&◌, if◌then◌else◌, List, [], ◌++◌, codes}
use Rattle.std.specs.Prelude.{Option, Some, None, Result, Ok, Err, option_map, string_bytes}
use Rattle.std.specs.List.{list_any}
use Rattle.std.specs.Option.{option_map_or}
use Rattle.gw_configuration.specs.declared.run_options.RunOptions.{RunOptions}
use Rattle.gw_configuration.specs.Configuration.{Configuration}
use Rattle.gw_core.specs.State.{State}
use Rattle.gw_core.specs.declared.guard.BothGuards.{BothGuards}
use Rattle.gw_system.specs.Host.{LogOpening}
use Rattle.gw_system.specs.declared.reading.ReadFailure.{ReadFailure}
use Rattle.gw_decisions.specs.tally.Tally.{IsTally}
use Rattle.gw_watchers.specs.files.Trial.{IsAuditBy, IsTrialBy}
use Rattle.gw_watchers.specs.declared.files.fault.WatchFault.{WatchFault}
use Rattle.gw_watchers.specs.declared.files.fault.WatchFault.TheVariants as watch
use Rattle.gw_watchers.specs.Watching.{Watching, ended_by, is_watching, with_marks}
use Rattle.gw_watchers.specs.declared.beside.Beside.{Beside}
use Rattle.gw_watchers.specs.declared.trial.Trial.{Trial}
use Rattle.gw_service.specs.Conduct.{Conduct}
use Rattle.gw_service.specs.Keeping.{IsKeptAtTick, IsKeptFor, IsKeptLast, failing_in, tries_in, unkept_in}
use Rattle.gw_service.specs.declared.fault.ServiceFault.{ServiceFault}
use Rattle.gw_service.specs.declared.fault.ServiceFault.TheVariants as fault
use Rattle.gw_service.specs.declared.keeping.Kept.{Kept}
use Rattle.gw_notices.specs.Watch.{counts_text, watch_text}
use Rattle.gw_notices.specs.declared.losses.Losses.{Losses}
use Rattle.gw_notices.specs.declared.troubles.Troubles.{Troubles}
use Rattle.gw_notices.specs.declared.watch_report.LogCount.{LogCount}
use Rattle.gw_notices.specs.declared.watch_report.WatchCounts.{WatchCounts}

-- ---- at the start

-- the files of what watches, if there are some, whether a trial's log has all that is denied, and whether reports or metrics are asked
-- for, which have counts of the rules
pub record WatchNames : Type 0 where
  pub trial : Option (List ℕ)
  pub trial_log : Option (List ℕ)
  pub trial_all : Bool
  pub audit : Option (List ℕ)
  pub counts : Bool

abbrev pub watch_names : RunOptions → WatchNames
watch_names options = record {
  trial = option_map string_bytes options.trial;
  trial_log = option_map string_bytes options.trial_log;
  trial_all = options.trial_all;
  audit = option_map string_bytes options.audit;
  counts = is_some options.stats || is_some options.metrics;
}

-- something is to be watched
abbrev pub is_watched : WatchNames → Bool
is_watched names = is_some names.trial || (is_some names.audit || names.counts)

-- the fault of what can't watch
abbrev pub fault_of_watching : WatchFault → ServiceFault
fault_of_watching (watch.Trial f) = fault.Trial f
fault_of_watching watch.Audit = fault.Audit
fault_of_watching watch.Memory = fault.Memory

abbrev pub watch_outcome : {B : Type 0} → Result B WatchFault → Result (Option B) ServiceFault
watch_outcome (Ok b) = Ok (Some b)
watch_outcome (Err f) = Err (fault_of_watching f)

-- the policy on trial, if its file and that of its log are named
abbrev pub IsTrialNamed : {Log : Type 0} → (FileReads LastDenials : List ℕ → Result (Option (List ℕ)) ReadFailure → Type 0) → LogOpening Log
    → Configuration → (rules log : Option (List ℕ)) → (has_all_denied : Bool)
    → Result (Option (Beside Trial Log)) ServiceFault → Type 0
IsTrialNamed {Log} FileReads LastDenials LogOpens c (Some rules) (Some log) has_all_denied outcome =
    (opened : Result (Beside Trial Log) WatchFault)
    × IsTrialBy FileReads LastDenials LogOpens c rules log has_all_denied opened
    × (outcome ≡ watch_outcome opened)
IsTrialNamed FileReads LastDenials LogOpens c _ _ has_all_denied outcome = outcome ≡ Ok None

abbrev pub IsTrialUnder : {Log : Type 0} → (FileReads LastDenials : List ℕ → Result (Option (List ℕ)) ReadFailure → Type 0) → LogOpening Log
    → Configuration → WatchNames → Result (Option (Beside Trial Log)) ServiceFault → Type 0
IsTrialUnder FileReads LastDenials LogOpens c names outcome =
    IsTrialNamed FileReads LastDenials LogOpens c names.trial names.trial_log names.trial_all outcome

-- the audit, if it is named
abbrev pub IsAuditNamed : {Log : Type 0} → (LastDenials : List ℕ → Result (Option (List ℕ)) ReadFailure → Type 0) → LogOpening Log
    → Configuration → Option (List ℕ) → Result (Option (Beside (List Bool) Log)) ServiceFault → Type 0
IsAuditNamed LastDenials LogOpens c None outcome = outcome ≡ Ok None
IsAuditNamed {Log} LastDenials LogOpens c (Some name) outcome =
    (opened : Result (Beside (List Bool) Log) WatchFault) × IsAuditBy LastDenials LogOpens c name opened × (outcome ≡ watch_outcome opened)

abbrev pub IsAuditUnder : {Log : Type 0} → (LastDenials : List ℕ → Result (Option (List ℕ)) ReadFailure → Type 0) → LogOpening Log
    → Configuration → WatchNames → Result (Option (Beside (List Bool) Log)) ServiceFault → Type 0
IsAuditUnder LastDenials LogOpens c names outcome = IsAuditNamed LastDenials LogOpens c names.audit outcome

-- counts of the rules, of which none began, if they are asked for
abbrev pub AreCountsOf : Configuration → Bool → Option (List ℕ) → Type 0
AreCountsOf c false None = ⊤
AreCountsOf c true (Some counts) = IsTally c.rules [] counts
AreCountsOf c _ _ = ⊥

abbrev pub AreCountsUnder : Configuration → WatchNames → Option (List ℕ) → Type 0
AreCountsUnder c names counts = AreCountsOf c names.counts counts

-- what watches at the start: nothing, if nothing is asked for
pub record WatchesUnder {Log : Type 0} (FileReads LastDenials : List ℕ → Result (Option (List ℕ)) ReadFailure → Type 0)
    (LogOpens : LogOpening Log)
    (c : Configuration) (names : WatchNames) (w : Watching Log Log) : Type 0 where
  pub trial : IsTrialUnder FileReads LastDenials LogOpens c names (Ok w.trial)
  pub audit : IsAuditUnder LastDenials LogOpens c names (Ok w.audit)
  pub counts : AreCountsUnder c names w.counts
  pub unseen : w.unseen ≡ 0
  pub format : w.format ≡ c.format
  pub ended : w.ended ≡ false

-- or why nothing can
abbrev pub IsUnwatched : {Log : Type 0} → (FileReads LastDenials : List ℕ → Result (Option (List ℕ)) ReadFailure → Type 0) → LogOpening Log
    → Configuration → WatchNames → ServiceFault → Type 0
IsUnwatched FileReads LastDenials LogOpens c names f =
    IsTrialUnder FileReads LastDenials LogOpens c names (Err f)
    ⊎ (IsAuditUnder LastDenials LogOpens c names (Err f) ⊎ (f ≡ fault.Memory))

-- ---- while it runs

-- At a tick what keeps the state does what is due, and what watches stays.
abbrev pub IsKeptAtTickBeside : {S T A : Type 0} → (S → Option (List ℕ)) → BothGuards (Watching T A) (Kept S) → State
    → BothGuards (Watching T A) (Kept S)
    → Type 0
IsKeptAtTickBeside held k w l = IsKeptAtTick held k.second w l.second × (l.first ≡ k.first)

-- So it is at the end.
abbrev pub IsKeptLastBeside : {S T A : Type 0} → (S → Option (List ℕ)) → BothGuards (Watching T A) (Kept S) → State
    → BothGuards (Watching T A) (Kept S)
    → Type 0
IsKeptLastBeside held k w l = IsKeptLast held k.second w l.second × (l.first ≡ k.first)

-- counts begin anew, if there are some
abbrev pub BeginAnew : (new : List ℕ) → (before after : Option (List ℕ)) → Type 0
BeginAnew new before after = after ≡ option_map (λ _. new) before

-- What watches goes on by another configuration: its rules are audited that say so, and counts of them begin anew. A trial of
-- another format ends.
pub record WatchesOn {T A : Type 0} (c : Configuration) (before after : Watching T A) : Type 0 where
  pub counts : List ℕ
  pub tally : IsTally c.rules [] counts
  pub goes_on : after ≡ ended_by c.format
      (record before { audit = option_map (with_marks c.audits) before.audit; counts = option_map (λ _. counts) before.counts })

abbrev pub IsKeptForBeside : {S T A : Type 0} → (S → Option (List ℕ)) → BothGuards (Watching T A) (Kept S) → Configuration → State
    → BothGuards (Watching T A) (Kept S) → Type 0
IsKeptForBeside held k c w l = IsKeptFor held k.second c w l.second × WatchesOn c k.first l.first

-- ---- what is measured

-- how many lines of a log beside the log were lost
abbrev pub lost_of : {C S : Type 0} → Option (Beside C S) → ℕ
lost_of log = option_map_or (λ (b : Beside _ _). b.lost) log 0

abbrev pub losses_of : {S T A : Type 0} → BothGuards (Watching T A) (Kept S) → Losses
losses_of k = record { unwatched = k.first.unseen; trial_lines = lost_of k.first.trial; audit_lines = lost_of k.first.audit }

-- ---- what is reported

-- lines of a log beside the log were lost
abbrev pub has_lost : {C S : Type 0} → Option (Beside C S) → Bool
has_lost log = option_map_or (λ (b : Beside _ _). nat_le 1 b.lost) log false

abbrev pub troubles_of : {S T A : Type 0} → BothGuards (Watching T A) (Kept S) → Troubles
troubles_of k = record {
  state = failing_in k.second;
  trial = has_lost k.first.trial;
  audit = has_lost k.first.audit;
  ended = k.first.ended;
}

-- what is counted of a log beside the log
abbrev pub log_count : {C S : Type 0} → Option (Beside C S) → Option LogCount
log_count log = option_map (λ (b : Beside _ _). record { number = b.number; lost = b.lost }) log

-- what is counted of what watches
abbrev pub counted_of : {T A : Type 0} → Watching T A → WatchCounts
counted_of w = record { trial = log_count w.trial; audit = log_count w.audit; unseen = w.unseen }

-- something is watched, or a policy was on trial until it ended
abbrev pub has_watched : {T A : Type 0} → Watching T A → Bool
has_watched w = is_watching w || w.ended

-- what a watcher recorded, with how many asks each rule decided or without
abbrev pub watcher_text : {T A : Type 0} → Watching T A → (rules : Bool) → State → List ℕ
watcher_text watcher rules w = watch_text (counted_of watcher) ++ (if rules then counts_text w.rules watcher.counts else [])

-- is reported, if something was watched
abbrev pub more_of : {S T A : Type 0} → BothGuards (Watching T A) (Kept S) → (rules : Bool) → State → List ℕ
more_of k rules w = if has_watched k.first then watcher_text k.first rules w else []

-- a rule says that it is audited, and no audit is named
abbrev pub is_unaudited : (audits : List Bool) → (is_named : Bool) → Bool
is_unaudited audits is_named = not is_named && list_any (λ audit. audit) audits

-- what is written then
abbrev pub unaudited_note : (audits : List Bool) → (is_named : Bool) → List ℕ
unaudited_note audits is_named =
    if is_unaudited audits is_named then codes "bacgw: audit = true writes nothing without --audit\n" else []

-- ---- the whole

-- what it does, by what a store holds
abbrev pub conduct_beside : {S T A : Type 0} → (S → Option (List ℕ)) → Conduct (BothGuards (Watching T A) (Kept S))
conduct_beside held = record {
  Ticks = IsKeptAtTickBeside held;
  Adopts = IsKeptForBeside held;
  Lasts = IsKeptLastBeside held;
  troubles = troubles_of;
  unkept = λ k. unkept_in k.second;
  more = more_of;
  tries = λ k. tries_in k.second;
  decisions = λ k. k.first.counts;
  losses = losses_of;
}
