-- What the parts of opening a trial give. It only helps proofs.
use Rattle.std.specs.Prelude.{◌≡◌, ⊤, ℕ, true, false, List, Option, Some, Result, Ok, Err}
use Rattle.gw_configuration.specs.Configuration.{Configuration}
use Rattle.gw_policy_text.specs.Document.{configuration}
use Rattle.gw_system.specs.Host.{LogOpening}
use Rattle.gw_system.specs.declared.opening.LogFailure.{LogFailure}
use Rattle.gw_system.specs.declared.opening.LogFailure.TheVariants as log_failure
use Rattle.gw_system.specs.declared.reading.ReadFailure.{ReadFailure}
use Rattle.gw_watchers.specs.files.Numbers.{IsNumberAfter}
use Rattle.gw_watchers.specs.files.Trial.{IsUnopened, IsUnreadable, MayRunOut, are_same_ports, is_same_format}
use Rattle.gw_watchers.specs.declared.files.fault.TrialFault.TheVariants as trial
use Rattle.gw_watchers.specs.declared.files.fault.WatchFault.{WatchFault}
use Rattle.gw_watchers.specs.declared.files.fault.WatchFault.TheVariants as fault
use Rattle.gw_watchers.specs.declared.files.opening.OpenedLog.{OpenedLog}

-- a text has no configuration, or memory ran out
abbrev pub IsNoText : List ℕ → WatchFault → Type 0
IsNoText text (fault.Trial (trial.Configuration f)) = configuration text ≡ Err f
IsNoText text fault.Memory = ⊤
IsNoText text _ = ⊥

-- a file has none
abbrev pub IsUnread : (FileReads : List ℕ → Result (Option (List ℕ)) ReadFailure → Type 0) → List ℕ → WatchFault → Type 0
IsUnread FileReads name (fault.Trial (trial.Unreadable why)) = IsUnreadable FileReads name why
IsUnread FileReads name (fault.Trial (trial.Configuration f)) =
    (text : List ℕ) × FileReads name (Ok (Some text)) × (configuration text ≡ Err f)
IsUnread FileReads name fault.Memory = MayRunOut FileReads name
IsUnread FileReads name _ = ⊥

-- one configuration can be on trial beside another
pub record Fits (c new : Configuration) : Type 0 where
  pub format : is_same_format c.format new.format ≡ true
  pub ports : are_same_ports c.ports new.ports ≡ true

abbrev pub IsNoFit : Configuration → Configuration → WatchFault → Type 0
IsNoFit c new (fault.Trial trial.Format) = is_same_format c.format new.format ≡ false
IsNoFit c new (fault.Trial trial.Ports) = are_same_ports c.ports new.ports ≡ false
IsNoFit c new _ = ⊥

-- a log that goes on from its last denial
pub record GoesOnFromDenial {Log : Type 0} (LastDenials : List ℕ → Result (Option (List ℕ)) ReadFailure → Type 0)
    (LogOpens : LogOpening Log)
    (name : List ℕ) (o : OpenedLog Log) : Type 0 where
  pub line : Option (List ℕ)
  pub last : LastDenials name (Ok line)
  pub number : IsNumberAfter line o.number
  pub opens : LogOpens name (Ok o.sink)

abbrev pub IsOpenedBy : {Log : Type 0} → (LastDenials : List ℕ → Result (Option (List ℕ)) ReadFailure → Type 0) → LogOpening Log
    → (name : List ℕ) → Result (OpenedLog Log) LogFailure → Type 0
IsOpenedBy LastDenials LogOpens name (Ok o) = GoesOnFromDenial LastDenials LogOpens name o
IsOpenedBy LastDenials LogOpens name (Err log_failure.Failed) = IsUnopened LastDenials LogOpens name
IsOpenedBy LastDenials LogOpens name (Err log_failure.Memory) = ⊤
