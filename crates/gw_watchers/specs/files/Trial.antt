-- A policy on trial and an audit, as their files are read and opened.
use Rattle.std.specs.Prelude.{◌≡◌, ◌⊎◌, ⊤, ℕ, ◌&&◌, Bool, true, false, nat_eq, List, Option, Some, None}
use Rattle.std.specs.Prelude.{Result, Ok, Err}
use Rattle.std.specs.Cmp.Lexicographic.{pointwise}
use Rattle.gw_tables.specs.bdt_fdt.Registrations.{same as same_address}
use Rattle.gw_configuration.specs.Configuration.{Configuration}
use Rattle.gw_configuration.specs.declared.port.Port.{Port}
use Rattle.gw_policy_text.specs.Document.{configuration}
use Rattle.gw_rules.specs.declared.format.Format.{Format}
use Rattle.gw_rules.specs.declared.format.Format.TheVariants as formats
use Rattle.gw_system.specs.Host.{LogOpening}
use Rattle.gw_system.specs.declared.opening.LogFailure.TheVariants as log_failure
use Rattle.gw_system.specs.declared.obstacle.Obstacle.{Obstacle}
use Rattle.gw_system.specs.declared.obstacle.Obstacle.TheVariants as obstacle
use Rattle.gw_system.specs.declared.reading.ReadFailure.{ReadFailure}
use Rattle.gw_system.specs.declared.reading.ReadFailure.TheVariants as reading
use Rattle.gw_watchers.specs.declared.beside.Beside.{Beside}
use Rattle.gw_watchers.specs.declared.trial.Trial.{Trial}
use Rattle.gw_watchers.specs.files.Numbers.{IsNumberAfter}
use Rattle.gw_watchers.specs.declared.files.fault.TrialFault.TheVariants as trial
use Rattle.gw_watchers.specs.declared.files.fault.WatchFault.{WatchFault}
use Rattle.gw_watchers.specs.declared.files.fault.WatchFault.TheVariants as fault

-- ---- which policies can be on trial

abbrev pub is_same_format : Format → Format → Bool
is_same_format formats.One formats.One = true
is_same_format formats.Two formats.Two = true
is_same_format formats.Three formats.Three = true
is_same_format _ _ = false

-- two ports have the same network, own address and broadcast address
abbrev pub is_same_port : Port → Port → Bool
is_same_port a b =
    nat_eq a.network b.network && (same_address a.address b.address && same_address a.broadcast b.broadcast)

abbrev pub are_same_ports : List Port → List Port → Bool
are_same_ports some others = pointwise is_same_port some others

-- the file of this name has this configuration
abbrev pub IsRead : (FileReads : List ℕ → Result (Option (List ℕ)) ReadFailure → Type 0) → List ℕ → Configuration → Type 0
IsRead FileReads name new = (text : List ℕ) × FileReads name (Ok (Some text)) × (configuration text ≡ Ok new)

-- why the file of this name can't be read, also if it isn't there
abbrev pub IsUnreadable : (FileReads : List ℕ → Result (Option (List ℕ)) ReadFailure → Type 0) → List ℕ → Obstacle → Type 0
IsUnreadable FileReads name why =
    (FileReads name (Ok None) × (why ≡ obstacle.Absent)) ⊎ FileReads name (Err (reading.Unreadable why))

-- ---- a log beside the log

-- The log of this name is open, and its lines are numbered on from its last denial; none is lost.
pub record IsOpened {C Log : Type 0} (LastDenials : List ℕ → Result (Option (List ℕ)) ReadFailure → Type 0)
    (LogOpens : LogOpening Log)
    (name : List ℕ) (b : Beside C Log) : Type 0 where
  pub line : Option (List ℕ)
  pub last : LastDenials name (Ok line)
  pub number : IsNumberAfter line b.number
  pub opens : LogOpens name (Ok b.sink)
  pub lost : b.lost ≡ 0
  pub cut : b.is_cut ≡ false

-- It can't be read, or it can't be opened.
abbrev pub IsUnopened : {Log : Type 0} → (LastDenials : List ℕ → Result (Option (List ℕ)) ReadFailure → Type 0)
    → LogOpening Log → List ℕ
    → Type 0
IsUnopened LastDenials LogOpens name =
    ((why : Obstacle) × LastDenials name (Err (reading.Unreadable why))) ⊎ LogOpens name (Err log_failure.Failed)

-- ---- a trial

-- the rules of the file of this name are on trial beside this configuration, their log has that name, and it has all that they deny
-- or what they decide otherwise, as is wanted
pub record IsOnTrial {Log : Type 0} (FileReads LastDenials : List ℕ → Result (Option (List ℕ)) ReadFailure → Type 0)
    (LogOpens : LogOpening Log)
    (c : Configuration) (rules log : List ℕ) (has_all_denied : Bool) (b : Beside Trial Log) : Type 0 where
  pub config : Configuration
  pub read : IsRead FileReads rules config
  pub format : is_same_format c.format config.format ≡ true
  pub ports : are_same_ports c.ports config.ports ≡ true
  pub choice : b.choice ≡ record { policy = config.rules; has_all_denied = has_all_denied }
  pub opened : IsOpened LastDenials LogOpens log b

-- Memory may run out at reading this file, and at any text of it.
abbrev pub MayRunOut : (FileReads : List ℕ → Result (Option (List ℕ)) ReadFailure → Type 0) → List ℕ → Type 0
MayRunOut FileReads name = ((text : List ℕ) × FileReads name (Ok (Some text))) ⊎ FileReads name (Err reading.Memory)

-- Why they aren't: the file can't be read, and why; it has no configuration; one of another format, or with other ports; or
-- the log can't be had. Memory may run out, but where there is no file or it can't be read.
abbrev pub IsNoTrial : {Log : Type 0} → (FileReads LastDenials : List ℕ → Result (Option (List ℕ)) ReadFailure → Type 0)
    → LogOpening Log
    → Configuration → (rules log : List ℕ) → WatchFault → Type 0
IsNoTrial FileReads LastDenials LogOpens c rules log fault.Memory = MayRunOut FileReads rules
IsNoTrial FileReads LastDenials LogOpens c rules log (fault.Trial (trial.Unreadable why)) = IsUnreadable FileReads rules why
IsNoTrial FileReads LastDenials LogOpens c rules log (fault.Trial (trial.Configuration f)) =
    (text : List ℕ) × FileReads rules (Ok (Some text)) × (configuration text ≡ Err f)
IsNoTrial FileReads LastDenials LogOpens c rules log (fault.Trial trial.Format) =
    (new : Configuration) × IsRead FileReads rules new × (is_same_format c.format new.format ≡ false)
IsNoTrial FileReads LastDenials LogOpens c rules log (fault.Trial trial.Ports) =
    (new : Configuration) × IsRead FileReads rules new × (are_same_ports c.ports new.ports ≡ false)
IsNoTrial FileReads LastDenials LogOpens c rules log (fault.Trial trial.Log) = IsUnopened LastDenials LogOpens log
IsNoTrial FileReads LastDenials LogOpens c rules log fault.Audit = ⊥

abbrev pub IsTrialBy : {Log : Type 0} → (FileReads LastDenials : List ℕ → Result (Option (List ℕ)) ReadFailure → Type 0)
    → LogOpening Log
    → Configuration → (rules log : List ℕ) → (has_all_denied : Bool) → Result (Beside Trial Log) WatchFault → Type 0
IsTrialBy FileReads LastDenials LogOpens c rules log has_all_denied (Ok b) =
    IsOnTrial FileReads LastDenials LogOpens c rules log has_all_denied b
IsTrialBy FileReads LastDenials LogOpens c rules log has_all_denied (Err f) = IsNoTrial FileReads LastDenials LogOpens c rules log f

-- ---- an audit

-- the audit of this name is open, and the rules of this configuration are marked that are audited
pub record IsAuditOf {Log : Type 0} (LastDenials : List ℕ → Result (Option (List ℕ)) ReadFailure → Type 0)
    (LogOpens : LogOpening Log)
    (c : Configuration) (name : List ℕ) (b : Beside (List Bool) Log) : Type 0 where
  pub choice : b.choice ≡ c.audits
  pub opened : IsOpened LastDenials LogOpens name b

-- why it isn't: it can't be had; memory may run out
abbrev pub IsNoAudit : {Log : Type 0} → (LastDenials : List ℕ → Result (Option (List ℕ)) ReadFailure → Type 0)
    → LogOpening Log → List ℕ
    → WatchFault → Type 0
IsNoAudit LastDenials LogOpens name fault.Memory = ⊤
IsNoAudit LastDenials LogOpens name fault.Audit = IsUnopened LastDenials LogOpens name
IsNoAudit LastDenials LogOpens name (fault.Trial f) = ⊥

abbrev pub IsAuditBy : {Log : Type 0} → (LastDenials : List ℕ → Result (Option (List ℕ)) ReadFailure → Type 0) → LogOpening Log
    → Configuration → (name : List ℕ) → Result (Beside (List Bool) Log) WatchFault → Type 0
IsAuditBy LastDenials LogOpens c name (Ok b) = IsAuditOf LastDenials LogOpens c name b
IsAuditBy LastDenials LogOpens c name (Err f) = IsNoAudit LastDenials LogOpens name f
