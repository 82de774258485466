-- The text of metrics: the exposition format 0.0.4 of Prometheus.
use Rattle.std.specs.Prelude.{ℕ, ◌+◌, ◌==◌, Bool, if◌then◌else◌, List, [], ◌∷◌, ◌++◌, length, map, slice_index, codes, decimal, Option}
use Rattle.std.specs.Prelude.{Some, None}
use Rattle.std.specs.List.{flat_map}
use Rattle.hex.specs.Hex.{encode_lower}
use Rattle.gw_rules.specs.declared.rule.Rule.{Rule}
use Rattle.gw_notices.specs.declared.checksum.Checksum.{Checksum}
use Rattle.gw_notices.specs.declared.metrics.counts.GatewayCounts.{GatewayCounts}
use Rattle.gw_notices.specs.declared.metrics.counts.Drops.{Drops}
use Rattle.gw_notices.specs.declared.metrics.counts.PortCounts.{PortCounts}
use Rattle.gw_notices.specs.declared.metrics.counts.Reloads.{Reloads}
use Rattle.gw_notices.specs.declared.metrics.counts.StateTries.{StateTries}
use Rattle.gw_notices.specs.declared.metrics.family.Family.{Family}
use Rattle.gw_notices.specs.declared.metrics.family.Family.TheVariants as family
use Rattle.gw_notices.specs.declared.metrics.family.SampleLabel.{SampleLabel}
use Rattle.gw_notices.specs.declared.metrics.family.SampleLabel.TheVariants as label
use Rattle.gw_notices.specs.metrics.Escape.{escaped}
use Rattle.gw_notices.specs.metrics.Family.{families, family_help, family_kind, family_name, kind_name, label_name}

-- ---- samples

-- a label with its value
pub record Labelled : Type 0 where
  pub label : SampleLabel
  pub value : List ℕ

-- a number of a family, with the label by which it differs from the others
pub record Sample : Type 0 where
  pub label : Option Labelled
  pub number : ℕ

abbrev pub plain : ℕ → Sample
plain number = record { label = None; number = number }

abbrev pub labelled : SampleLabel → List ℕ → ℕ → Sample
labelled label value number = record { label = Some (record { label = label; value = value }); number = number }

-- ---- lines

pub data Line : Type 0 where
  Help : Family → Line
  KindOf : Family → Line
  Count : Family → Sample → Line

-- `{rule="hide"}`, or nothing
abbrev pub label_text : Option Labelled → List ℕ
label_text None = []
label_text (Some l) = codes "{" ++ label_name l.label ++ codes "=\"" ++ escaped l.value ++ codes "\"}"

-- a line without its line feed
abbrev pub line_text : Line → List ℕ
line_text (Help f) = codes "# HELP " ++ family_name f ++ codes " " ++ family_help f
line_text (KindOf f) = codes "# TYPE " ++ family_name f ++ codes " " ++ kind_name (family_kind f)
line_text (Count f sample) = family_name f ++ label_text sample.label ++ codes " " ++ decimal sample.number

unfoldable pub full_line : Line → List ℕ
full_line line = line_text line ++ codes "\n"

abbrev pub lines_text : List Line → List ℕ
lines_text lines = flat_map full_line lines

-- ---- the samples of each family

abbrev pub number_if : Bool → ℕ
number_if is = if is then 1 else 0

-- the samples of items that are numbered on from this number
unfoldable pub numbered : {A : Type 0} → (ℕ → A → Sample) → ℕ → List A → List Sample
numbered sample number [] = []
numbered sample number (item ∷ items) = sample number item ∷ numbered sample (number + 1) items

-- a 1 that has the version
abbrev pub build_samples : List Sample
build_samples = labelled label.Version (codes "0.1.0") 1 ∷ []

abbrev pub drop_samples : Drops → List Sample
drop_samples d =
    labelled label.Reason (codes "enter") d.enter
    ∷ labelled label.Reason (codes "claim") d.claim
    ∷ labelled label.Reason (codes "malformed") d.malformed
    ∷ labelled label.Reason (codes "own_network") d.own_network
    ∷ labelled label.Reason (codes "no_peer") d.no_peer
    ∷ labelled label.Reason (codes "memory") d.memory
    ∷ []

-- the sample of the rule of this number, by the counts for no rule and for each rule
abbrev pub rule_sample : List ℕ → ℕ → Rule → Sample
rule_sample counts number rule = labelled label.Rule rule.name (slice_index counts number)

abbrev pub default_sample : List ℕ → Sample
default_sample counts = labelled label.Rule (codes "default") (slice_index counts 0)

abbrev pub decision_samples : List Rule → List ℕ → List Sample
decision_samples rules counts = default_sample counts ∷ numbered (rule_sample counts) 1 rules

-- the samples of decisions, if they are counted for these rules
abbrev pub decided_samples : List Rule → Option (List ℕ) → Option (List Sample)
decided_samples rules None = None
decided_samples rules (Some counts) =
    if length counts == length rules + 1 then Some (decision_samples rules counts) else None

-- the line of the rule of this number
abbrev pub rule_line : List ℕ → ℕ → Rule → List ℕ
rule_line counts number rule = full_line (Count family.Decisions (rule_sample counts number rule))

-- what a family counts of a port
abbrev pub port_number : Family → PortCounts → ℕ
port_number family.PortDatagrams p = p.datagrams
port_number family.PortDrops p = p.drops
port_number family.PortSends p = p.sends
port_number family.PortSendFailures p = p.send_failures
port_number other p = p.foreign_devices

-- the sample of the port of this number
abbrev pub port_sample : Family → ℕ → PortCounts → Sample
port_sample f number p = labelled label.Port (decimal number) (port_number f p)

abbrev pub port_line : Family → ℕ → PortCounts → List ℕ
port_line f number p = full_line (Count f (port_sample f number p))

-- the samples of a family that counts by port
abbrev pub port_samples : Family → List PortCounts → Option (List Sample)
port_samples f ports = Some (numbered (port_sample f) 1 ports)

abbrev pub reload_samples : Reloads → List Sample
reload_samples r =
    labelled label.Outcome (codes "taken_over") r.taken_over
    ∷ labelled label.Outcome (codes "refused") r.refused
    ∷ []

-- a 1 that has the digits of this checksum
abbrev pub configuration_samples : Checksum → List Sample
configuration_samples checksum = labelled label.Sha256 (encode_lower checksum.octets) 1 ∷ []

abbrev pub lost_samples : (trial audit : ℕ) → List Sample
lost_samples trial audit =
    labelled label.Log (codes "trial") trial
    ∷ labelled label.Log (codes "audit") audit
    ∷ []

abbrev pub single : ℕ → Option (List Sample)
single number = Some (plain number ∷ [])

abbrev pub kept_samples : Option StateTries → Option (List Sample)
kept_samples None = None
kept_samples (Some tries) = single (number_if tries.is_kept)

abbrev pub unkept_samples : Option StateTries → Option (List Sample)
unkept_samples None = None
unkept_samples (Some tries) = single tries.unkept

-- the samples of a family, if it is counted
abbrev pub samples_of : GatewayCounts → Family → Option (List Sample)
samples_of c family.Build = Some build_samples
samples_of c family.Ticks = single c.ticks
samples_of c family.Received = single c.received
samples_of c family.Taken = single c.taken
samples_of c family.Drops = Some (drop_samples c.drops)
samples_of c family.Sends = single c.sends
samples_of c family.SendFailures = single c.send_failures
samples_of c family.Announcements = single c.announcements
samples_of c family.AnnouncementFailures = single c.announcement_failures
samples_of c family.ReceiveFailures = single c.receive_failures
samples_of c family.Denials = single c.denials
samples_of c family.Decisions = decided_samples c.rules.now c.decisions.now
samples_of c family.Unwatched = single c.unwatched
samples_of c family.PortDatagrams = port_samples family.PortDatagrams c.ports.now
samples_of c family.PortDrops = port_samples family.PortDrops c.ports.now
samples_of c family.PortSends = port_samples family.PortSends c.ports.now
samples_of c family.PortSendFailures = port_samples family.PortSendFailures c.ports.now
samples_of c family.ForeignDevices = port_samples family.ForeignDevices c.ports.now
samples_of c family.Peers = single c.peers
samples_of c family.LearnedRoutes = single c.learned_routes
samples_of c family.Reloads = Some (reload_samples c.reloads)
samples_of c family.Configuration = Some (configuration_samples c.checksum)
samples_of c family.ConfigurationAge = single c.configuration_age
samples_of c family.StateIsKept = kept_samples c.state
samples_of c family.UnkeptStates = unkept_samples c.state
samples_of c family.LostLines = Some (lost_samples c.lost_trial_lines c.lost_audit_lines)
samples_of c family.LostMetrics = single c.lost_metrics

-- ---- the text

-- the lines of a family: what it is, of which kind, and its samples; none if it isn't counted
abbrev pub family_lines : Family → Option (List Sample) → List Line
family_lines f None = []
family_lines f (Some samples) = Help f ∷ KindOf f ∷ map (Count f) samples

abbrev pub metrics_lines : GatewayCounts → List Line
metrics_lines c = flat_map (λ f. family_lines f (samples_of c f)) families

abbrev pub family_text : GatewayCounts → Family → List ℕ
family_text c f = lines_text (family_lines f (samples_of c f))

abbrev pub metrics_text : GatewayCounts → List ℕ
metrics_text c = flat_map (family_text c) families
