-- The families of metrics.
use Rattle.std.specs.Prelude.{ℕ, List, [], ◌∷◌, codes}
use Rattle.gw_notices.specs.declared.metrics.family.Family.{Family}
use Rattle.gw_notices.specs.declared.metrics.family.Family.TheVariants as family
use Rattle.gw_notices.specs.declared.metrics.family.FamilyKind.{FamilyKind}
use Rattle.gw_notices.specs.declared.metrics.family.FamilyKind.TheVariants.{Counter, Gauge}
use Rattle.gw_notices.specs.declared.metrics.family.SampleLabel.{SampleLabel}
use Rattle.gw_notices.specs.declared.metrics.family.SampleLabel.TheVariants as label

-- all of them, in the order of the text
abbrev pub families : List Family
families =
    family.Build
    ∷ family.Ticks
    ∷ family.Received
    ∷ family.Taken
    ∷ family.Drops
    ∷ family.Sends
    ∷ family.SendFailures
    ∷ family.Announcements
    ∷ family.AnnouncementFailures
    ∷ family.ReceiveFailures
    ∷ family.Denials
    ∷ family.Decisions
    ∷ family.Unwatched
    ∷ family.PortDatagrams
    ∷ family.PortDrops
    ∷ family.PortSends
    ∷ family.PortSendFailures
    ∷ family.ForeignDevices
    ∷ family.Peers
    ∷ family.LearnedRoutes
    ∷ family.Reloads
    ∷ family.Configuration
    ∷ family.ConfigurationAge
    ∷ family.StateIsKept
    ∷ family.UnkeptStates
    ∷ family.LostLines
    ∷ family.LostMetrics
    ∷ []

abbrev pub family_name : Family → List ℕ
family_name family.Build = codes "bacgw_build_info"
family_name family.Ticks = codes "bacgw_ticks_total"
family_name family.Received = codes "bacgw_datagrams_received_total"
family_name family.Taken = codes "bacgw_datagrams_taken_total"
family_name family.Drops = codes "bacgw_drops_total"
family_name family.Sends = codes "bacgw_sends_total"
family_name family.SendFailures = codes "bacgw_send_failures_total"
family_name family.Announcements = codes "bacgw_announcements_total"
family_name family.AnnouncementFailures = codes "bacgw_announcement_failures_total"
family_name family.ReceiveFailures = codes "bacgw_receive_failures_total"
family_name family.Denials = codes "bacgw_denials_total"
family_name family.Decisions = codes "bacgw_decisions_total"
family_name family.Unwatched = codes "bacgw_unwatched_events_total"
family_name family.PortDatagrams = codes "bacgw_port_datagrams_total"
family_name family.PortDrops = codes "bacgw_port_drops_total"
family_name family.PortSends = codes "bacgw_port_sends_total"
family_name family.PortSendFailures = codes "bacgw_port_send_failures_total"
family_name family.ForeignDevices = codes "bacgw_foreign_devices"
family_name family.Peers = codes "bacgw_peers"
family_name family.LearnedRoutes = codes "bacgw_learned_routes"
family_name family.Reloads = codes "bacgw_reloads_total"
family_name family.Configuration = codes "bacgw_configuration_info"
family_name family.ConfigurationAge = codes "bacgw_configuration_age_seconds"
family_name family.StateIsKept = codes "bacgw_state_is_kept"
family_name family.UnkeptStates = codes "bacgw_unkept_states_total"
family_name family.LostLines = codes "bacgw_lost_lines_total"
family_name family.LostMetrics = codes "bacgw_lost_metrics_total"

abbrev pub family_help : Family → List ℕ
family_help family.Build = codes "1, with the version of the program."
family_help family.Ticks = codes "Ticks that were taken, one for each second."
family_help family.Received = codes "Datagrams that came to the ports."
family_help family.Taken = codes "Datagrams that the gateway took, dropped ones included."
family_help family.Drops = codes "Datagrams that were not passed on, by the reason."
family_help family.Sends = codes "Datagrams that the system took."
family_help family.SendFailures = codes "Datagrams that the system refused."
family_help family.Announcements = codes "Datagrams that the system took of announcements, at the start and after a reload."
family_help family.AnnouncementFailures = codes "Datagrams of announcements that the system refused."
family_help family.ReceiveFailures = codes "Receives that failed."
family_help family.Denials = codes "Asks that were denied, each with its line in the log."
family_help family.Decisions = codes "Asks that each rule decided, and those that none did (default), since the start or the last reload."
family_help family.Unwatched = codes "Events whose asks were not counted, since memory was refused."
family_help family.PortDatagrams = codes "Datagrams that came to the port and were taken, dropped ones included."
family_help family.PortDrops = codes "Datagrams that came to the port and were not passed on, whatever the reason."
family_help family.PortSends = codes "Datagrams that the system took on the port."
family_help family.PortSendFailures = codes "Datagrams that the system refused on the port."
family_help family.ForeignDevices = codes "Foreign devices that are registered, by the port."
family_help family.Peers = codes "Other broadcast managers of all ports."
family_help family.LearnedRoutes = codes "Networks whose router was learned."
family_help family.Reloads = codes "Configurations that were read again, by whether they were taken over."
family_help family.Configuration = codes "The configuration in force, by the SHA-256 of its text."
family_help family.ConfigurationAge = codes "Seconds since the configuration in force was read, at the start or the last reload."
family_help family.StateIsKept = codes "1 if the last try to keep the state succeeded, else 0."
family_help family.UnkeptStates = codes "Tries to keep the state that failed."
family_help family.LostLines = codes "Lines that were lost of the log of a trial or of an audit."
family_help family.LostMetrics = codes "Times that this text could not be written."

-- a counter only grows or begins anew, a gauge also falls
abbrev pub family_kind : Family → FamilyKind
family_kind family.Build = Gauge
family_kind family.Ticks = Counter
family_kind family.Received = Counter
family_kind family.Taken = Counter
family_kind family.Drops = Counter
family_kind family.Sends = Counter
family_kind family.SendFailures = Counter
family_kind family.Announcements = Counter
family_kind family.AnnouncementFailures = Counter
family_kind family.ReceiveFailures = Counter
family_kind family.Denials = Counter
family_kind family.Decisions = Counter
family_kind family.Unwatched = Counter
family_kind family.PortDatagrams = Counter
family_kind family.PortDrops = Counter
family_kind family.PortSends = Counter
family_kind family.PortSendFailures = Counter
family_kind family.ForeignDevices = Gauge
family_kind family.Peers = Gauge
family_kind family.LearnedRoutes = Gauge
family_kind family.Reloads = Counter
family_kind family.Configuration = Gauge
family_kind family.ConfigurationAge = Gauge
family_kind family.StateIsKept = Gauge
family_kind family.UnkeptStates = Counter
family_kind family.LostLines = Counter
family_kind family.LostMetrics = Counter

abbrev pub kind_name : FamilyKind → List ℕ
kind_name Counter = codes "counter"
kind_name Gauge = codes "gauge"

abbrev pub label_name : SampleLabel → List ℕ
label_name label.Version = codes "version"
label_name label.Reason = codes "reason"
label_name label.Rule = codes "rule"
label_name label.Port = codes "port"
label_name label.Outcome = codes "outcome"
label_name label.Log = codes "log"
label_name label.Sha256 = codes "sha256"
