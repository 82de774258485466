-- The metrics of a run, which are put into a store.
use Rattle.std.specs.Prelude.{◌≡◌, ℕ, ◌+◌, ◌-◌, ◌^◌, min, if◌then◌else◌, List, [], ◌∷◌, length, Option, Some, None}
use Rattle.gw_core.specs.State.{State}
use Rattle.gw_core.specs.declared.event.Counts as gateway
use Rattle.gw_notices.specs.metrics.Text.{metrics_text}
use Rattle.gw_notices.specs.declared.metrics.counts.GatewayCounts.{GatewayCounts}
use Rattle.gw_notices.specs.declared.metrics.counts.Drops.{Drops}
use Rattle.gw_notices.specs.declared.metrics.counts.PortCounts.{PortCounts}
use Rattle.gw_notices.specs.declared.metrics.counts.Reloads.{Reloads}
use Rattle.gw_notices.specs.declared.metrics.counts.StateTries.{StateTries}
use Rattle.gw_notices.specs.metrics.Writing.{IsTried, Writing, WritesAtTick}
use Rattle.gw_relay.specs.declared.port.PortState.{PortState}
use Rattle.gw_rules.specs.declared.rule.Rule.{Rule}
use Rattle.gw_turns.specs.Ports.{datagrams_at, sends_at}
use Rattle.gw_turns.specs.Reports.{has_gone_on, report_of}
use Rattle.gw_turns.specs.declared.announcing.Announcing.{Announcing}
use Rattle.gw_turns.specs.declared.report.Report.{Report}
use Rattle.gw_turns.specs.declared.serving.Served.{Served}
use Rattle.gw_turns.specs.declared.tally.DropTally.{DropTally}
use Rattle.gw_notices.specs.declared.losses.Losses.{Losses}
use Rattle.gw_service.specs.declared.metrics.Measures.{Measures}
use Rattle.gw_notices.specs.declared.reload.ReloadCounts.{ReloadCounts}

-- What is measured of a run whose gateway began with these counts and is in this state, when so much was done. The counts never
-- fell since then; if they had, nothing would be.
abbrev pub measures_of : gateway.Counts → State → Served → DropTally → ReloadCounts → Announcing → Losses → Option StateTries
    → Option Measures
measures_of start w s tally reloads announcing losses tries =
    if has_gone_on start w s
    then Some (record {
      report = report_of start w s tally;
      reloads = reloads;
      age = w.ticks - reloads.since;
      announcing = announcing;
      losses = losses;
      tries = tries;
    })
    else None

abbrev pub drops_of : Report → Drops
drops_of r = record {
  enter = r.tally.enter;
  claim = r.tally.claim;
  malformed = r.tally.malformed;
  own_network = r.tally.own_network;
  no_peer = r.tally.no_peer;
  memory = r.memory_drops;
}

abbrev pub reloads_of : ReloadCounts → Reloads
reloads_of counts = record { taken_over = counts.taken_over; refused = counts.refused }

-- how many foreign devices are registered at a port
abbrev pub device_count : PortState → ℕ
device_count state = length state.fdt.rows

-- what is written of the port at a place: what was done on it, and how many foreign devices are registered there
abbrev pub port_counts : Report → (place : ℕ) → PortState → PortCounts
port_counts r place state = record {
  foreign_devices = device_count state;
  datagrams = (datagrams_at r.tally.ports place).datagrams;
  drops = (datagrams_at r.tally.ports place).drops;
  sends = (sends_at r.ports place).sends;
  send_failures = (sends_at r.ports place).failures;
}

-- of the ports from a place on, in order
unfoldable pub counts_from : Report → (place : ℕ) → List PortState → List PortCounts
counts_from r place [] = []
counts_from r place (state ∷ states) = port_counts r place state ∷ counts_from r (place + 1) states

abbrev pub ports_of : Report → List PortState → List PortCounts
ports_of r states = counts_from r 0 states

-- What is written of a run: what was measured, how many asks each of these rules decided, what is counted of each port, and how many
-- texts were lost. What was received was taken, or memory was refused for it.
pub record AreCounts (m : Measures) (in_force : List Rule) (decided : Option (List ℕ)) (by_port : List PortCounts) (lost : ℕ)
    (c : GatewayCounts)
    : Type 0 where
  pub ticks : c.ticks ≡ m.report.seconds
  pub received : c.received ≡ min (m.report.datagrams + m.report.memory_drops) (2 ^ 64 - 1)
  pub taken : c.taken ≡ m.report.datagrams
  pub drops : c.drops ≡ drops_of m.report
  pub sends : c.sends ≡ m.report.sends
  pub send_failures : c.send_failures ≡ m.report.send_failures
  pub announcements : c.announcements ≡ m.announcing.sends
  pub announcement_failures : c.announcement_failures ≡ m.announcing.send_failures
  pub receive_failures : c.receive_failures ≡ m.report.receive_failures
  pub denials : c.denials ≡ m.report.denials
  pub rules : c.rules.now ≡ in_force
  pub decisions : c.decisions.now ≡ decided
  pub unwatched : c.unwatched ≡ m.losses.unwatched
  pub ports : c.ports.now ≡ by_port
  pub peers : c.peers ≡ m.report.peers
  pub learned_routes : c.learned_routes ≡ m.report.learned_routes
  pub reloads : c.reloads ≡ reloads_of m.reloads
  pub checksum : c.checksum ≡ m.reloads.checksum
  pub configuration_age : c.configuration_age ≡ m.age
  pub state : c.state ≡ m.tries
  pub lost_trial_lines : c.lost_trial_lines ≡ m.losses.trial_lines
  pub lost_audit_lines : c.lost_audit_lines ≡ m.losses.audit_lines
  pub lost_metrics : c.lost_metrics ≡ lost

-- the text of that is put into the store, if it is due
abbrev pub PutsInto : {S : Type 0} → (S → Option (List ℕ)) → Writing S → Measures → State → Option (List ℕ) → Writing S → Type 0
PutsInto held before m w decisions after =
    (c : GatewayCounts) × AreCounts m w.rules decisions (ports_of m.report w.relay.ports) before.lost c
    × WritesAtTick held before m.report.seconds (metrics_text c) after

-- or whether it is due or not
abbrev pub PutsNow : {S : Type 0} → (S → Option (List ℕ)) → Writing S → Measures → State → Option (List ℕ) → Writing S → Type 0
PutsNow held before m w decisions after =
    (c : GatewayCounts) × AreCounts m w.rules decisions (ports_of m.report w.relay.ports) before.lost c
    × IsTried held before m.report.seconds (metrics_text c) after

abbrev pub PutsLast : {S : Type 0} → (S → Option (List ℕ)) → Option (Writing S) → Option Measures → State → Option (List ℕ)
    → Option (Writing S) → Type 0
PutsLast held (Some before) (Some m) w decisions (Some after) = PutsNow held before m w decisions after
PutsLast held (Some before) (Some m) w decisions None = ⊥
PutsLast held before _ w decisions after = after ≡ before

-- if there is a store
abbrev pub PutsDue : {S : Type 0} → (S → Option (List ℕ)) → Option (Writing S) → Option Measures → State → Option (List ℕ)
    → Option (Writing S) → Type 0
PutsDue held (Some before) (Some m) w decisions (Some after) = PutsInto held before m w decisions after
PutsDue held (Some before) (Some m) w decisions None = ⊥
PutsDue held before _ w decisions after = after ≡ before
