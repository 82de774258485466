-- What is counted by port adds up to the totals of a report, and that sends succeed again is reported once.
use Rattle.std.specs.Prelude.{◌≡◌, ℕ, ◌+◌, ◌^◌, ◌<◌, ◌≤◌, Bool, List, [], length, sum_by, Some}
use Rattle.gw_core.specs.State.{State}
use Rattle.gw_core.specs.declared.event.Counts.{Counts}
use Rattle.gw_script.specs.Event.{Event}
use Rattle.gw_turns.specs.Reports.{health_text, report_of, restored_line, shown}
use Rattle.gw_turns.specs.Serve.{Turn, zero_counts}
use Rattle.gw_turns.specs.Stretch.{GoOn, Moment}
use Rattle.gw_turns.specs.Tally.{no_tally}
use Rattle.gw_turns.specs.declared.ports.Health.TheVariants.{Restored}
use Rattle.gw_turns.specs.declared.report.Report.{Report}

-- Over all ports the counts of each are those of the report's line.
pub record AddUp (r : Report) : Type 0 where
  pub datagrams : sum_by (λ p. p.datagrams) r.tally.ports ≡ r.datagrams
  pub drops : sum_by (λ p. p.drops) r.tally.ports
      ≡ r.tally.enter + r.tally.claim + r.tally.malformed + r.tally.own_network + r.tally.no_peer
  pub sends : sum_by (λ p. p.sends) r.ports ≡ r.sends
  pub failures : sum_by (λ p. p.failures) r.ports ≡ r.send_failures

-- So it is, under any guard, of a gateway that went on from its first counts for fewer than 2^60 turns, of whose sends fewer than 2^64
-- succeeded and fewer than 2^64 failed.
abbrev pub PortsAddUp : {G : Type 0} → (Passes : G → State → Event → G → Bool → Type 0) → Type 0
PortsAddUp {G} Passes =
    (start : Counts) (before after : Moment G) (turns : List Turn) → start.ticks ≡ before.scene.gateway.ticks
    → before.served ≡ zero_counts → before.tally ≡ no_tally → GoOn Passes before turns after → length turns < 2 ^ 60
    → after.served.sends < 2 ^ 64 → after.served.send_failures < 2 ^ 64
    → AddUp (report_of start after.scene.gateway after.served after.tally)

-- Where each report is of so many seconds, that sends on a port succeed again is in the first one after the tick at which they did, and
-- in no later one.
abbrev pub AgainIsReportedOnce : Type 0
AgainIsReportedOnce =
    (seconds since first later number : ℕ) → since < first → first ≤ since + seconds → first + seconds ≤ later
    → (health_text number (shown (Some seconds) first (Restored since)) ≡ restored_line number)
    × (health_text number (shown (Some seconds) later (Restored since)) ≡ [])
