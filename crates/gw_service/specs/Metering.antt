-- How the metrics of a run are put, if they are: when, how often that failed, and why the last try did.
use Rattle.std.specs.Prelude.{◌≡◌, ℕ, if◌then◌else◌, Option, Some, None, option_map}
use Rattle.std.specs.Option.{option_map_or}
use Rattle.gw_core.specs.State.{State}
use Rattle.gw_core.specs.declared.event.Counts.{Counts}
use Rattle.gw_notices.specs.metrics.Writing.{IsTriedAt, Metering, MetersAtTick, Writing, metering_of}
use Rattle.gw_turns.specs.Reports.{has_gone_on, report_of}
use Rattle.gw_turns.specs.declared.serving.Served.{Served}
use Rattle.gw_turns.specs.declared.tally.DropTally.{DropTally}
use Rattle.gw_wire.specs.declared.store.StoreFault.{StoreFault}

-- what is known of metrics without what is written
abbrev pub metered : {S : Type 0} → Option (Writing S) → Option Metering
metered metrics = option_map metering_of metrics

-- why the last try failed, if it did
abbrev pub failing_by : Option Metering → Option StoreFault
failing_by metrics = option_map_or (λ (m : Metering). m.failing) metrics None

-- how many tries failed, if metrics are put
abbrev pub lost_by : Option Metering → Option ℕ
lost_by metrics = option_map (λ (m : Metering). m.lost) metrics

-- The seconds since a gateway began with these counts. They never fell since then; if they had, nothing would be measured.
abbrev pub seconds_of : Counts → State → Served → DropTally → Option ℕ
seconds_of start w s tally = if has_gone_on start w s then Some (report_of start w s tally).seconds else None

-- what is done at a tick about metrics, if they are put
abbrev pub MetersDue : Option Metering → Option ℕ → Option Metering → Type 0
MetersDue (Some before) (Some seconds) (Some after) = MetersAtTick before seconds after
MetersDue (Some before) (Some seconds) None = ⊥
MetersDue before _ after = after ≡ before

-- what is done about them if the gateway was asked to stop: they are put whether that is due or not
abbrev pub MetersLast : Option Metering → Option ℕ → Option Metering → Type 0
MetersLast (Some before) (Some seconds) (Some after) = IsTriedAt before seconds after
MetersLast (Some before) (Some seconds) None = ⊥
MetersLast before _ after = after ≡ before

abbrev pub meters_by : Counts → State → Served → DropTally → (before after : Option Metering) → Type 0
meters_by start w s tally before after = MetersDue before (seconds_of start w s tally) after
