-- What is known of metrics that are put at a tick.
use Rattle.std.proofs.Common.{◌≡◌, ℕ, ◌-◌, Bool, true, false, if◌then◌else◌, List, Option, Some, None, ap, subst}
use Rattle.gw_core.specs.State.{State}
use Rattle.gw_core.specs.declared.event.Counts.{Counts}
use Rattle.gw_notices.proofs.metrics_lemmas.Metered.{ticks_are_metered, tries_are_metered}
use Rattle.gw_notices.specs.metrics.Text.{metrics_text}
use Rattle.gw_notices.specs.declared.metrics.counts.StateTries.{StateTries}
use Rattle.gw_notices.specs.metrics.Writing.{Writing}
use Rattle.gw_notices.specs.declared.losses.Losses.{Losses}
use Rattle.gw_notices.specs.declared.reload.ReloadCounts.{ReloadCounts}
use Rattle.gw_turns.specs.Reports.{has_gone_on, report_of}
use Rattle.gw_turns.specs.declared.announcing.Announcing.{Announcing}
use Rattle.gw_turns.specs.declared.serving.Served.{Served}
use Rattle.gw_turns.specs.declared.tally.DropTally.{DropTally}
use Rattle.gw_service.specs.Metering.{MetersDue, MetersLast, metered, meters_by, seconds_of}
use Rattle.gw_service.specs.Metrics.{PutsDue, PutsLast, measures_of}
use Rattle.gw_service.specs.declared.metrics.Measures.{Measures}

abbrev measured_then : Counts → State → Served → DropTally → ReloadCounts → Announcing → Losses → Option StateTries → Measures
measured_then start w s t reloads announcing losses tries = record {
  report = report_of start w s t;
  reloads = reloads;
  age = w.ticks - reloads.since;
  announcing = announcing;
  losses = losses;
  tries = tries;
}

-- what was measured, if the counts never fell
puts_if : {S : Type 0} (held : S → Option (List ℕ)) (before after : Option (Writing S)) (gone : Bool) (m : Measures) (w : State)
    (decisions : Option (List ℕ)) → PutsDue held before (if gone then Some m else None) w decisions after
    → MetersDue (metered before) (if gone then Some m.report.seconds else None) (metered after)
puts_if held None after true m w decisions puts = ap metered puts
puts_if held (Some before) None true m w decisions puts = absurd puts
puts_if held (Some before) (Some after) true m w decisions puts =
    ticks_are_metered held before after m.report.seconds (metrics_text puts.0) puts.2
puts_if held None after false m w decisions puts = ap metered puts
puts_if held (Some before) after false m w decisions puts = ap metered puts

pub puts_metered : {S : Type 0} (held : S → Option (List ℕ)) (before after : Option (Writing S)) (start : Counts) (w : State) (s : Served)
    (t : DropTally) (reloads : ReloadCounts) (announcing : Announcing) (losses : Losses) (tries : Option StateTries) (decisions : Option (List ℕ))
    (measured : Option Measures) → measured ≡ measures_of start w s t reloads announcing losses tries
    → PutsDue held before measured w decisions after → meters_by start w s t (metered before) (metered after)
puts_metered held before after start w s t reloads announcing losses tries decisions measured is puts =
    puts_if held before after (has_gone_on start w s) (measured_then start w s t reloads announcing losses tries) w decisions
    (subst (λ (x : Option Measures). PutsDue held before x w decisions after) is puts)

-- or at the end, if the gateway was asked to stop
puts_last_if : {S : Type 0} (held : S → Option (List ℕ)) (before after : Option (Writing S)) (gone : Bool) (m : Measures) (w : State)
    (decisions : Option (List ℕ)) → PutsLast held before (if gone then Some m else None) w decisions after
    → MetersLast (metered before) (if gone then Some m.report.seconds else None) (metered after)
puts_last_if held None after true m w decisions puts = ap metered puts
puts_last_if held (Some before) None true m w decisions puts = absurd puts
puts_last_if held (Some before) (Some after) true m w decisions puts =
    tries_are_metered held before after m.report.seconds (metrics_text puts.0) puts.2
puts_last_if held None after false m w decisions puts = ap metered puts
puts_last_if held (Some before) after false m w decisions puts = ap metered puts

pub puts_metered_last : {S : Type 0} (held : S → Option (List ℕ)) (before after : Option (Writing S)) (start : Counts) (w : State) (s : Served)
    (t : DropTally) (reloads : ReloadCounts) (announcing : Announcing) (losses : Losses) (tries : Option StateTries) (decisions : Option (List ℕ))
    (measured : Option Measures) → measured ≡ measures_of start w s t reloads announcing losses tries
    → PutsLast held before measured w decisions after → MetersLast (metered before) (seconds_of start w s t) (metered after)
puts_metered_last held before after start w s t reloads announcing losses tries decisions measured is puts =
    puts_last_if held before after (has_gone_on start w s) (measured_then start w s t reloads announcing losses tries) w decisions
    (subst (λ (x : Option Measures). PutsLast held before x w decisions after) is puts)
