-- What is reported of a run, each so many seconds and at its end; and what is said each minute of a verbose one.
use Rattle.std.specs.Prelude.{ℕ, ◌-◌, ◌/◌, ◌%◌, ◌==◌, ◌&&◌, ◌||◌, not, Bool, true, if◌then◌else◌, List, [], ◌++◌, Option, Some, None}
use Rattle.gw_core.specs.State.{State}
use Rattle.gw_core.specs.declared.event.Counts.{Counts}
use Rattle.gw_turns.specs.Reports.{announcing_text, culprits_text, has_gone_on, healths_text, ports_text, report_line, report_of}
use Rattle.gw_turns.specs.declared.announcing.Announcing.{Announcing}
use Rattle.gw_turns.specs.declared.serving.Served.{Served}
use Rattle.gw_turns.specs.declared.tally.DropTally.{DropTally}
use Rattle.gw_notices.specs.Stats.{lost_metrics_text, put_off_text, reloads_text, unkept_text}
use Rattle.gw_notices.specs.declared.reload.ReloadCounts.{ReloadCounts}

-- When what is reported: each so many seconds, if reports are asked for; whether each counts the asks of each rule; since a
-- gateway began with these counts; whether its state is kept or its configuration read again, and whether that is read again; and whether
-- something is said each minute, if reports aren't asked for.
pub record Reporting : Type 0 where
  pub seconds : Option ℕ
  pub rules : Bool
  pub start : Counts
  pub keeps : Bool
  pub reloads : Bool
  pub verbose : Bool

abbrev pub reporting : Option ℕ → (rules : Bool) → Counts → (keeps reloads verbose : Bool) → Reporting
reporting seconds rules start keeps reloads verbose =
    record { seconds = seconds; rules = rules; start = start; keeps = keeps; reloads = reloads; verbose = verbose }

-- the same of the whole time, with how many asks each rule decided
abbrev pub whole : Reporting → Reporting
whole how = reporting None true how.start how.keeps how.reloads how.verbose

-- the same, where a report counts the asks of each rule, or doesn't
abbrev pub with_rules : Reporting → (rules : Bool) → Reporting
with_rules how rules = reporting how.seconds rules how.start how.keeps how.reloads how.verbose

-- how often the state couldn't be kept and the configuration was read again, how many texts of metrics were lost, what was
-- announced, how often that was put off, and what else the keeper reports, with the rules or without
abbrev pub tries_text : {K : Type 0} → (K → ℕ) → (K → (rules : Bool) → State → List ℕ) → Reporting → K → ReloadCounts → Announcing
    → Option ℕ → State
    → List ℕ
tries_text unkept more how k counts announcing lost w =
    unkept_text how.keeps (unkept k)
    ++ (reloads_text how.reloads counts ++ (lost_metrics_text lost ++ (announcing_text announcing
    ++ (put_off_text announcing.put_off ++ more k how.rules w))))

-- from whom the last datagrams came that were dropped, and on which ports sends fail or succeed again: in the last so many seconds, or
-- whenever it was
abbrev pub troubles_text : Option ℕ → State → Served → DropTally → List ℕ
troubles_text seconds w s tally = culprits_text seconds w.ticks tally ++ healths_text seconds w s

-- a report of what was done since then, and by port; these troubles, in the last so many seconds if reports are asked for; and these
-- tries
abbrev pub stats_text : Reporting → State → Served → DropTally → (tries : List ℕ) → List ℕ
stats_text how w s tally tries =
    if has_gone_on how.start w s
    then report_line (report_of how.start w s tally) ++ (ports_text (report_of how.start w s tally)
    ++ (troubles_text how.seconds w s tally ++ tries))
    else []

-- whether a multiple of so many seconds has passed
abbrev pub is_due : Counts → State → ℕ → Bool
is_due start w seconds = (w.ticks - start.ticks) % seconds == 0

-- whether an hour since the start ended in the last so many seconds
abbrev pub ends_hour : Counts → State → (seconds : ℕ) → Bool
ends_hour start w seconds = not ((w.ticks - start.ticks) / 3600 == (w.ticks - start.ticks - seconds) / 3600)

-- a report of each so many seconds: it counts the asks of each rule if all do, or if an hour ended since the one before
abbrev pub due_with : Reporting → State → (seconds : ℕ) → Reporting
due_with how w seconds = with_rules how (how.rules || ends_hour how.start w seconds)

-- a report with how many asks each rule decided, whether one is due or not
abbrev pub all_stats : {K : Type 0} → (K → ℕ) → (K → (rules : Bool) → State → List ℕ) → Reporting → K → ReloadCounts → Announcing
    → Option ℕ → State → Served → DropTally → List ℕ
all_stats unkept more how k counts announcing lost w s tally =
    stats_text (whole how) w s tally (tries_text unkept more (whole how) k counts announcing lost w)

-- what is reported at the end, if reports are asked for
abbrev pub end_by : Option ℕ → (text : List ℕ) → List ℕ
end_by None text = []
end_by (Some seconds) text = text

abbrev pub end_stats : {K : Type 0} → (K → ℕ) → (K → (rules : Bool) → State → List ℕ) → Reporting → K → ReloadCounts → Announcing
    → Option ℕ → State → Served → DropTally → List ℕ
end_stats unkept more how k counts announcing lost w s tally =
    end_by how.seconds (all_stats unkept more how k counts announcing lost w s tally)

-- what is said at a tick of a verbose run: the troubles of the last minute, if a full one has passed
abbrev pub minute_text : Reporting → State → Served → DropTally → List ℕ
minute_text how w s tally = if how.verbose && is_due how.start w 60 then troubles_text (Some 60) w s tally else []

-- what is reported at a tick: something if a multiple of so many seconds has passed; or what is said then, if no reports are asked for
abbrev pub due_by : Option ℕ → Counts → State → (minute : List ℕ) → (text : (seconds : ℕ) → List ℕ) → List ℕ
due_by None start w minute text = minute
due_by (Some seconds) start w minute text = if is_due start w seconds then text seconds else []

abbrev pub due_stats : {K : Type 0} → (K → ℕ) → (K → (rules : Bool) → State → List ℕ) → Reporting → K → ReloadCounts → Announcing
    → Option ℕ → State → Served → DropTally → List ℕ
due_stats unkept more how k counts announcing lost w s tally =
    due_by how.seconds how.start w (minute_text how w s tally)
    (λ seconds. stats_text how w s tally (tries_text unkept more (due_with how w seconds) k counts announcing lost w))
