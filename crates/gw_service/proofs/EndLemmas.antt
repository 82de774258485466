-- What a run does at its end, by how serving ended.
use Rattle.std.proofs.Common.{◌≡◌, ℕ, List, [], ◌∷◌, ◌++◌, Option, refl, subst, sym}
use Rattle.std.proofs.lemmas.List.{append-nil}
use Rattle.std.specs.Prelude.{Result, Ok, Err, true, false}
use Rattle.gw_core.specs.State.{State}
use Rattle.gw_core.specs.declared.event.Counts.{Counts}
use Rattle.gw_notices.specs.metrics.Writing.{Metering}
use Rattle.gw_notices.specs.Notices.{stop_line}
use Rattle.gw_notices.specs.declared.reload.ReloadCounts.{ReloadCounts}
use Rattle.gw_system.specs.Requests.{Asking, GoesOn, answered}
use Rattle.gw_turns.specs.declared.announcing.Announcing.{Announcing}
use Rattle.gw_turns.specs.declared.serving.ServeFault.{ServeFault}
use Rattle.gw_turns.specs.declared.serving.Served.{Served}
use Rattle.gw_turns.specs.declared.tally.DropTally.{DropTally}
use Rattle.gw_service.specs.Chain.{Manner, Stage}
use Rattle.gw_service.specs.Kept.{EndsRun, is_stopped, rest}
use Rattle.gw_service.specs.Metering.{MetersLast, lost_by, seconds_of}
use Rattle.gw_service.specs.declared.running.RunEnd.{RunEnd}
use Rattle.gw_service.specs.declared.running.RunEnd.TheVariants as end

-- what is reported last
abbrev last_text : {K : Type 0} → (K → ReloadCounts → Announcing → Option ℕ → State → Served → DropTally → List ℕ) → Stage K → K → Option Metering
    → List ℕ
last_text report last k metrics =
    report k last.counts last.announcing (lost_by metrics) last.now.scene.gateway last.now.served last.now.tally

-- it was asked to stop
stopped_so : {K : Type 0} (manner : Manner K) (report : K → ReloadCounts → Announcing → Option ℕ → State → Served → DropTally → List ℕ) (start : Counts)
    (last : Stage K) (k : K) (requests : Asking) (metrics : Option Metering) → manner.Lasts last.now.guard last.now.scene.gateway k
    → MetersLast last.metrics (seconds_of start last.now.scene.gateway last.now.served last.now.tally) metrics
    → GoesOn last.requests requests (answered (stop_line (manner.troubles k).state) ∷ [])
    → EndsRun manner report start (Ok end.Stopped) last (rest k requests)
    (last_text report last k metrics ++ stop_line (manner.troubles k).state)
stopped_so manner report start last k requests metrics keeps put answers =
    record { keeps = keeps; metrics = metrics; put = put; answers = answers; said = refl }

pub ends_stopped : {K : Type 0} (manner : Manner K) (report : K → ReloadCounts → Announcing → Option ℕ → State → Served → DropTally → List ℕ)
    (start : Counts) (answer : Result RunEnd ServeFault) (last : Stage K) (k l : K) (requests : Asking) (metrics : Option Metering)
    → is_stopped answer ≡ true → l ≡ k → manner.Lasts last.now.guard last.now.scene.gateway k
    → MetersLast last.metrics (seconds_of start last.now.scene.gateway last.now.served last.now.tally) metrics
    → GoesOn last.requests requests (answered (stop_line (manner.troubles k).state) ∷ [])
    → EndsRun manner report start answer last (rest l requests) (last_text report last k metrics ++ stop_line (manner.troubles k).state)
ends_stopped {K} manner report start (Ok end.Stopped) last k l requests metrics is same keeps put answers =
    let text = last_text report last k metrics ++ stop_line (manner.troubles k).state in
    subst (λ (x : K). EndsRun manner report start (Ok end.Stopped) last (rest x requests) text) (sym same)
    (stopped_so manner report start last k requests metrics keeps put answers)
ends_stopped manner report start (Ok end.Turns) last k l requests metrics is same keeps put answers = absurd cc
ends_stopped manner report start (Ok end.Unsynced) last k l requests metrics is same keeps put answers = absurd cc
ends_stopped manner report start (Err fault) last k l requests metrics is same keeps put answers = absurd cc

-- it wasn't
pub ends_else : {K : Type 0} (manner : Manner K) (report : K → ReloadCounts → Announcing → Option ℕ → State → Served → DropTally → List ℕ)
    (start : Counts) (answer : Result RunEnd ServeFault) (last : Stage K) (k : K) → is_stopped answer ≡ false
    → manner.Lasts last.now.guard last.now.scene.gateway k
    → EndsRun manner report start answer last (rest k last.requests) (last_text report last k last.metrics)
ends_else manner report start (Ok end.Turns) last k is keeps =
    record { keeps = keeps; metrics = last.metrics; put = refl; answers = refl; said = sym (append-nil (last_text report last k last.metrics)) }
ends_else manner report start (Ok end.Unsynced) last k is keeps =
    record { keeps = keeps; metrics = last.metrics; put = refl; answers = refl; said = sym (append-nil (last_text report last k last.metrics)) }
ends_else manner report start (Err fault) last k is keeps =
    record { keeps = keeps; metrics = last.metrics; put = refl; answers = refl; said = sym (append-nil (last_text report last k last.metrics)) }
ends_else manner report start (Ok end.Stopped) last k is keeps = absurd cc
