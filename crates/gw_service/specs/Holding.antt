-- A run that goes on if its log fails: the lines that the log lacks wait, and what is denied is withheld until they are written.
use Rattle.std.specs.Prelude.{◌≡◌, ◌⊎◌, ℕ, ◌+◌, ◌==◌, ◌&&◌, not, Bool, true, false, if◌then◌else◌, List, [], ◌∷◌, ◌++◌, length, codes}
use Rattle.std.specs.Prelude.{decimal, Option, Some, None, Result, Ok, Err}
use Rattle.std.specs.Io.KnownBytes.{Appends, append_known}
use Rattle.std.specs.List.{flat_map}
use Rattle.gw_configuration.specs.Configuration.{Configuration}
use Rattle.gw_core.specs.Effects.{effects_at}
use Rattle.gw_core.specs.History.{run_from}
use Rattle.gw_core.specs.State.{State}
use Rattle.gw_script.specs.Event.{Event}
use Rattle.gw_turns.specs.Announcing.{Announces}
use Rattle.gw_turns.specs.Pace.{one_more}
use Rattle.gw_turns.specs.Serve.{AreTurns, Turn, calls_of, events_of, log_of, scene}
use Rattle.gw_turns.specs.Stretch.{moment}
use Rattle.gw_turns.specs.declared.announcing.Announcing.{Announcing}
use Rattle.gw_turns.specs.declared.serving.ServeFault.{ServeFault}
use Rattle.gw_turns.specs.declared.serving.ServeFault.TheVariants as serving
use Rattle.gw_wire.specs.Wire.{Call, Records, arrival}
use Rattle.gw_system.specs.Requests.{Asking}
use Rattle.gw_service.specs.Chain.{EndsSo, IsLink, IsServed, IsTicked, Link, Manner, Stage, ended, link_text, served, stage, stopping}
use Rattle.gw_service.specs.Chain.{ticked, withheld}
use Rattle.gw_service.specs.Conduct.{Conduct, manner_by}
use Rattle.gw_service.specs.Metering.{metered}
use Rattle.gw_service.specs.Stats.{Reporting}
use Rattle.gw_service.specs.declared.holding.Holding.{Holding}
use Rattle.gw_service.specs.declared.running.RunEnd.{RunEnd}
use Rattle.gw_service.specs.declared.running.Running.{Running}
use Rattle.gw_service.specs.declared.running.RunEnd.TheVariants as end

-- ---- what withholds

-- lines wait, and the event denies something
abbrev pub waits_too : {K : Type 0} → Holding K → State → Event → Bool
waits_too h w event = not (h.waiting == 0) && not (length (effects_at w event).denials == 0)

-- At an event the keeper does what it does. Its answer is heard, but while lines wait an event that denies something is withheld, and
-- that is counted.
pub record PassesHolding {K : Type 0} (Passes : K → State → Event → K → Bool → Type 0) (h : Holding K) (w : State) (event : Event)
    (i : Holding K) (passes : Bool) : Type 0 where
  pub answer : Bool
  pub passed : Passes h.keeper w event i.keeper answer
  pub waiting : i.waiting ≡ h.waiting
  pub withheld : i.withheld ≡ (if waits_too h w event then one_more h.withheld else h.withheld)
  pub goes : passes ≡ (answer && not (waits_too h w event))

-- Else it does what it does, and what waits and was withheld stays counted.
pub record DoesHolding {K : Type 0} (Does : K → K → Type 0) (h i : Holding K) : Type 0 where
  pub does : Does h.keeper i.keeper
  pub waiting : i.waiting ≡ h.waiting
  pub withheld : i.withheld ≡ h.withheld

abbrev pub TicksHolding : {K : Type 0} → (K → State → K → Type 0) → Holding K → State → Holding K → Type 0
TicksHolding Ticks h w i = DoesHolding (λ k l. Ticks k w l) h i

abbrev pub AdoptsHolding : {K : Type 0} → (K → Configuration → State → K → Type 0) → Holding K → Configuration → State → Holding K → Type 0
AdoptsHolding Adopts h c w i = DoesHolding (λ k l. Adopts k c w l) h i

-- a keeper while nothing waits and nothing was withheld
abbrev pub unheld : {K : Type 0} → K → Holding K
unheld keeper = record { keeper = keeper; waiting = 0; withheld = 0 }

-- ---- what is reported

-- how many events were withheld so, and how many octets of lines wait
abbrev pub held_line : (count waiting : ℕ) → List ℕ
held_line count waiting =
    codes "stats held=" ++ (decimal count ++ (codes " waiting=" ++ (decimal waiting ++ 10 ∷ [])))

-- so it is reported if one was
abbrev pub held_text : (count waiting : ℕ) → List ℕ
held_text count waiting = if count == 0 then [] else held_line count waiting

abbrev pub more_holding : {K : Type 0} → (K → (rules : Bool) → State → List ℕ) → Holding K → (rules : Bool) → State → List ℕ
more_holding more h rules w = more h.keeper rules w ++ held_text h.withheld h.waiting

-- what is said when lines begin to wait, and when they are written
abbrev pub waits_line : List ℕ
waits_line = codes "bacgw: log failed, denied messages wait\n"

abbrev pub written_line : List ℕ
written_line = codes "bacgw: log written again\n"

-- what such a keeper does, by what the keeper in it does
abbrev pub conduct_holding : {K : Type 0} → Conduct K → Conduct (Holding K)
conduct_holding conduct = record {
  Ticks = TicksHolding conduct.Ticks;
  Adopts = AdoptsHolding conduct.Adopts;
  Lasts = TicksHolding conduct.Lasts;
  troubles = λ h. conduct.troubles h.keeper;
  unkept = λ h. conduct.unkept h.keeper;
  more = more_holding conduct.more;
  tries = λ h. conduct.tries h.keeper;
  decisions = λ h. conduct.decisions h.keeper;
  losses = λ h. conduct.losses h.keeper;
}

abbrev pub holding_manner : {K : Type 0} → (Passes : K → State → Event → K → Bool → Type 0) → Conduct K → Reporting → Manner (Holding K)
holding_manner Passes conduct how = manner_by (PassesHolding Passes) (conduct_holding conduct) how

-- ---- a step

-- the stage of a gateway that runs, over this log and these calls
abbrev pub stage_of : {K Q M : Type 0} → (Q → Asking) → Configuration → Running K Q M → (log : Option (List ℕ))
    → (calls : Option (List Call))
    → Stage K
stage_of recorded c r log calls =
    stage c (moment (scene r.gateway log calls) r.keeper r.state.served r.state.tally) (recorded r.requests) r.counts r.announcing r.said
    (metered r.metrics)

-- the same gateway, whose keeper withholds what is denied while lines wait
abbrev pub holding_of : {K Q M : Type 0} → Running K Q M → Running (Holding K) Q M
holding_of r = record {
  gateway = r.gateway;
  origin = r.origin;
  keeper = unheld r.keeper;
  requests = r.requests;
  counts = r.counts;
  announcing = r.announcing;
  state = r.state;
  said = r.said;
  metrics = r.metrics;
}

-- what there is between two steps: a stage of the run, and the lines that wait for its log
pub record Hold (K : Type 0) : Type 0 where
  pub stage : Stage (Holding K)
  pub waiting : List ℕ

abbrev pub hold : {K : Type 0} → Stage (Holding K) → (waiting : List ℕ) → Hold K
hold stage waiting = record { stage = stage; waiting = waiting }

-- the stage over another log
abbrev pub over : {K : Type 0} → Stage K → Option (List ℕ) → Stage K
over s log = record s { now = record s.now { scene = scene s.now.scene.gateway log s.now.scene.calls } }

-- the stage whose keeper counts so many octets that wait, and so many events that were withheld
abbrev pub counting : {K : Type 0} → Stage (Holding K) → (waiting events : ℕ) → Stage (Holding K)
counting s waiting events = record s { now = record s.now { guard = record s.now.guard { waiting = waiting; withheld = events } } }

-- A stretch over the log, with what was done after it; one at whose last event the log failed; a stretch over what waits, with what was
-- done after it; or what waits was written to the log, in part or whole.
pub data Step : Type 0 where
  straight : (link : Link) → Step
  failed : (turns : List Turn) (event : Event) → Step
  held : (link : Link) → Step
  written : (front text : List ℕ) → Step

-- From one hold to another, over the log: nothing waits before and after, and this comes of the stage.
pub record OverLog {K : Type 0} (Comes : Stage (Holding K) → Stage (Holding K) → Type 0) (s t : Hold K) : Type 0 where
  pub none : s.waiting ≡ []
  pub still : t.waiting ≡ []
  pub after : Stage (Holding K)
  pub comes : Comes s.stage after
  pub stage : t.stage ≡ counting after 0 after.now.guard.withheld

-- Or over what waits, as over a log: the log itself stays as it is.
pub record OverWaiting {K : Type 0} (Comes : Stage (Holding K) → Stage (Holding K) → Type 0) (s t : Hold K) : Type 0 where
  pub some : ¬ (s.waiting ≡ [])
  pub after : Stage (Holding K)
  pub comes : Comes (over s.stage (Some s.waiting)) (over after (Some t.waiting))
  pub log : after.now.scene.log ≡ s.stage.now.scene.log
  pub stage : t.stage ≡ counting after (length t.waiting) after.now.guard.withheld

-- Over the log at whose last event it failed: what it lacks of the event's lines waits then. Nothing of that event was tried, and it is
-- counted as withheld.
pub record IsFailed {K : Type 0} (manner : Manner (Holding K)) (s : Hold K) (turns : List Turn) (event : Event) (t : Hold K) : Type 0 where
  pub none : s.waiting ≡ []
  pub after : Stage (Holding K)
  pub count : ℕ
  pub ends : EndsSo manner count serving.Log t.waiting s.stage after
  pub turns_are : turns ≡ ends.ends.turns
  pub event_is : event ≡ ends.ends.event
  pub stage : t.stage ≡ counting after (length t.waiting) (one_more after.now.guard.withheld)

-- The log got a front of what waited, and the rest waits. If nothing does any more, that is said.
pub record IsWritten {K : Type 0} (s : Hold K) (front text : List ℕ) (t : Hold K) : Type 0 where
  pub some : ¬ (s.waiting ≡ [])
  pub parts : s.waiting ≡ front ++ t.waiting
  pub log : Option (List ℕ)
  pub appended : Appends s.stage.now.scene.log log front
  pub stage : t.stage ≡ counting (over s.stage log) (length t.waiting) s.stage.now.guard.withheld
  pub says : text ≡ (if length t.waiting == 0 then written_line else [])

abbrev pub IsStep : {K : Type 0} → Manner (Holding K) → Hold K → Step → Hold K → Type 0
IsStep manner s (straight link) t = OverLog (λ a b. IsLink manner a link b) s t
IsStep manner s (failed turns event) t = IsFailed manner s turns event t
IsStep manner s (held link) t = OverWaiting (λ a b. IsLink manner a link b) s t
IsStep manner s (written front text) t = IsWritten s front text t

-- what a step reported
abbrev pub step_text : Step → List ℕ
step_text (straight link) = link_text link
step_text (failed turns event) = waits_line
step_text (held link) = link_text link
step_text (written front text) = text

-- what these steps lead to, one after the other
unfoldable pub AreSteps : {K : Type 0} → Manner (Holding K) → Hold K → List Step → Hold K → Type 0
AreSteps manner s [] t = t ≡ s
AreSteps {K} manner s (step ∷ steps) t = (next : Hold K) × IsStep manner s step next × AreSteps manner next steps t

-- ---- what a step sends and writes

-- the turns of a link
abbrev pub link_turns : Link → List Turn
link_turns (served turns) = turns
link_turns (ticked turns look text) = turns
link_turns (withheld turns event text) = turns
link_turns (ended turns text) = turns

-- the event of which nothing was sent after them, if there is one
abbrev pub link_last : Link → List Event
link_last (served turns) = []
link_last (ticked turns look text) = []
link_last (withheld turns event text) = event ∷ []
link_last (ended turns text) = []

-- the turns of a step
abbrev pub step_turns : Step → List Turn
step_turns (straight link) = link_turns link
step_turns (failed turns event) = turns
step_turns (held link) = link_turns link
step_turns (written front text) = []

abbrev pub step_last : Step → List Event
step_last (straight link) = link_last link
step_last (failed turns event) = event ∷ []
step_last (held link) = link_last link
step_last (written front text) = []

-- The wire's last calls in a step: nothing; the arrival of an event of which nothing was tried; or announcements.
abbrev pub AreLastCalls : State → (last : List Event) → (calls calls_then : Option (List Call)) → Type 0
AreLastCalls w [] calls calls_then =
    (calls_then ≡ calls) ⊎ ((due due_then : Announcing) × Announces due w calls due_then calls_then)
AreLastCalls w (event ∷ events) calls calls_then = Records calls calls_then (arrival event ∷ [])

-- In a step the datagrams of the events of its turns were tried, and else those that are announced; and the log got all lines of these
-- events in it, before whatever else it got.
pub record SendsLogged {K : Type 0} (s : Hold K) (step : Step) (t : Hold K) : Type 0 where
  pub each : AreTurns s.stage.now.scene.gateway (step_turns step)
  pub calls : Option (List Call)
  pub recorded : Records s.stage.now.scene.calls calls (calls_of (step_turns step))
  pub last : AreLastCalls t.stage.now.scene.gateway (step_last step) calls t.stage.now.scene.calls
  pub more : List ℕ
  pub logged : Appends s.stage.now.scene.log t.stage.now.scene.log
      (log_of (run_from s.stage.now.scene.gateway (events_of (step_turns step))) ++ more)

-- Nothing of an event is sent before its lines are in the log, also if that failed before.
abbrev pub StepsLogFirst : {K : Type 0} → Manner (Holding K) → Type 0
StepsLogFirst {K} manner = (s t : Hold K) (step : Step) → s.stage.now.guard.waiting ≡ length s.waiting → IsStep manner s step t →
    SendsLogged s step t × (t.stage.now.guard.waiting ≡ length t.waiting)

-- the events that were taken in a step
abbrev pub step_events : Step → List Event
step_events step = events_of (step_turns step) ++ step_last step

-- In a step the log, with what waits for it, gets exactly the lines of the events that were taken in it, in order: nothing is lost,
-- and nothing comes twice.
abbrev pub StepsLoseNothing : {K : Type 0} → Manner (Holding K) → Type 0
StepsLoseNothing {K} manner = (s t : Hold K) (step : Step) → IsStep manner s step t →
    Appends (append_known s.stage.now.scene.log s.waiting) (append_known t.stage.now.scene.log t.waiting)
    (log_of (run_from s.stage.now.scene.gateway (step_events step)))

-- So it is over steps, one after the other, if what waits was counted at first.
unfoldable pub AreLogged : {K : Type 0} → Manner (Holding K) → Hold K → List Step → Hold K → Type 0
AreLogged manner s [] t = t ≡ s
AreLogged {K} manner s (step ∷ steps) t =
    (next : Hold K) × IsStep manner s step next × SendsLogged s step next × AreLogged manner next steps t

abbrev pub ChainsLogFirst : {K : Type 0} → Manner (Holding K) → Type 0
ChainsLogFirst {K} manner = (s t : Hold K) (steps : List Step) → s.stage.now.guard.waiting ≡ length s.waiting → AreSteps manner s steps t →
    AreLogged manner s steps t

-- the lines of the denials of steps, one after the other, each in the state in which those before it left the gateway
unfoldable pub AreLinesOf : {K : Type 0} → Manner (Holding K) → Hold K → List Step → Hold K → (lines : List ℕ) → Type 0
AreLinesOf manner s [] t lines = (t ≡ s) × (lines ≡ [])
AreLinesOf {K} manner s (step ∷ steps) t lines =
    (next : Hold K) × IsStep manner s step next × (rest : List ℕ) × AreLinesOf manner next steps t rest
    × (lines ≡ log_of (run_from s.stage.now.scene.gateway (step_events step)) ++ rest)

-- The log, with what waits for it, gets exactly these.
abbrev pub ChainsLoseNothing : {K : Type 0} → Manner (Holding K) → Type 0
ChainsLoseNothing {K} manner = (s t : Hold K) (steps : List Step) → AreSteps manner s steps t → (lines : List ℕ)
    × AreLinesOf manner s steps t lines
    × Appends (append_known s.stage.now.scene.log s.waiting) (append_known t.stage.now.scene.log t.waiting) lines

-- ---- a run

-- what steps reported
abbrev pub steps_text : List Step → List ℕ
steps_text steps = flat_map step_text steps

-- How serving ended with its last stretch: it had all its turns; at a tick it was asked to stop, or the log couldn't be made to last; or
-- the last event ended in a fault. Over the log, or over what waits.
abbrev pub Over : {K : Type 0} → (Stage (Holding K) → Stage (Holding K) → Type 0) → Hold K → Hold K → Type 0
Over Comes s t = OverLog Comes s t ⊎ OverWaiting Comes s t

abbrev pub EndsHolding : {K : Type 0} → Manner (Holding K) → Result RunEnd ServeFault → Hold K → (text : List ℕ) → Hold K → Type 0
EndsHolding manner (Ok end.Turns) s text t = (t ≡ s) × (text ≡ [])
EndsHolding manner (Ok end.Stopped) s text t = Over (λ a b. (turns : List Turn) × IsTicked manner true a turns stopping text b) s t
EndsHolding manner (Ok end.Unsynced) s text t = Over (λ a b. (turns : List Turn) × IsServed manner a turns b) s t × (text ≡ [])
EndsHolding manner (Err fault) s text t =
    Over (λ a b. (count : ℕ) × (unwritten : List ℕ) × EndsSo manner count fault unwritten a b) s t × (text ≡ [])

-- the log failed
abbrev pub has_log_failed : Result (Option RunEnd) ServeFault → Bool
has_log_failed (Ok how) = false
has_log_failed (Err serving.Log) = true
has_log_failed (Err serving.Memory) = false
has_log_failed (Err serving.CountEnd) = false

-- serving goes on
abbrev pub goes_on : Result (Option RunEnd) ServeFault → Bool
goes_on (Ok None) = true
goes_on (Ok (Some how)) = false
goes_on (Err fault) = false

-- what comes of a stretch and of what is done after it, by its answer: steps, or serving ended so
abbrev pub GoesTo : {K : Type 0} → Manner (Holding K) → Hold K → Result (Option RunEnd) ServeFault → (text : List ℕ) → Hold K → Type 0
GoesTo manner s (Ok None) text t = (steps : List Step) × AreSteps manner s steps t × (text ≡ steps_text steps)
GoesTo manner s (Ok (Some end.Turns)) text t = ⊥
GoesTo manner s (Ok (Some end.Stopped)) text t = EndsHolding manner (Ok end.Stopped) s text t
GoesTo manner s (Ok (Some end.Unsynced)) text t = EndsHolding manner (Ok end.Unsynced) s text t
GoesTo manner s (Err fault) text t = EndsHolding manner (Err fault) s text t

-- what waits, if something does, was tried to be written
abbrev pub Finishes : {K : Type 0} → Hold K → (text : List ℕ) → Hold K → Type 0
Finishes s text t = ((s.waiting ≡ []) × (t ≡ s) × (text ≡ [])) ⊎ ((front : List ℕ) × IsWritten s front text t)

-- Steps lead to where the last stretch ends serving, after so many turns if it had them all.
pub record ServesHolding {K : Type 0} (manner : Manner (Holding K)) (count : ℕ) (first : Hold K) (how : Result RunEnd ServeFault)
    (text : List ℕ)
    (last : Hold K) : Type 0 where
  pub steps : List Step
  pub after : Hold K
  pub chain : AreSteps manner first steps after
  pub end_text : List ℕ
  pub ends : EndsHolding manner how after end_text last
  pub all : how ≡ Ok end.Turns → after.stage.now.served.turns ≡ first.stage.now.served.turns + count
  pub says : text ≡ steps_text steps ++ end_text

-- If the log lacks something at the end, that is why the run ended.
abbrev pub answer_by : (has_all : Bool) → Result RunEnd ServeFault → Result RunEnd ServeFault
answer_by true how = how
answer_by false how = Err serving.Log

abbrev pub answer_holding : (waiting : List ℕ) → Result RunEnd ServeFault → Result RunEnd ServeFault
answer_holding waiting how = answer_by (length waiting == 0) how

-- So a run is served that may hold, and at the end what waits is tried to be written once more.
pub record RunsHolding {K : Type 0} (manner : Manner (Holding K)) (count : ℕ) (first : Hold K) (answer : Result RunEnd ServeFault)
    (text : List ℕ)
    (last : Hold K) : Type 0 where
  pub how : Result RunEnd ServeFault
  pub served_text : List ℕ
  pub middle : Hold K
  pub serves : ServesHolding manner count first how served_text middle
  pub last_text : List ℕ
  pub finishes : Finishes middle last_text last
  pub answers : answer ≡ answer_holding last.waiting how
  pub says : text ≡ served_text ++ last_text
