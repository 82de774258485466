-- A run under one keeper is one under a part of it that does and says the same, as long as something holds of the keeper.
use Rattle.std.proofs.Common.{◌≡◌, ◌∙◌, ℕ, List, [], ◌∷◌, ◌++◌, Bool, true, false, refl, sym, ap, ap₂, subst, inl, inr, Option, Some}
use Rattle.std.specs.Prelude.{◌⊎◌, Result, Ok, Err}
use Rattle.gw_configuration.specs.Configuration.{Configuration}
use Rattle.gw_core.specs.History.{state_from}
use Rattle.gw_core.specs.State.{State}
use Rattle.gw_core.specs.declared.event.Counts.{Counts}
use Rattle.gw_script.specs.Event.{Event}
use Rattle.gw_script.specs.Event as event
use Rattle.gw_turns.specs.Serve.{Turn, empty_turn, failed_turn, lost_event, taken_event, turn_events}
use Rattle.gw_turns.specs.Stretch.{AreGuarded, GoOn, GuardsTurn, IsPassedAt, Moment, moment}
use Rattle.gw_turns.specs.declared.announcing.Announcing.{Announcing}
use Rattle.gw_turns.specs.declared.serving.ServeFault.{ServeFault}
use Rattle.gw_turns.specs.declared.serving.ServeFault.TheVariants as fault
use Rattle.gw_turns.specs.declared.serving.Served.{Served}
use Rattle.gw_turns.specs.declared.tally.DropTally.{DropTally}
use Rattle.gw_notices.specs.Notices.{metrics_notice, no_troubles, notice_of}
use Rattle.gw_notices.specs.declared.reload.ReloadCounts.{ReloadCounts}
use Rattle.gw_notices.specs.declared.troubles.Troubles.{Troubles}
use Rattle.gw_notices.specs.metrics.Writing.{Metering}
use Rattle.gw_service.specs.Chain.{AreLinks, Begins, EndsSo, IsLink, IsLooked, IsServed, IsStatusIn, IsTicked, Link, Look, Manner, Runs, Stage, Standing, Stays, look_text, stage, standing, standing_at}
use Rattle.gw_service.specs.Chain.{ended, inquired, passed_over, refused, served, stopping, taken_over, ticked, unrequested, withheld}
use Rattle.gw_service.specs.Holding.{AreSteps, EndsHolding, Finishes, Hold, IsStep, IsWritten, Over, OverLog, OverWaiting, RunsHolding, ServesHolding, Step, hold, over}
use Rattle.gw_service.specs.Holding as step
use Rattle.gw_service.specs.Kept.{AnswersStop, EndsRun, Rest, RunsFrom, RunsFromHolding, rest, stop_text}
use Rattle.gw_service.specs.Metering.{failing_by, lost_by}
use Rattle.gw_service.specs.Serving.{Ends}
use Rattle.gw_service.specs.declared.holding.Holding.{Holding}
use Rattle.gw_service.specs.declared.running.RunEnd.{RunEnd}
use Rattle.gw_service.specs.declared.running.RunEnd.TheVariants as end

-- What one manner does with a keeper, another one does with a part of it, as long as this holds of the keeper; and it says the same.
pub record Follows {K J : Type 0} (Holds : K → Type 0) (part : K → J) (M : Manner K) (N : Manner J) : Type 0 where
  pub passes : (k l : K) (w : State) (event : Event) (passes : Bool) → Holds k → M.Passes k w event l passes
      → N.Passes (part k) w event (part l) passes × Holds l
  pub ticks : (k l : K) (w : State) → Holds k → M.Ticks k w l → N.Ticks (part k) w (part l) × Holds l
  pub adopts : (k l : K) (c : Configuration) (w : State) → Holds k → M.Adopts k c w l → N.Adopts (part k) c w (part l) × Holds l
  pub lasts : (k l : K) (w : State) → Holds k → M.Lasts k w l → N.Lasts (part k) w (part l) × Holds l
  pub troubles : (k : K) → Holds k → M.troubles k ≡ N.troubles (part k)
  pub report : (k : K) → Holds k → (u : ReloadCounts) (a : Announcing) (m : Option ℕ) (w : State) (s : Served) (t : DropTally)
      → M.report k u a m w s t ≡ N.report (part k) u a m w s t
  pub status : (k : K) → Holds k → (u : ReloadCounts) (a : Announcing) (m : Option ℕ) (w : State) (s : Served) (t : DropTally)
      → M.status k u a m w s t ≡ N.status (part k) u a m w s t
  pub meters : (w : State) (s : Served) (t : DropTally) (before after : Option Metering) → M.Meters w s t before after
      → N.Meters w s t before after

abbrev pub moment_by : {K J : Type 0} → (K → J) → Moment K → Moment J
moment_by part m = moment m.scene (part m.guard) m.served m.tally

abbrev pub stage_by : {K J : Type 0} → (K → J) → Stage K → Stage J
stage_by part s = stage s.config (moment_by part s.now) s.requests s.counts s.announcing s.said s.metrics

abbrev pub standing_by : {K J : Type 0} → (K → J) → Standing K → Standing J
standing_by part s = standing s.gateway (part s.keeper) s.requests s.counts s.announcing

module _ {K J : Type 0} (Holds : K → Type 0) (part : K → J) (M : Manner K) (N : Manner J) (follows : Follows Holds part M N) where
  -- ---- turns

  goes_turn : (g h : K) (w : State) (turn : Turn) → Holds g → GuardsTurn M.Passes g w turn h
      → GuardsTurn N.Passes (part g) w turn (part h) × Holds h
  goes_turn g h w empty_turn i p = (ap part p, subst Holds (sym p) i)
  goes_turn g h w failed_turn i p = (ap part p, subst Holds (sym p) i)
  goes_turn g h w (lost_event event) i p = (ap part p, subst Holds (sym p) i)
  goes_turn g h w (taken_event event tries) i p = follows.passes g h w event true i p

  goes_turns : (g h : K) (w : State) (turns : List Turn) → Holds g → AreGuarded M.Passes g w turns h
      → AreGuarded N.Passes (part g) w turns (part h) × Holds h
  unfolding AreGuarded
  goes_turns g h w [] i p = (ap part p, subst Holds (sym p) i)
  goes_turns g h w (turn ∷ turns) i p =
      let first = goes_turn g p.0 w turn i p.1 in
      let later = goes_turns p.0 h (state_from w (turn_events turn)) turns first.1 p.2 in
      ((part p.0, first.0, later.0), later.1)

  goes_on : (before after : Moment K) (turns : List Turn) → Holds before.guard → GoOn M.Passes before turns after
      → GoOn N.Passes (moment_by part before) turns (moment_by part after) × Holds after.guard
  goes_on before after turns i p =
      let guarded = goes_turns before.guard after.guard before.scene.gateway turns i p.guarded in
      (record { went = p.went; guarded = guarded.0; counts = p.counts; tally = p.tally }, guarded.1)

  -- what is done about the last event, if that ended in a fault
  goes_at : (fault : ServeFault) (g h : K) (w : State) (event : Event) → Holds g → IsPassedAt M.Passes fault g w event h
      → IsPassedAt N.Passes fault (part g) w event (part h) × Holds h
  goes_at fault.Log g h w event i p =
      let passed = follows.passes g h w event p.0 i p.1 in
      ((p.0, passed.0), passed.1)
  goes_at fault.Memory g h w event i p = (ap part p, subst Holds (sym p) i)
  goes_at fault.CountEnd g h w event i p = (ap part p, subst Holds (sym p) i)

  -- ---- a look

  stays : (c d : Configuration) (s t : Standing K) → Stays c s d t → Stays c (standing_by part s) d (standing_by part t)
  stays c d s t p = record { config = p.config; gateway = p.gateway; keeper = ap part p.keeper; announcing = p.announcing }

  looks : (c d : Configuration) (s t : Standing K) (look : Look) → Holds s.keeper → IsLooked M.Adopts c s look d t
      → IsLooked N.Adopts c (standing_by part s) look d (standing_by part t) × Holds t.keeper
  looks c d s t unrequested i p = (
    record { stays = stays c d s t p.stays; requests = p.requests; counts = p.counts },
    subst Holds (sym p.stays.keeper) i,
  )
  looks c d s t passed_over i p = (
    record { stays = stays c d s t p.stays; requests = p.requests; counts = p.counts },
    subst Holds (sym p.stays.keeper) i,
  )
  looks c d s t stopping i p = (
    record { stays = stays c d s t p.stays; requests = p.requests; counts = p.counts },
    subst Holds (sym p.stays.keeper) i,
  )
  looks c d s t (inquired answer) i p = (
    record { stays = stays c d s t p.stays; requests = p.requests; counts = p.counts },
    subst Holds (sym p.stays.keeper) i,
  )
  looks c d s t (refused read fault line) i p = (
    record { why = p.why; says = p.says; stays = stays c d s t p.stays; requests = p.requests; counts = p.counts },
    subst Holds (sym p.stays.keeper) i,
  )
  looks c d s t (taken_over text new) i p =
      let adopted = follows.adopts s.keeper t.keeper new t.gateway i p.keeper in (
        record {
          config = p.config;
          reads = p.reads;
          ports = p.ports;
          gateway = p.gateway;
          keeper = adopted.0;
          requests = p.requests;
          counts = p.counts;
          announcing = p.announcing;
        },
        adopted.1,
      )

  says : (c : Configuration) (s : Standing K) (look : Look) → look_text c s look ≡ look_text c (standing_by part s) look
  says c s unrequested = refl
  says c s passed_over = refl
  says c s stopping = refl
  says c s (inquired answer) = refl
  says c s (refused read fault line) = refl
  says c s (taken_over text new) = refl

  -- ---- a link

  ticks_so : (stops : Bool) (s t : Stage K) (turns : List Turn) (look : Look) (text : List ℕ) → Holds s.now.guard
      → IsTicked M stops s turns look text t
      → IsTicked N stops (stage_by part s) turns look text (stage_by part t) × Holds t.now.guard
  ticks_so stops s t turns look text i is =
      let went = goes_on s.now is.then turns i is.went in
      let kept = follows.ticks is.then.guard is.done.keeper is.then.scene.gateway went.1 is.done.ticks in
      let looked = looks s.config t.config (standing is.then.scene.gateway is.done.keeper s.requests s.counts s.announcing)
      (standing_at t.now t.requests t.counts is.due) look kept.1 is.done.looked in
      let now = looked.1 in (
        record {
          is = is.is;
          before = is.before;
          tries = is.tries;
          tick = is.tick;
          then = moment_by part is.then;
          went = went.0;
          ticks = is.ticks;
          due = is.due;
          done = record { keeper = part is.done.keeper; ticks = kept.0; looked = looked.0 };
          status = subst (λ (report : List ℕ). IsStatusIn report look)
              (follows.status t.now.guard now t.counts is.due (lost_by s.metrics) t.now.scene.gateway t.now.served t.now.tally) is.status;
          announced = is.announced;
          rest = record { log = is.rest.log; served = is.rest.served; tally = is.rest.tally };
          said = is.said ∙ follows.troubles t.now.guard now;
          metrics = follows.meters t.now.scene.gateway t.now.served t.now.tally s.metrics t.metrics is.metrics;
          lines = is.lines ∙ ap₂ (λ (x y : List ℕ). ((x ++ notice_of s.said t.said) ++ y) ++ metrics_notice (failing_by s.metrics) (failing_by t.metrics))
              (says s.config (standing_at is.then s.requests s.counts s.announcing) look)
              (follows.report t.now.guard now t.counts t.announcing (lost_by s.metrics) t.now.scene.gateway t.now.served t.now.tally);
        },
        now,
      )

  serves_so : (s t : Stage K) (turns : List Turn) → Holds s.now.guard → IsServed M s turns t
      → IsServed N (stage_by part s) turns (stage_by part t) × Holds t.now.guard
  serves_so s t turns i is =
      let went = goes_on s.now t.now turns i is.went in (
        record {
          went = went.0;
          config = is.config;
          requests = is.requests;
          counts = is.counts;
          announcing = is.announcing;
          said = is.said;
          metrics = is.metrics;
        },
        went.1,
      )

  links_so : (s t : Stage K) (link : Link) → Holds s.now.guard → IsLink M s link t
      → IsLink N (stage_by part s) link (stage_by part t) × Holds t.now.guard
  links_so s t (served turns) i is = serves_so s t turns i is
  links_so s t (ticked turns look text) i is = ticks_so false s t turns look text i is
  links_so s t (withheld turns event text) i is =
      let went = goes_on s.now is.then turns i is.went in
      let passed = follows.passes is.then.guard t.now.guard is.then.scene.gateway event false went.1 is.last.passes in (
        record {
          then = moment_by part is.then;
          went = went.0;
          last = record { logged = is.last.logged; passes = passed.0; counts = is.last.counts; tally = is.last.tally };
          config = is.config;
          requests = is.requests;
          counts = is.counts;
          announcing = is.announcing;
          metrics = is.metrics;
          said = is.said ∙ follows.troubles t.now.guard passed.1;
          lines = is.lines;
        },
        passed.1,
      )
  links_so s t (ended turns text) i is = absurd is

  chains_so : (s t : Stage K) (links : List Link) → Holds s.now.guard → AreLinks M s links t
      → AreLinks N (stage_by part s) links (stage_by part t) × Holds t.now.guard
  unfolding AreLinks
  chains_so s t [] i chain = (ap (stage_by part) chain, subst (λ (u : Stage K). Holds u.now.guard) (sym chain) i)
  chains_so s t (link ∷ links) i chain =
      let first = links_so s chain.0 link i chain.1 in
      let later = chains_so chain.0 t links first.1 chain.2 in
      ((stage_by part chain.0, first.0, later.0), later.1)

  -- ---- a run

  abbrev faulty_so : (count : ℕ) (fault : ServeFault) (unwritten : List ℕ) (s t : Stage K) → Holds s.now.guard
      → EndsSo M count fault unwritten s t → EndsSo N count fault unwritten (stage_by part s) (stage_by part t) × Holds t.now.guard
  faulty_so count fault unwritten s t i is =
      let end = is.ends in
      let went = goes_on s.now end.then end.turns i end.went in
      let passed = goes_at fault end.then.guard t.now.guard end.then.scene.gateway end.event went.1 end.last.guard in (
        record {
          ends = record {
            turns = end.turns;
            fewer = end.fewer;
            then = moment_by part end.then;
            went = went.0;
            event = end.event;
            last = record { last = end.last.last; guard = passed.0; counts = end.last.counts; tally = end.last.tally };
          };
          config = is.config;
          requests = is.requests;
          counts = is.counts;
          announcing = is.announcing;
          said = is.said;
          metrics = is.metrics;
        },
        passed.1,
      )

  runs_so : (count : ℕ) (s t : Stage K) (answer : Result RunEnd ServeFault) (links : List Link) → Holds s.now.guard
      → Runs M count s answer links t → Runs N count (stage_by part s) answer links (stage_by part t) × Holds t.now.guard
  runs_so count s t (Ok end.Turns) links i runs =
      let chain = chains_so s t links i runs.chain in (record { chain = chain.0; turns = runs.turns }, chain.1)
  runs_so count s t (Ok end.Stopped) links i runs =
      let chain = chains_so s runs.then runs.before i runs.chain in
      let last = ticks_so true runs.then t runs.turns stopping runs.text chain.1 runs.stops in (
        record {
          then = stage_by part runs.then;
          before = runs.before;
          chain = chain.0;
          turns = runs.turns;
          text = runs.text;
          stops = last.0;
          is = runs.is;
        },
        last.1,
      )
  runs_so count s t (Ok end.Unsynced) links i runs =
      let chain = chains_so s runs.then runs.before i runs.chain in
      let goes = serves_so runs.then t (runs.turns ++ taken_event event.Tick runs.tries ∷ []) chain.1 runs.goes in (
        record {
          then = stage_by part runs.then;
          before = runs.before;
          chain = chain.0;
          turns = runs.turns;
          tries = runs.tries;
          goes = goes.0;
          is = runs.is;
          most = runs.most;
        },
        goes.1,
      )
  runs_so count s t (Err fault) links i runs =
      let chain = chains_so s runs.then links i runs.chain in
      let ends = faulty_so runs.left fault runs.unwritten runs.then t chain.1 runs.ends in (
        record {
          then = stage_by part runs.then;
          chain = chain.0;
          left = runs.left;
          most = runs.most;
          unwritten = runs.unwritten;
          ends = ends.0;
        },
        ends.1,
      )

  -- ---- its begin and its end

  begins_so : (s t : Stage K) → Begins s t → Begins (stage_by part s) (stage_by part t)
  begins_so s t begins = record { announced = begins.announced; is = ap (stage_by part) begins.is }

  begun_holds : (s t : Stage K) → Begins s t → Holds s.now.guard → Holds t.now.guard
  begun_holds s t begins i = subst (λ (u : Stage K). Holds u.now.guard) (sym begins.is) i

  module _ (report : K → ReloadCounts → Announcing → Option ℕ → State → Served → DropTally → List ℕ)
      (other : J → ReloadCounts → Announcing → Option ℕ → State → Served → DropTally → List ℕ)
      (reports : (k : K) → Holds k → (u : ReloadCounts) (a : Announcing) (m : Option ℕ) (w : State) (s : Served) (t : DropTally)
      → report k u a m w s t ≡ other (part k) u a m w s t) where
    ends_so : (start : Counts) (answer : Result RunEnd ServeFault) (last : Stage K) (left : Rest K) (text : List ℕ) → Holds last.now.guard
        → EndsRun M report start answer last left text
        → EndsRun N other start answer (stage_by part last) (rest (part left.keeper) left.requests) text
    ends_so start answer last left text i is =
        let kept = follows.lasts last.now.guard left.keeper last.now.scene.gateway i is.keeps in
        let troubles = follows.troubles left.keeper kept.1 in
        record {
          keeps = kept.0;
          metrics = is.metrics;
          put = is.put;
          answers = subst (λ (x : Troubles). AnswersStop answer x.state last.requests left.requests) troubles is.answers;
          said = is.said ∙ ap₂ (λ (x : List ℕ) (y : Troubles). x ++ stop_text answer y.state)
              (reports left.keeper kept.1 last.counts last.announcing (lost_by is.metrics) last.now.scene.gateway last.now.served last.now.tally)
              troubles;
        }

    pub runs_from_so : (start : Counts) (turns : ℕ) (first : Stage K) (answer : Result RunEnd ServeFault) (after : Ends) (left : Rest K)
        (text : List ℕ) → Holds first.now.guard → RunsFrom M report start turns first answer after left text
        → RunsFrom N other start turns (stage_by part first) answer after (rest (part left.keeper) left.requests) text
    runs_from_so start turns first answer after left text i is =
        let runs = runs_so turns is.begun is.last answer is.links (begun_holds first is.begun is.begins i) is.runs in
        record {
          begun = stage_by part is.begun;
          begins = begins_so first is.begun is.begins;
          links = is.links;
          last = stage_by part is.last;
          runs = runs.0;
          log = is.log;
          calls = is.calls;
          end_text = is.end_text;
          ends = ends_so start answer is.last left is.end_text runs.1 is.ends;
          said = is.said;
        }

-- ---- a run that goes on if its log fails

-- what withholds beside a part of a keeper
abbrev pub held_by : {K J : Type 0} → (K → J) → Holding K → Holding J
held_by part h = record { keeper = part h.keeper; waiting = h.waiting; withheld = h.withheld }

abbrev pub hold_by : {K J : Type 0} → (K → J) → Hold K → Hold J
hold_by part s = hold (stage_by (held_by part) s.stage) s.waiting

module _ {K J : Type 0} (Holds : K → Type 0) (part : K → J) (M : Manner (Holding K)) (N : Manner (Holding J))
    (follows : Follows (λ h. Holds h.keeper) (held_by part) M N) where
  abbrev held : Holding K → Type 0
  held h = Holds h.keeper

  abbrev on : Stage (Holding K) → Stage (Holding J)
  on s = stage_by (held_by part) s

  -- ---- a step

  abbrev Leads : (Comes : Stage (Holding K) → Stage (Holding K) → Type 0) (Other : Stage (Holding J) → Stage (Holding J) → Type 0) → Type 0
  Leads Comes Other = (a b : Stage (Holding K)) → Holds a.now.guard.keeper → Comes a b → Other (on a) (on b) × Holds b.now.guard.keeper

  over_log : (Comes : Stage (Holding K) → Stage (Holding K) → Type 0) (Other : Stage (Holding J) → Stage (Holding J) → Type 0)
      → Leads Comes Other → (s t : Hold K) → Holds s.stage.now.guard.keeper → OverLog Comes s t
      → OverLog Other (hold_by part s) (hold_by part t) × Holds t.stage.now.guard.keeper
  over_log Comes Other leads s t i is =
      let comes = leads s.stage is.after i is.comes in (
        record { none = is.none; still = is.still; after = on is.after; comes = comes.0; stage = ap on is.stage },
        subst (λ (u : Stage (Holding K)). Holds u.now.guard.keeper) (sym is.stage) comes.1,
      )

  over_waiting : (Comes : Stage (Holding K) → Stage (Holding K) → Type 0) (Other : Stage (Holding J) → Stage (Holding J) → Type 0)
      → Leads Comes Other → (s t : Hold K) → Holds s.stage.now.guard.keeper → OverWaiting Comes s t
      → OverWaiting Other (hold_by part s) (hold_by part t) × Holds t.stage.now.guard.keeper
  over_waiting Comes Other leads s t i is =
      let comes = leads (over s.stage (Some s.waiting)) (over is.after (Some t.waiting)) i is.comes in (
        record { some = is.some; after = on is.after; comes = comes.0; log = is.log; stage = ap on is.stage },
        subst (λ (u : Stage (Holding K)). Holds u.now.guard.keeper) (sym is.stage) comes.1,
      )

  over_so : (Comes : Stage (Holding K) → Stage (Holding K) → Type 0) (Other : Stage (Holding J) → Stage (Holding J) → Type 0)
      → Leads Comes Other → (s t : Hold K) → Holds s.stage.now.guard.keeper → Over Comes s t
      → Over Other (hold_by part s) (hold_by part t) × Holds t.stage.now.guard.keeper
  over_so Comes Other leads s t i (inl is) =
      let so = over_log Comes Other leads s t i is in (inl so.0, so.1)
  over_so Comes Other leads s t i (inr is) =
      let so = over_waiting Comes Other leads s t i is in (inr so.0, so.1)

  written_so : (s t : Hold K) (front text : List ℕ) → Holds s.stage.now.guard.keeper → IsWritten s front text t
      → IsWritten (hold_by part s) front text (hold_by part t) × Holds t.stage.now.guard.keeper
  written_so s t front text i is = (
    record { some = is.some; parts = is.parts; log = is.log; appended = is.appended; stage = ap on is.stage; says = is.says },
    subst (λ (u : Stage (Holding K)). Holds u.now.guard.keeper) (sym is.stage) i,
  )

  step_so : (s t : Hold K) (step : Step) → Holds s.stage.now.guard.keeper → IsStep M s step t
      → IsStep N (hold_by part s) step (hold_by part t) × Holds t.stage.now.guard.keeper
  step_so s t (step.straight link) i is =
      over_log (λ a b. IsLink M a link b) (λ a b. IsLink N a link b) (λ a b. links_so held (held_by part) M N follows a b link) s t i is
  step_so s t (step.failed turns event) i is =
      let ends = faulty_so held (held_by part) M N follows is.count fault.Log t.waiting s.stage is.after i is.ends in (
        record {
          none = is.none;
          after = on is.after;
          count = is.count;
          ends = ends.0;
          turns_are = is.turns_are;
          event_is = is.event_is;
          stage = ap on is.stage;
        },
        subst (λ (u : Stage (Holding K)). Holds u.now.guard.keeper) (sym is.stage) ends.1,
      )
  step_so s t (step.held link) i is =
      over_waiting (λ a b. IsLink M a link b) (λ a b. IsLink N a link b) (λ a b. links_so held (held_by part) M N follows a b link) s t i is
  step_so s t (step.written front text) i is = written_so s t front text i is

  steps_so : (s t : Hold K) (steps : List Step) → Holds s.stage.now.guard.keeper → AreSteps M s steps t
      → AreSteps N (hold_by part s) steps (hold_by part t) × Holds t.stage.now.guard.keeper
  unfolding AreSteps
  steps_so s t [] i chain = (ap (hold_by part) chain, subst (λ (u : Hold K). Holds u.stage.now.guard.keeper) (sym chain) i)
  steps_so s t (step ∷ steps) i chain =
      let first = step_so s chain.0 step i chain.1 in
      let later = steps_so chain.0 t steps first.1 chain.2 in
      ((hold_by part chain.0, first.0, later.0), later.1)

  -- ---- a run

  last_so : (how : Result RunEnd ServeFault) (s t : Hold K) (text : List ℕ) → Holds s.stage.now.guard.keeper → EndsHolding M how s text t
      → EndsHolding N how (hold_by part s) text (hold_by part t) × Holds t.stage.now.guard.keeper
  last_so (Ok end.Turns) s t text i is =
      ((ap (hold_by part) is.0, is.1), subst (λ (u : Hold K). Holds u.stage.now.guard.keeper) (sym is.0) i)
  last_so (Ok end.Stopped) s t text i is =
      over_so (λ a b. (turns : List Turn) × IsTicked M true a turns stopping text b)
      (λ a b. (turns : List Turn) × IsTicked N true a turns stopping text b)
      (λ a b at p.
      let so = ticks_so held (held_by part) M N follows true a b p.0 stopping text at p.1 in
      ((p.0, so.0), so.1)) s t i is
  last_so (Ok end.Unsynced) s t text i is =
      let so = over_so (λ a b. (turns : List Turn) × IsServed M a turns b) (λ a b. (turns : List Turn) × IsServed N a turns b)
      (λ a b at p.
      let so = serves_so held (held_by part) M N follows a b p.0 at p.1 in
      ((p.0, so.0), so.1)) s t i is.0 in
      ((so.0, is.1), so.1)
  last_so (Err fault) s t text i is =
      let so = over_so (λ a b. (count : ℕ) × (unwritten : List ℕ) × EndsSo M count fault unwritten a b)
      (λ a b. (count : ℕ) × (unwritten : List ℕ) × EndsSo N count fault unwritten a b)
      (λ a b at p.
      let so = faulty_so held (held_by part) M N follows p.0 fault p.1 a b at p.2 in
      ((p.0, p.1, so.0), so.1)) s t i is.0 in
      ((so.0, is.1), so.1)

  serves_holding_so : (count : ℕ) (s t : Hold K) (how : Result RunEnd ServeFault) (text : List ℕ) → Holds s.stage.now.guard.keeper
      → ServesHolding M count s how text t → ServesHolding N count (hold_by part s) how text (hold_by part t) × Holds t.stage.now.guard.keeper
  serves_holding_so count s t how text i is =
      let chain = steps_so s is.after is.steps i is.chain in
      let ends = last_so how is.after t is.end_text chain.1 is.ends in (
        record {
          steps = is.steps;
          after = hold_by part is.after;
          chain = chain.0;
          end_text = is.end_text;
          ends = ends.0;
          all = is.all;
          says = is.says;
        },
        ends.1,
      )

  finishes_so : (s t : Hold K) (text : List ℕ) → Holds s.stage.now.guard.keeper → Finishes s text t
      → Finishes (hold_by part s) text (hold_by part t) × Holds t.stage.now.guard.keeper
  finishes_so s t text i (inl is) = (
    inl (is.0, ap (hold_by part) is.1, is.2),
    subst (λ (u : Hold K). Holds u.stage.now.guard.keeper) (sym is.1) i,
  )
  finishes_so s t text i (inr is) =
      let so = written_so s t is.0 text i is.1 in (inr (is.0, so.0), so.1)

  runs_holding_so : (count : ℕ) (s t : Hold K) (answer : Result RunEnd ServeFault) (text : List ℕ) → Holds s.stage.now.guard.keeper
      → RunsHolding M count s answer text t → RunsHolding N count (hold_by part s) answer text (hold_by part t) × Holds t.stage.now.guard.keeper
  runs_holding_so count s t answer text i is =
      let serves = serves_holding_so count s is.middle is.how is.served_text i is.serves in
      let finishes = finishes_so is.middle t is.last_text serves.1 is.finishes in (
        record {
          how = is.how;
          served_text = is.served_text;
          middle = hold_by part is.middle;
          serves = serves.0;
          last_text = is.last_text;
          finishes = finishes.0;
          answers = is.answers;
          says = is.says;
        },
        finishes.1,
      )

  pub runs_from_holding_so : (report : Holding K → ReloadCounts → Announcing → Option ℕ → State → Served → DropTally → List ℕ)
      (other : Holding J → ReloadCounts → Announcing → Option ℕ → State → Served → DropTally → List ℕ)
      → ((h : Holding K) → Holds h.keeper → (u : ReloadCounts) (a : Announcing) (m : Option ℕ) (w : State) (s : Served) (t : DropTally)
      → report h u a m w s t ≡ other (held_by part h) u a m w s t)
      → (start : Counts) (turns : ℕ) (first : Stage (Holding K)) (answer : Result RunEnd ServeFault) (after : Ends) (left : Rest (Holding K))
      (text : List ℕ) → Holds first.now.guard.keeper → RunsFromHolding M report start turns first answer after left text
      → RunsFromHolding N other start turns (on first) answer after (rest (held_by part left.keeper) left.requests) text
  runs_from_holding_so report other reports start turns first answer after left text i is =
      let runs = runs_holding_so turns (hold is.begun []) is.last answer is.run_text
      (begun_holds held (held_by part) M N follows first is.begun is.begins i) is.runs in
      record {
        begun = on is.begun;
        begins = begins_so held (held_by part) M N follows first is.begun is.begins;
        last = hold_by part is.last;
        run_text = is.run_text;
        runs = runs.0;
        log = is.log;
        calls = is.calls;
        end_text = is.end_text;
        ends = ends_so held (held_by part) M N follows report other reports start answer is.last.stage left is.end_text runs.1 is.ends;
        said = is.said;
      }
