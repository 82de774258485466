-- Steps one after the other, of a run that goes on if its log fails.
use Rattle.std.proofs.Common.{◌≡◌, ◌∙◌, refl, sym, ap, subst, inl, inr, ℕ, ◌+◌, Bool, true, false, List, [], ◌∷◌, ◌++◌, length, Option, Some, None}
use Rattle.std.specs.Prelude.{Result, Ok, Err}
use Rattle.std.specs.Io.KnownBytes.{Appends}
use Rattle.std.proofs.lemmas.List.{append-nil, flat_map_more}
use Rattle.std.proofs.lemmas.List.Concat.{flat_map-cons}
use Rattle.std.proofs.lemmas.Grind.{flat_map-append}
use Rattle.gw_configuration.specs.Configuration.{Configuration}
use Rattle.gw_notices.proofs.AppendLemmas.{appends_nothing, appends_two}
use Rattle.gw_script.specs.Event as event
use Rattle.gw_state.specs.Saved.{Origin, origin_of}
use Rattle.gw_turns.specs.Pace.{one_more}
use Rattle.gw_turns.specs.Serve.{Turn, taken_event}
use Rattle.gw_turns.specs.declared.serving.ServeFault.{ServeFault}
use Rattle.gw_turns.specs.declared.serving.ServeFault.TheVariants as serving
use Rattle.gw_service.specs.Chain.{Advances, Begins, Edge, EndsSo, IsLink, IsServed, IsTicked, Manner, Stage, stopping}
use Rattle.gw_service.specs.Holding.{AreSteps, EndsHolding, Finishes, GoesTo, Hold, IsStep, OverLog, OverWaiting, RunsHolding, ServesHolding, Step}
use Rattle.gw_service.specs.Holding.{answer_by, counting, failed, goes_on, has_log_failed, held, hold, over, step_text, steps_text, straight, waits_line, written}
use Rattle.gw_core.specs.State.{State}
use Rattle.gw_core.specs.declared.event.Counts.{Counts}
use Rattle.gw_notices.specs.Notices.{no_troubles, notice_of}
use Rattle.gw_notices.specs.declared.reload.ReloadCounts.{ReloadCounts}
use Rattle.gw_notices.specs.declared.troubles.Troubles.{Troubles}
use Rattle.gw_turns.specs.declared.announcing.Announcing.{Announcing}
use Rattle.gw_turns.specs.declared.serving.Served.{Served}
use Rattle.gw_turns.specs.declared.tally.DropTally.{DropTally}
use Rattle.gw_service.specs.Kept.{EndsRun, Rest, RunsFromHolding, is_stopped}
use Rattle.gw_service.specs.Serving.{Ends}
use Rattle.gw_service.specs.declared.holding.Holding.{Holding}
use Rattle.gw_service.specs.declared.running.RunEnd.{RunEnd}
use Rattle.gw_service.specs.declared.running.RunEnd.TheVariants as end

-- ---- steps

pub steps_none : {K : Type 0} (m : Manner (Holding K)) (s : Hold K) → AreSteps m s [] s
unfolding AreSteps
steps_none m s = refl

pub steps_along : {K : Type 0} (m : Manner (Holding K)) (s : Hold K) (steps more : List Step) (t u : Hold K)
    → AreSteps m s steps t → AreSteps m t more u → AreSteps m s (steps ++ more) u
unfolding AreSteps
steps_along {K} m s [] more t u p q = subst (λ (x : Hold K). AreSteps m x more u) p q
steps_along m s (first ∷ steps) more t u p q = (p.0, p.1, steps_along m p.0 steps more t u p.2 q)

one_step : {K : Type 0} (m : Manner (Holding K)) (s : Hold K) (step : Step) (t : Hold K) → IsStep m s step t → AreSteps m s (step ∷ []) t
unfolding AreSteps
one_step m s step t is = (t, is, refl)

text_one : (step : Step) → steps_text (step ∷ []) ≡ step_text step
text_one step = flat_map-cons step_text step [] ∙ append-nil (step_text step)

text_more : (steps : List Step) (step : Step) → steps_text steps ++ step_text step ≡ steps_text (steps ++ step ∷ [])
text_more steps step = flat_map_more step_text [] steps step

text_along : (steps more : List Step) → steps_text steps ++ steps_text more ≡ steps_text (steps ++ more)
text_along steps more = sym (flat_map-append step_text steps more)

-- ---- a stretch

goes_once : {K : Type 0} (m : Manner (Holding K)) (s t : Hold K) (step : Step) (text : List ℕ) → IsStep m s step t → text ≡ step_text step
    → GoesTo m s (Ok None) text t
goes_once m s t step text is says = (step ∷ [], one_step m s step t is, says ∙ sym (text_one step))

over_log : {K : Type 0} (Comes : Stage (Holding K) → Stage (Holding K) → Type 0) (s after : Stage (Holding K)) (was is : List ℕ) → was ≡ []
    → is ≡ was → Comes s after → OverLog Comes (hold s was) (hold (counting after (length is) after.now.guard.withheld) is)
over_log Comes s after was is none same comes = record {
  none = none;
  still = same ∙ none;
  after = after;
  comes = comes;
  stage = ap (λ (l : List ℕ). counting after (length l) after.now.guard.withheld) (same ∙ none);
}

over_waiting : {K : Type 0} (Comes : Stage (Holding K) → Stage (Holding K) → Type 0) (s after : Stage (Holding K)) (was is : List ℕ)
    → ¬ (was ≡ []) → after.now.scene.log ≡ s.now.scene.log → Comes (over s (Some was)) (over after (Some is))
    → OverWaiting Comes (hold s was) (hold (counting after (length is) after.now.guard.withheld) is)
over_waiting Comes s after was is some log comes = record { some = some; after = after; comes = comes; log = log; stage = refl }

-- one over the log
pub goes_over_log : {K : Type 0} (m : Manner (Holding K)) (count : ℕ) (s after : Stage (Holding K)) (was is : List ℕ)
    (answer : Result (Option RunEnd) ServeFault) (text : List ℕ) (edge : Edge) → was ≡ [] → is ≡ was → Advances m count s answer text after edge
    → GoesTo m (hold s was) answer text (hold (counting after (length is) after.now.guard.withheld) is)
goes_over_log m count s after was is (Ok None) text edge none same comes =
    goes_once m (hold s was) _ (straight comes.0) text (over_log (λ a b. IsLink m a comes.0 b) s after was is none same comes.1) comes.2
goes_over_log m count s after was is (Ok (Some end.Turns)) text edge none same comes = absurd comes
goes_over_log m count s after was is (Ok (Some end.Stopped)) text edge none same comes =
    inl (over_log (λ a b. (turns : List Turn) × IsTicked m true a turns stopping text b) s after was is none same (comes.0, comes.1))
goes_over_log m count s after was is (Ok (Some end.Unsynced)) text edge none same comes = (
  inl (over_log (λ a b. (turns : List Turn) × IsServed m a turns b) s after was is none same
      (comes.turns ++ taken_event event.Tick comes.tries ∷ [], comes.goes)),
  comes.silent,
)
goes_over_log m count s after was is (Err fault) text edge none same comes = (
  inl (over_log (λ a b. (count : ℕ) × (unwritten : List ℕ) × EndsSo m count fault unwritten a b) s after was is none same
      (count, edge.unwritten, comes.0)),
  comes.1,
)

-- one over what waits
pub goes_over_waiting : {K : Type 0} (m : Manner (Holding K)) (count : ℕ) (s after : Stage (Holding K)) (was is : List ℕ)
    (answer : Result (Option RunEnd) ServeFault) (text : List ℕ) (edge : Edge) → ¬ (was ≡ []) → after.now.scene.log ≡ s.now.scene.log
    → Advances m count (over s (Some was)) answer text (over after (Some is)) edge
    → GoesTo m (hold s was) answer text (hold (counting after (length is) after.now.guard.withheld) is)
goes_over_waiting m count s after was is (Ok None) text edge some log comes =
    goes_once m (hold s was) _ (held comes.0) text (over_waiting (λ a b. IsLink m a comes.0 b) s after was is some log comes.1) comes.2
goes_over_waiting m count s after was is (Ok (Some end.Turns)) text edge some log comes = absurd comes
goes_over_waiting m count s after was is (Ok (Some end.Stopped)) text edge some log comes =
    inr (over_waiting (λ a b. (turns : List Turn) × IsTicked m true a turns stopping text b) s after was is some log (comes.0, comes.1))
goes_over_waiting m count s after was is (Ok (Some end.Unsynced)) text edge some log comes = (
  inr (over_waiting (λ a b. (turns : List Turn) × IsServed m a turns b) s after was is some log
      (comes.turns ++ taken_event event.Tick comes.tries ∷ [], comes.goes)),
  comes.silent,
)
goes_over_waiting m count s after was is (Err fault) text edge some log comes = (
  inr (over_waiting (λ a b. (count : ℕ) × (unwritten : List ℕ) × EndsSo m count fault unwritten a b) s after was is some log
      (count, edge.unwritten, comes.0)),
  comes.1,
)

-- one over the log that failed, and what it lacks waits
pub goes_failed : {K : Type 0} (m : Manner (Holding K)) (count : ℕ) (s after : Stage (Holding K)) (was is : List ℕ)
    (answer : Result (Option RunEnd) ServeFault) (text : List ℕ) (edge : Edge) → was ≡ [] → is ≡ was ++ edge.unwritten
    → has_log_failed answer ≡ true → Advances m count s answer text after edge
    → GoesTo m (hold s was) (Ok None) (text ++ waits_line) (hold (counting after (length is) (one_more after.now.guard.withheld)) is)
goes_failed m count s after was is (Ok how) text edge none grew fails comes = absurd cc
goes_failed m count s after was is (Err serving.Memory) text edge none grew fails comes = absurd cc
goes_failed m count s after was is (Err serving.CountEnd) text edge none grew fails comes = absurd cc
goes_failed m count s after was is (Err serving.Log) text edge none grew fails comes =
    let same : edge.unwritten ≡ is = sym (grew ∙ ap (λ (l : List ℕ). l ++ edge.unwritten) none) in
    let ends = subst (λ (l : List ℕ). EndsSo m count serving.Log l s after) same comes.0 in
    goes_once m (hold s was) _ (failed ends.ends.turns ends.ends.event) (text ++ waits_line)
    (record { none = none; after = after; count = count; ends = ends; turns_are = refl; event_is = refl; stage = refl })
    (ap (λ (l : List ℕ). l ++ waits_line) comes.1)

-- the log failed
pub failed_is : (answer : Result (Option RunEnd) ServeFault) → has_log_failed answer ≡ true → answer ≡ Err serving.Log
failed_is (Ok how) is = absurd cc
failed_is (Err serving.Log) is = refl
failed_is (Err serving.Memory) is = absurd cc
failed_is (Err serving.CountEnd) is = absurd cc

-- one after which serving goes on
pub goes_on_by : {K : Type 0} (m : Manner (Holding K)) (s t : Hold K) (answer : Result (Option RunEnd) ServeFault) (text : List ℕ)
    → goes_on answer ≡ true → GoesTo m s answer text t → GoesTo m s (Ok None) text t
goes_on_by m s t (Ok None) text is goes = goes
goes_on_by m s t (Ok (Some how)) text is goes = absurd cc
goes_on_by m s t (Err fault) text is goes = absurd cc

-- and what waits is tried to be written
pub goes_written : {K : Type 0} (m : Manner (Holding K)) (s t u : Hold K) (text more : List ℕ) → GoesTo m s (Ok None) text t
    → Finishes t more u → GoesTo m s (Ok None) (text ++ more) u
goes_written {K} m s t u text more p (inl q) =
    (p.0, subst (λ (x : Hold K). AreSteps m s p.0 x) (sym q.1) p.1, ap (λ (l : List ℕ). text ++ l) q.2 ∙ append-nil text ∙ p.2)
goes_written m s t u text more p (inr q) =
    let step = written q.0 more in (
      p.0 ++ step ∷ [],
      steps_along m s p.0 (step ∷ []) t u p.1 (one_step m t step u q.1),
      ap (λ (l : List ℕ). l ++ more) p.2 ∙ text_more p.0 step,
    )

-- ---- turn by turn

-- From this hold of each configuration of this origin steps lead to this one, and what they reported was written.
abbrev pub Stepped : {K : Type 0} → Manner (Holding K) → Origin → (Configuration → Hold K) → Origin → (Configuration → Hold K) → (Never : Type 0)
    → (was is : Option (List ℕ)) → Type 0
Stepped m o first p now Never was is =
    (c : Configuration) → o ≡ origin_of c → (d : Configuration) × (steps : List Step) × (p ≡ origin_of d)
    × AreSteps m (first c) steps (now d) × (Never → Appends was is (steps_text steps))

pub stepped_none : {K : Type 0} (m : Manner (Holding K)) (o : Origin) (first : Configuration → Hold K) (Never : Type 0) (was : Option (List ℕ))
    → Stepped m o first o first Never was was
stepped_none m o first Never was = λ c is. (c, [], is, steps_none m (first c), λ never. appends_nothing was)

-- what comes of a stretch, from each configuration of this origin
abbrev pub Gone : {K : Type 0} → Manner (Holding K) → Origin → (Configuration → Hold K) → Result (Option RunEnd) ServeFault → Origin
    → (Configuration → Hold K) → (Never : Type 0) → (was is : Option (List ℕ)) → Type 0
Gone m p now answer q next Never was is =
    (c : Configuration) → p ≡ origin_of c → (d : Configuration) × (text : List ℕ) × (q ≡ origin_of d)
    × GoesTo m (now c) answer text (next d) × (Never → Appends was is text)

pub stepped_more : {K : Type 0} (m : Manner (Holding K)) (o p q : Origin) (first now next : Configuration → Hold K) (Never Then : Type 0)
    (was middle is : Option (List ℕ)) → Stepped m o first p now Never was middle → Gone m p now (Ok None) q next Then middle is
    → (Never → Then) → Stepped m o first q next Never was is
stepped_more m o p q first now next Never Then was middle is steps gone lasts = λ c from.
    let before = steps c from in
    let after = gone before.0 before.2 in (
      after.0,
      before.1 ++ after.3.0,
      after.2,
      steps_along m (first c) before.1 after.3.0 (now before.0) (next after.0) before.3 after.3.1,
      λ never. subst (λ (t : List ℕ). Appends was is t)
          (ap (λ (t : List ℕ). steps_text before.1 ++ t) after.3.2 ∙ text_along before.1 after.3.0)
          (appends_two was middle is (steps_text before.1) after.1 (before.4 never) (after.4 (lasts never))),
    )

-- how serving ends, from each configuration of this origin
abbrev pub ServedSo : {K : Type 0} → Manner (Holding K) → ℕ → Origin → (Configuration → Hold K) → Result RunEnd ServeFault → Origin
    → (Configuration → Hold K) → (Never : Type 0) → (was is : Option (List ℕ)) → Type 0
ServedSo m count o first how p last Never was is =
    (c : Configuration) → o ≡ origin_of c → (d : Configuration) × (text : List ℕ) × (p ≡ origin_of d)
    × ServesHolding m count (first c) how text (last d) × (Never → Appends was is text)

pub served_whole : {K : Type 0} (m : Manner (Holding K)) (count : ℕ) (o p : Origin) (first last : Configuration → Hold K) (Never : Type 0)
    (was is : Option (List ℕ)) → Stepped m o first p last Never was is
    → ((c d : Configuration) → (last d).stage.now.served.turns ≡ (first c).stage.now.served.turns + count)
    → ServedSo m count o first (Ok end.Turns) p last Never was is
served_whole m count o p first last Never was is steps all = λ c from.
    let led = steps c from in (
      led.0,
      steps_text led.1,
      led.2,
      record {
        steps = led.1;
        after = last led.0;
        chain = led.3;
        end_text = [];
        ends = (refl, refl);
        all = λ e. all c led.0;
        says = sym (append-nil (steps_text led.1));
      },
      led.4,
    )

-- it ended with this stretch
ended_so : {K : Type 0} (m : Manner (Holding K)) (count : ℕ) (o p q : Origin) (first now last : Configuration → Hold K) (how : Result RunEnd ServeFault)
    (Never Then : Type 0) (was middle is : Option (List ℕ)) → Stepped m o first p now Never was middle
    → ((c : Configuration) → p ≡ origin_of c → (d : Configuration) × (text : List ℕ) × (q ≡ origin_of d)
    × EndsHolding m how (now c) text (last d) × (Then → Appends middle is text))
    → (Never → Then) → ¬ (how ≡ Ok end.Turns) → ServedSo m count o first how q last Never was is
ended_so m count o p q first now last how Never Then was middle is steps ends lasts other = λ c from.
    let before = steps c from in
    let after = ends before.0 before.2 in (
      after.0,
      steps_text before.1 ++ after.1,
      after.2,
      record {
        steps = before.1;
        after = now before.0;
        chain = before.3;
        end_text = after.1;
        ends = after.3;
        all = λ e. absurd (other e);
        says = refl;
      },
      λ never. appends_two was middle is (steps_text before.1) after.1 (before.4 never) (after.4 (lasts never)),
    )

stops_else : ◌≡◌ {A = Result RunEnd ServeFault} (Ok end.Stopped) (Ok end.Turns) → ⊥
stops_else e = cc

unsynced_else : ◌≡◌ {A = Result RunEnd ServeFault} (Ok end.Unsynced) (Ok end.Turns) → ⊥
unsynced_else e = cc

fault_else : (fault : ServeFault) → ◌≡◌ {A = Result RunEnd ServeFault} (Err fault) (Ok end.Turns) → ⊥
fault_else fault e = cc

pub served_so : {K : Type 0} (m : Manner (Holding K)) (count : ℕ) (o p q : Origin) (first now last : Configuration → Hold K) (how : RunEnd)
    (Never Then : Type 0) (was middle is : Option (List ℕ)) → Stepped m o first p now Never was middle
    → Gone m p now (Ok (Some how)) q last Then middle is → (Never → Then) → ServedSo m count o first (Ok how) q last Never was is
served_so m count o p q first now last end.Turns Never Then was middle is steps gone lasts = λ c from.
    let before = steps c from in
    absurd (gone before.0 before.2).3
served_so m count o p q first now last end.Stopped Never Then was middle is steps gone lasts =
    ended_so m count o p q first now last (Ok end.Stopped) Never Then was middle is steps gone lasts stops_else
served_so m count o p q first now last end.Unsynced Never Then was middle is steps gone lasts =
    ended_so m count o p q first now last (Ok end.Unsynced) Never Then was middle is steps gone lasts unsynced_else

pub served_fault : {K : Type 0} (m : Manner (Holding K)) (count : ℕ) (o p q : Origin) (first now last : Configuration → Hold K) (fault : ServeFault)
    (Never Then : Type 0) (was middle is : Option (List ℕ)) → Stepped m o first p now Never was middle
    → Gone m p now (Err fault) q last Then middle is → (Never → Then) → ServedSo m count o first (Err fault) q last Never was is
served_fault m count o p q first now last fault Never Then was middle is steps gone lasts =
    ended_so m count o p q first now last (Err fault) Never Then was middle is steps gone lasts (fault_else fault)

-- ---- the end

pub stopped_before : (has_all : Bool) (how : Result RunEnd ServeFault) → is_stopped (answer_by has_all how) ≡ true → is_stopped how ≡ true
stopped_before true how e = e
stopped_before false how e = absurd cc

-- a run reports first what isn't kept or recorded, and last it does what is due at its end
pub ran_holding : {K : Type 0} (m : Manner (Holding K)) (report : Holding K → ReloadCounts → Announcing → Option ℕ → State → Served → DropTally → List ℕ)
    (start : Counts) (count : ℕ) (at begun : Troubles → Stage (Holding K)) (p : Origin) (was is troubles : Troubles) (waiting : List ℕ)
    (last : Configuration → Hold K)
    (answer : Result RunEnd ServeFault) (after : Ends) (left : Rest (Holding K)) (Never Then Last : Type 0) (first_held middle third last_held : Option (List ℕ))
    → was ≡ no_troubles → is ≡ troubles → waiting ≡ [] → ((t : Troubles) → (at t).said ≡ t) → ((t : Troubles) → Begins (at t) (begun t))
    → ((d : Configuration) × (text : List ℕ) × (p ≡ origin_of d) × RunsHolding m count (hold (begun is) waiting) answer text (last d)
    × (Then → Appends middle third text))
    → ((d : Configuration) → (last d).stage.now.scene.log ≡ after.log) → ((d : Configuration) → (last d).stage.now.scene.calls ≡ after.calls)
    → (Never → Appends first_held middle (notice_of was is)) → (Never → Then) → (Then → Last)
    → ((d : Configuration) → (text : List ℕ) × EndsRun m report start answer (last d).stage left text × (Last → Appends third last_held text))
    → (text : List ℕ) × RunsFromHolding m report start count (at troubles) answer after left text × (Never → Appends first_held last_held text)
ran_holding m report start count at begun p was is troubles waiting last answer after left Never Then Last first_held middle third last_held untold failing none records
    begins led log calls noticed lasts goes_on ended =
    let notice = notice_of no_troubles troubles in
    let final = ended led.0 in
    let same : notice_of was is ≡ notice =
    ap (λ (x : Troubles). notice_of x is) untold ∙ ap (notice_of no_troubles) failing in (
      (notice ++ led.1) ++ final.0,
      record {
        begun = begun troubles;
        begins = begins troubles;
        last = last led.0;
        run_text = led.1;
        runs = subst (λ (l : List ℕ). RunsHolding m count (hold (begun troubles) l) answer led.1 (last led.0)) none
            (subst (λ (x : Troubles). RunsHolding m count (hold (begun x) waiting) answer led.1 (last led.0)) failing led.3);
        log = log led.0;
        calls = calls led.0;
        end_text = final.0;
        ends = final.1;
        said = ap (λ (x : Troubles). (notice_of no_troubles x ++ led.1) ++ final.0) (sym (records troubles));
      },
      λ never. appends_two first_held third last_held (notice ++ led.1) final.0
          (appends_two first_held middle third notice led.1
          (subst (λ (x : List ℕ). Appends first_held middle x) same (noticed never)) (led.4 (lasts never)))
          (final.2 (goes_on (lasts never))),
    )
