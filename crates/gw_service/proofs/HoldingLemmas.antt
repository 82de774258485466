-- What the steps of a run send and write that goes on if its log fails.
use Rattle.std.proofs.Common.{◌≡◌, ◌∙◌, refl, sym, ap, subst, append_assoc, arith, inl, inr, ℕ, ◌&&◌, Bool, true, false, not, List, [], ◌∷◌, ◌++◌, length, Option, Some, None}
use Rattle.std.proofs.KnownBytes.{Appends-nil, Appends-trans}
use Rattle.std.proofs.lemmas.Bool.{eqb-true}
use Rattle.std.proofs.lemmas.List.{append-nil}
use Rattle.std.proofs.lemmas.List.Concat.{flat_map-cons}
use Rattle.std.specs.Prelude.{◌==◌, if◌then◌else◌, OnOk, Result}
use Rattle.gw_notices.proofs.AppendLemmas.{appends_two, two_writes}
use Rattle.std.specs.Io.KnownBytes.{Appends, append_known}
use Rattle.gw_core.specs.Effects.{effects_at}
use Rattle.gw_core.specs.History.{run_from, state_from}
use Rattle.gw_core.specs.State.{State}
use Rattle.gw_core.specs.declared.effects.Effects.{Effects}
use Rattle.gw_script.specs.Event.{Event}
use Rattle.gw_turns.proofs.ServeLemmas.{log_along, run_along, tells_none}
use Rattle.gw_turns.specs.Pace.{one_more}
use Rattle.gw_turns.specs.Serve.{AreTurns, Scene, Turn, calls_of, empty_turn, events_of, failed_turn, lines_of, log_of, lost_event, taken_event, turn_events}
use Rattle.gw_turns.specs.Stretch.{AreGuarded, GuardsTurn}
use Rattle.gw_wire.specs.Wire.{Call, Records}
use Rattle.gw_service.specs.Chain.{IsLink, Link, Manner, Stage, ended, served, ticked, withheld}
use Rattle.gw_service.specs.Holding.{AreLastCalls, AreLinesOf, AreLogged, AreSteps, ChainsLogFirst, ChainsLoseNothing, Hold, PassesHolding, SendsLogged, StepsLogFirst, StepsLoseNothing}
use Rattle.gw_service.specs.Holding.{counting, failed, held, link_last, link_turns, over, step_events, straight, waits_too, written}
use Rattle.gw_service.specs.declared.holding.Holding.{Holding}

-- the last of five writes ends well only if it appends its text
pub five_writes : {T E : Type 0} (r : Result T E) (a b c d e f : Option (List ℕ)) (v w x y z : List ℕ) → Appends a b v → Appends b c w
    → Appends c d x → Appends d e y → OnOk r (Appends e f z) → OnOk r (Appends a f (v ++ (w ++ (x ++ (y ++ z)))))
five_writes r a b c d e f v w x y z first second third fourth fifth =
    let four = w ++ (x ++ y) in
    let same : (v ++ four) ++ z ≡ v ++ (w ++ (x ++ (y ++ z))) =
    append_assoc v four z ∙ ap (λ (l : List ℕ). v ++ l) (append_assoc w (x ++ y) z ∙ ap (λ (l : List ℕ). w ++ l) (append_assoc x y z)) in
    subst (λ (l : List ℕ). OnOk r (Appends a f l)) same
    (two_writes r a e f (v ++ four) z (appends_two a b e v four first (appends_two b c e w (x ++ y) second (appends_two c d e x y third fourth))) fifth)

-- ---- what passes while lines wait

none_denied : (answer one two : Bool) → true ≡ (answer && not (not one && not two)) → one ≡ false → two ≡ true
none_denied true false true is e = refl
none_denied true false false is e = absurd cc
none_denied true true two is e = absurd cc
none_denied false one two is e = absurd cc

not_none : (n : ℕ) (b : Bool) → (n == 0) ≡ b → ¬ (n ≡ 0) → b ≡ false
not_none n true is some = absurd (some (eqb-true n 0 is))
not_none n false is some = refl

no_length : {A : Type 0} (l : List A) → length l ≡ 0 → l ≡ []
no_length [] e = refl
no_length (x ∷ l) e = absurd (omega (arith, e))

-- what goes then denies nothing
goes_quiet : {K : Type 0} (Passes : K → State → Event → K → Bool → Type 0) (h i : Holding K) (w : State) (event : Event)
    → ¬ (h.waiting ≡ 0) → PassesHolding Passes h w event i true → (effects_at w event).denials ≡ []
goes_quiet Passes h i w event some p =
    let denials = (effects_at w event).denials in
    no_length denials (eqb-true (length denials) 0
    (none_denied p.answer (h.waiting == 0) (length denials == 0) p.goes (not_none h.waiting (h.waiting == 0) refl some)))

and_false : (a : Bool) → false ≡ (a && false)
and_false true = refl
and_false false = refl

and_true : (a : Bool) → a ≡ (a && true)
and_true true = refl
and_true false = refl

-- what is withheld so, and what isn't
pub withheld_by : {K : Type 0} (Passes : K → State → Event → K → Bool → Type 0) (h i : Holding K) (w : State) (event : Event) (x : Effects)
    (answer waits : Bool) → x ≡ effects_at w event → waits ≡ (not (h.waiting == 0) && not (length x.denials == 0)) → waits ≡ true
    → Passes h.keeper w event i.keeper answer → i.waiting ≡ h.waiting → i.withheld ≡ one_more h.withheld
    → PassesHolding Passes h w event i false
withheld_by Passes h i w event x answer waits does is too_true passed waiting counted =
    let too : waits_too h w event ≡ true =
    ap (λ (y : Effects). not (h.waiting == 0) && not (length y.denials == 0)) (sym does) ∙ sym is ∙ too_true in
    record {
      answer = answer;
      passed = passed;
      waiting = waiting;
      withheld = counted ∙ ap (λ (b : Bool). if b then one_more h.withheld else h.withheld) (sym too);
      goes = and_false answer ∙ ap (λ (b : Bool). answer && not b) (sym too);
    }

pub passed_by : {K : Type 0} (Passes : K → State → Event → K → Bool → Type 0) (h i : Holding K) (w : State) (event : Event) (x : Effects)
    (answer waits : Bool) → x ≡ effects_at w event → waits ≡ (not (h.waiting == 0) && not (length x.denials == 0)) → waits ≡ false
    → Passes h.keeper w event i.keeper answer → i.waiting ≡ h.waiting → i.withheld ≡ h.withheld
    → PassesHolding Passes h w event i answer
passed_by Passes h i w event x answer waits does is none passed waiting counted =
    let too : waits_too h w event ≡ false =
    ap (λ (y : Effects). not (h.waiting == 0) && not (length y.denials == 0)) (sym does) ∙ sym is ∙ none in
    record {
      answer = answer;
      passed = passed;
      waiting = waiting;
      withheld = counted ∙ ap (λ (b : Bool). if b then one_more h.withheld else h.withheld) (sym too);
      goes = and_true answer ∙ ap (λ (b : Bool). answer && not b) (sym too);
    }

-- the lines of one event
pub one_run : (w : State) (event : Event) → log_of (effects_at w event ∷ []) ≡ lines_of (effects_at w event).denials
one_run w event =
    ap lines_of (flat_map-cons (λ (y : Effects). y.denials) (effects_at w event) [] ∙ append-nil (effects_at w event).denials)

-- Under such a guard, if lines wait, a turn writes nothing, and what waits stays counted.
turn_quiet : {K : Type 0} (Passes : K → State → Event → K → Bool → Type 0) (All : Holding K → State → Event → Holding K → Bool → Type 0)
    → ((g h : Holding K) (w : State) (event : Event) (passes : Bool) → All g w event h passes → PassesHolding Passes g w event h passes)
    → (g h : Holding K) (w : State) (turn : Turn) → GuardsTurn All g w turn h → ¬ (g.waiting ≡ 0)
    → (log_of (run_from w (turn_events turn)) ≡ []) × (h.waiting ≡ g.waiting)
unfolding run_from
turn_quiet Passes All holds g h w empty_turn p some = (refl, ap (λ (k : Holding _). k.waiting) p)
turn_quiet Passes All holds g h w failed_turn p some = (refl, ap (λ (k : Holding _). k.waiting) p)
turn_quiet Passes All holds g h w (lost_event event) p some = (refl, ap (λ (k : Holding _). k.waiting) p)
turn_quiet Passes All holds g h w (taken_event event tries) p some =
    let passed = holds g h w event true p in
    (one_run w event ∙ ap lines_of (goes_quiet Passes g h w event some passed), passed.waiting)

turns_quiet : {K : Type 0} (Passes : K → State → Event → K → Bool → Type 0) (All : Holding K → State → Event → Holding K → Bool → Type 0)
    → ((g h : Holding K) (w : State) (event : Event) (passes : Bool) → All g w event h passes → PassesHolding Passes g w event h passes)
    → (g h : Holding K) (w : State) (turns : List Turn) → AreGuarded All g w turns h → ¬ (g.waiting ≡ 0)
    → log_of (run_from w (events_of turns)) ≡ []
unfolding AreGuarded run_from
turns_quiet Passes All holds g h w [] p some = refl
turns_quiet Passes All holds g h w (turn ∷ turns) p some =
    let moved = state_from w (turn_events turn) in
    let one = turn_quiet Passes All holds g p.0 w turn p.1 some in
    let more = turns_quiet Passes All holds p.0 h moved turns p.2 (λ e. some (sym one.1 ∙ e)) in
    ap (λ (l : List Event). log_of (run_from w l)) (flat_map-cons turn_events turn turns)
    ∙ ap log_of (run_along w (turn_events turn) (events_of turns))
    ∙ log_along (run_from w (turn_events turn)) (run_from moved (events_of turns))
    ∙ ap (λ (l : List ℕ). l ++ log_of (run_from moved (events_of turns))) one.0
    ∙ more

-- ---- a link

-- the lines of one event more
log_more : (w v : State) (events : List Event) (event : Event) → v ≡ state_from w events
    → log_of (run_from w events) ++ lines_of (effects_at v event).denials ≡ log_of (run_from w (events ++ event ∷ []))
unfolding run_from
log_more w v events event is =
    ap (λ (u : State). log_of (run_from w events) ++ lines_of (effects_at u event).denials) is
    ∙ ap (λ (l : List ℕ). log_of (run_from w events) ++ l) (sym (one_run (state_from w events) event))
    ∙ sym (log_along (run_from w events) (run_from (state_from w events) (event ∷ [])))
    ∙ ap log_of (sym (run_along w events (event ∷ [])))

-- what a link sends and writes
record LinkSends {K : Type 0} (s : Stage K) (link : Link) (t : Stage K) : Type 0 where
  each : AreTurns s.now.scene.gateway (link_turns link)
  calls : Option (List Call)
  recorded : Records s.now.scene.calls calls (calls_of (link_turns link))
  last : AreLastCalls t.now.scene.gateway (link_last link) calls t.now.scene.calls
  more : List ℕ
  logged : Appends s.now.scene.log t.now.scene.log (log_of (run_from s.now.scene.gateway (events_of (link_turns link))) ++ more)
  all : log_of (run_from s.now.scene.gateway (events_of (link_turns link))) ++ more
      ≡ log_of (run_from s.now.scene.gateway (events_of (link_turns link) ++ link_last link))

link_sends : {K : Type 0} (manner : Manner K) (s t : Stage K) (link : Link) → IsLink manner s link t → LinkSends s link t
link_sends manner s t (served turns) is =
    let w = s.now.scene.gateway in
    let lines = log_of (run_from w (events_of turns)) in
    record {
      each = is.went.went.each;
      calls = t.now.scene.calls;
      recorded = is.went.went.calls;
      last = inl refl;
      more = [];
      logged = subst (λ (l : List ℕ). Appends s.now.scene.log t.now.scene.log l) (sym (append-nil lines)) is.went.went.log;
      all = append-nil lines ∙ ap (λ (l : List Event). log_of (run_from w l)) (sym (append-nil (events_of turns)));
    }
link_sends manner s t (ticked turns look text) is =
    let w = s.now.scene.gateway in
    let lines = log_of (run_from w (events_of turns)) in
    record {
      each = is.went.went.each;
      calls = is.then.scene.calls;
      recorded = is.went.went.calls;
      last = inr (is.due, t.announcing, is.announced);
      more = [];
      logged = subst (λ (o : Option (List ℕ)). Appends s.now.scene.log o (lines ++ [])) (sym is.rest.log)
          (subst (λ (l : List ℕ). Appends s.now.scene.log is.then.scene.log l) (sym (append-nil lines)) is.went.went.log);
      all = append-nil lines ∙ ap (λ (l : List Event). log_of (run_from w l)) (sym (append-nil (events_of turns)));
    }
link_sends manner s t (withheld turns event text) is =
    let w = s.now.scene.gateway in
    let mid = is.then.scene in
    let lines = log_of (run_from w (events_of turns)) in
    record {
      each = is.went.went.each;
      calls = mid.calls;
      recorded = is.went.went.calls;
      last = is.last.logged.taken.calls;
      more = lines_of (effects_at mid.gateway event).denials;
      logged = Appends-trans s.now.scene.log mid.log t.now.scene.log lines (lines_of (effects_at mid.gateway event).denials)
          is.went.went.log is.last.logged.log;
      all = log_more w mid.gateway (events_of turns) event is.went.went.gateway;
    }
link_sends manner s t (ended turns text) is = absurd is

-- and how its turns were guarded
link_guarded : {K : Type 0} (manner : Manner K) (s t : Stage K) (link : Link) → IsLink manner s link t
    → (g : K) × AreGuarded manner.Passes s.now.guard s.now.scene.gateway (link_turns link) g
link_guarded manner s t (served turns) is = (t.now.guard, is.went.guarded)
link_guarded manner s t (ticked turns look text) is = (is.then.guard, is.went.guarded)
link_guarded manner s t (withheld turns event text) is = (is.then.guard, is.went.guarded)
link_guarded manner s t (ended turns text) is = absurd is

-- ---- a step

append_empty : (held : Option (List ℕ)) → append_known held [] ≡ held
append_empty None = refl
append_empty (Some x) = ap Some (append-nil x)

-- a log got a front, and the rest waits
joined_after : (a b : Option (List ℕ)) (front rest : List ℕ) → Appends a b front → Appends a (append_known b rest) (front ++ rest)
joined_after None b front rest p = tt
joined_after (Some x) None front rest p = absurd p
joined_after (Some x) (Some y) front rest p = ap (λ (l : List ℕ). l ++ rest) p ∙ append_assoc x front rest

-- what waits grew
joined_grown : (a : Option (List ℕ)) (was is lines : List ℕ) → is ≡ was ++ lines → Appends (append_known a was) (append_known a is) lines
joined_grown None was is lines grew = tt
joined_grown (Some x) was is lines grew = ap (λ (l : List ℕ). x ++ l) grew ∙ sym (append_assoc x was lines)

-- a front of what waits was written
joined_written : (a b : Option (List ℕ)) (was front rest : List ℕ) → was ≡ front ++ rest → Appends a b front
    → Appends (append_known a was) (append_known b rest) []
joined_written None b was front rest parts p = tt
joined_written (Some x) None was front rest parts p = absurd p
joined_written (Some x) (Some y) was front rest parts p =
    ap (λ (l : List ℕ). l ++ rest) p ∙ append_assoc x front rest ∙ ap (λ (l : List ℕ). x ++ l) (sym parts) ∙ sym (append-nil (x ++ was))

-- what a keeper counts changes nothing of the scene
scene_of : {K : Type 0} (t after : Stage (Holding K)) (waiting events : ℕ) → t ≡ counting after waiting events
    → t.now.scene ≡ after.now.scene
scene_of t after waiting events is = ap (λ (x : Stage (Holding _)). x.now.scene) is

counts_of : {K : Type 0} (t after : Stage (Holding K)) (waiting events : ℕ) → t ≡ counting after waiting events
    → t.now.guard.waiting ≡ waiting
counts_of t after waiting events is = ap (λ (x : Stage (Holding _)). x.now.guard.waiting) is

no_events : (w : State) → log_of (run_from w []) ≡ []
unfolding run_from
no_events w = refl

no_turns : (w : State) → AreTurns w []
unfolding AreTurns
no_turns w = tt

pub steps_log_first : {K : Type 0} (Passes : K → State → Event → K → Bool → Type 0) (manner : Manner (Holding K))
    → ((g h : Holding K) (w : State) (event : Event) (passes : Bool) → manner.Passes g w event h passes → PassesHolding Passes g w event h passes)
    → StepsLogFirst manner
steps_log_first {K} Passes manner holds s t (straight link) counted is =
    let sends = link_sends manner s.stage is.after link is.comes in
    let same = sym (scene_of t.stage is.after 0 is.after.now.guard.withheld is.stage) in (
      record {
        each = sends.each;
        calls = sends.calls;
        recorded = sends.recorded;
        last = subst (λ (x : Scene). AreLastCalls x.gateway (link_last link) sends.calls x.calls) same sends.last;
        more = sends.more;
        logged = subst (λ (x : Scene). Appends s.stage.now.scene.log x.log
            (log_of (run_from s.stage.now.scene.gateway (events_of (link_turns link))) ++ sends.more)) same sends.logged;
      },
      counts_of t.stage is.after 0 is.after.now.guard.withheld is.stage ∙ ap (λ (l : List ℕ). length l) (sym is.still),
    )
steps_log_first {K} Passes manner holds s t (failed turns event) counted is =
    let w = s.stage.now.scene.gateway in
    let same = sym (scene_of t.stage is.after (length t.waiting) _ is.stage) in
    let ends = is.ends.ends in
    let mid = ends.then.scene in
    let lines = log_of (run_from w (events_of ends.turns)) in
    let done : SendsLogged s (failed ends.turns ends.event) t = record {
      each = ends.went.went.each;
      calls = mid.calls;
      recorded = ends.went.went.calls;
      last = subst (λ (x : Scene). AreLastCalls x.gateway (ends.event ∷ []) mid.calls x.calls) same ends.last.last.taken.calls;
      more = ends.last.last.front;
      logged = subst (λ (x : Scene). Appends s.stage.now.scene.log x.log (lines ++ ends.last.last.front)) same
          (Appends-trans s.stage.now.scene.log mid.log is.after.now.scene.log lines ends.last.last.front ends.went.went.log ends.last.last.log);
    } in (
      subst (λ (l : List Turn). SendsLogged s (failed l event) t) (sym is.turns_are)
          (subst (λ (e : Event). SendsLogged s (failed ends.turns e) t) (sym is.event_is) done),
      counts_of t.stage is.after (length t.waiting) _ is.stage,
    )
steps_log_first {K} Passes manner holds s t (held link) counted is =
    let from = over s.stage (Some s.waiting) in
    let w = s.stage.now.scene.gateway in
    let sends = link_sends manner from (over is.after (Some t.waiting)) link is.comes in
    let same = sym (scene_of t.stage is.after (length t.waiting) is.after.now.guard.withheld is.stage) in
    let guarded = link_guarded manner from (over is.after (Some t.waiting)) link is.comes in
    let some : ¬ (s.stage.now.guard.waiting ≡ 0) = λ e. is.some (no_length s.waiting (sym counted ∙ e)) in
    let quiet = turns_quiet Passes manner.Passes holds s.stage.now.guard guarded.0 w (link_turns link) guarded.1 some in (
      record {
        each = sends.each;
        calls = sends.calls;
        recorded = sends.recorded;
        last = subst (λ (x : Scene). AreLastCalls x.gateway (link_last link) sends.calls x.calls) same sends.last;
        more = [];
        logged = subst (λ (l : List ℕ). Appends s.stage.now.scene.log t.stage.now.scene.log (l ++ [])) (sym quiet)
            (subst (λ (o : Option (List ℕ)). Appends s.stage.now.scene.log o [])
            (sym (ap (λ (x : Scene). x.log) (sym same) ∙ is.log)) (Appends-nil s.stage.now.scene.log));
      },
      counts_of t.stage is.after (length t.waiting) is.after.now.guard.withheld is.stage,
    )
steps_log_first {K} Passes manner holds s t (written front text) counted is =
    let w = s.stage.now.scene.gateway in
    let same = sym (ap (λ (x : Stage (Holding _)). x.now.scene) is.stage) in (
      record {
        each = no_turns w;
        calls = s.stage.now.scene.calls;
        recorded = tells_none s.stage.now.scene.calls;
        last = inl (ap (λ (x : Scene). x.calls) (sym same));
        more = front;
        logged = subst (λ (x : Scene). Appends s.stage.now.scene.log x.log (log_of (run_from w []) ++ front)) same
            (subst (λ (l : List ℕ). Appends s.stage.now.scene.log is.log (l ++ front)) (sym (no_events w)) is.appended);
      },
      ap (λ (x : Stage (Holding _)). x.now.guard.waiting) is.stage,
    )

pub steps_lose_nothing : {K : Type 0} (manner : Manner (Holding K)) → StepsLoseNothing manner
steps_lose_nothing manner s t (straight link) is =
    let sends = link_sends manner s.stage is.after link is.comes in
    let same = scene_of t.stage is.after 0 is.after.now.guard.withheld is.stage in
    let first : append_known s.stage.now.scene.log s.waiting ≡ s.stage.now.scene.log =
    ap (append_known s.stage.now.scene.log) is.none ∙ append_empty s.stage.now.scene.log in
    let last : append_known t.stage.now.scene.log t.waiting ≡ is.after.now.scene.log =
    ap (append_known t.stage.now.scene.log) is.still ∙ append_empty t.stage.now.scene.log ∙ ap (λ (x : Scene). x.log) same in
    subst (λ (o : Option (List ℕ)). Appends o (append_known t.stage.now.scene.log t.waiting)
    (log_of (run_from s.stage.now.scene.gateway (step_events (straight link))))) (sym first)
    (subst (λ (o : Option (List ℕ)). Appends s.stage.now.scene.log o
    (log_of (run_from s.stage.now.scene.gateway (step_events (straight link))))) (sym last)
    (subst (λ (l : List ℕ). Appends s.stage.now.scene.log is.after.now.scene.log l) sends.all sends.logged))
steps_lose_nothing manner s t (failed turns event) is =
    let w = s.stage.now.scene.gateway in
    let ends = is.ends.ends in
    let mid = ends.then.scene in
    let lines = log_of (run_from w (events_of ends.turns)) in
    let at = ends.last.last in
    let same = scene_of t.stage is.after (length t.waiting) _ is.stage in
    let first : append_known s.stage.now.scene.log s.waiting ≡ s.stage.now.scene.log =
    ap (append_known s.stage.now.scene.log) is.none ∙ append_empty s.stage.now.scene.log in
    let grown = joined_after s.stage.now.scene.log is.after.now.scene.log (lines ++ at.front) t.waiting
    (Appends-trans s.stage.now.scene.log mid.log is.after.now.scene.log lines at.front ends.went.went.log at.log) in
    let all : (lines ++ at.front) ++ t.waiting ≡ log_of (run_from w (events_of turns ++ event ∷ [])) =
    append_assoc lines at.front t.waiting ∙ ap (λ (l : List ℕ). lines ++ l) (sym at.lines)
    ∙ log_more w mid.gateway (events_of ends.turns) ends.event ends.went.went.gateway
    ∙ ap (λ (l : List Turn). log_of (run_from w (events_of l ++ ends.event ∷ []))) (sym is.turns_are)
    ∙ ap (λ (e : Event). log_of (run_from w (events_of turns ++ e ∷ []))) (sym is.event_is) in
    subst (λ (o : Option (List ℕ)). Appends o (append_known t.stage.now.scene.log t.waiting)
    (log_of (run_from w (events_of turns ++ event ∷ [])))) (sym first)
    (subst (λ (x : Scene). Appends s.stage.now.scene.log (append_known x.log t.waiting)
    (log_of (run_from w (events_of turns ++ event ∷ [])))) (sym same)
    (subst (λ (l : List ℕ). Appends s.stage.now.scene.log (append_known is.after.now.scene.log t.waiting) l) all grown))
steps_lose_nothing manner s t (held link) is =
    let sends = link_sends manner (over s.stage (Some s.waiting)) (over is.after (Some t.waiting)) link is.comes in
    let same = scene_of t.stage is.after (length t.waiting) is.after.now.guard.withheld is.stage in
    let stays : t.stage.now.scene.log ≡ s.stage.now.scene.log = ap (λ (x : Scene). x.log) same ∙ is.log in
    let lines = log_of (run_from s.stage.now.scene.gateway (step_events (held link))) in
    subst (λ (o : Option (List ℕ)). Appends (append_known s.stage.now.scene.log s.waiting) (append_known o t.waiting) lines) (sym stays)
    (joined_grown s.stage.now.scene.log s.waiting t.waiting lines (sends.logged ∙ ap (λ (l : List ℕ). s.waiting ++ l) sends.all))
steps_lose_nothing manner s t (written front text) is =
    let w = s.stage.now.scene.gateway in
    let same = ap (λ (x : Stage (Holding _)). x.now.scene) is.stage in
    subst (λ (x : Scene). Appends (append_known s.stage.now.scene.log s.waiting) (append_known x.log t.waiting) (log_of (run_from w [])))
    (sym same)
    (subst (λ (l : List ℕ). Appends (append_known s.stage.now.scene.log s.waiting) (append_known is.log t.waiting) l) (sym (no_events w))
    (joined_written s.stage.now.scene.log is.log s.waiting front t.waiting is.parts is.appended))

-- ---- steps, one after the other

pub chains_log_first : {K : Type 0} (Passes : K → State → Event → K → Bool → Type 0) (manner : Manner (Holding K))
    → ((g h : Holding K) (w : State) (event : Event) (passes : Bool) → manner.Passes g w event h passes → PassesHolding Passes g w event h passes)
    → ChainsLogFirst manner
unfolding AreSteps AreLogged
chains_log_first Passes manner holds s t [] counted chain = chain
chains_log_first Passes manner holds s t (step ∷ steps) counted chain =
    let first = steps_log_first Passes manner holds s chain.0 step counted chain.1 in
    (chain.0, chain.1, first.0, chains_log_first Passes manner holds chain.0 t steps first.1 chain.2)

pub chains_lose_nothing : {K : Type 0} (manner : Manner (Holding K)) → ChainsLoseNothing manner
unfolding AreSteps AreLinesOf
chains_lose_nothing {K} manner s t [] chain = (
  [],
  (chain, refl),
  subst (λ (x : Hold K). Appends (append_known s.stage.now.scene.log s.waiting) (append_known x.stage.now.scene.log x.waiting) []) (sym chain)
      (Appends-nil (append_known s.stage.now.scene.log s.waiting)),
)
chains_lose_nothing manner s t (step ∷ steps) chain =
    let next = chain.0 in
    let first = steps_lose_nothing manner s next step chain.1 in
    let more = chains_lose_nothing manner next t steps chain.2 in
    let lines = log_of (run_from s.stage.now.scene.gateway (step_events step)) in (
      lines ++ more.0,
      (next, chain.1, more.0, more.1, refl),
      Appends-trans (append_known s.stage.now.scene.log s.waiting) (append_known next.stage.now.scene.log next.waiting)
          (append_known t.stage.now.scene.log t.waiting) lines more.0 first more.2,
    )
