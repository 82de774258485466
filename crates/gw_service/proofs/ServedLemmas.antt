-- A run in which nobody asks; and one that keeps no state either, which is one of `serve`.
use Rattle.std.proofs.Common.{◌≡◌, ◌∙◌, ℕ, ◌<◌, List, [], ◌∷◌, ◌++◌, Bool, true, false, true≢false, Option, Some, None, refl, sym, ap, subst, append_assoc, arith, length, inl, inr}
use Rattle.std.proofs.lemmas.List.{append-nil, length-append}
use Rattle.std.proofs.lemmas.List.Elements.{All-from_recursion}
use Rattle.std.specs.List.{AllByRecursion}
use Rattle.std.specs.Prelude.{Result, Ok, Err}
use Rattle.gw_configuration.specs.Configuration.{Configuration}
use Rattle.gw_core.specs.History.{state_after, state_from, no_counts}
use Rattle.gw_core.specs.Resumed.{saved}
use Rattle.gw_core.specs.State.{State}
use Rattle.gw_core.specs.declared.event.Counts.{Counts}
use Rattle.gw_state.specs.Saved.{Saved}
use Rattle.gw_script.specs.Event.{Event}
use Rattle.gw_script.specs.Event as event
use Rattle.gw_turns.proofs.ServeLemmas.{lead_along, lead_nowhere}
use Rattle.gw_turns.specs.Serve.{EndsBy, LeadTo, Scene, Stops, Turn, count_fault, count_turn, counts_after, counts_of, empty_turn, failed_turn}
use Rattle.gw_turns.specs.Serve.{events_of, lost_event, scene, taken_event, turn_events}
use Rattle.gw_turns.proofs.AnnouncingLemmas.{unannounced_is_silent}
use Rattle.gw_core.proofs.HistoryLemmas.{announce_after, announce_stays}
use Rattle.gw_turns.specs.Stretch.{AreGuarded, GuardsTurn}
use Rattle.gw_wire.specs.Wire.{Call, Records}
use Rattle.gw_turns.specs.declared.serving.ServeFault.{ServeFault}
use Rattle.gw_turns.specs.declared.serving.ServeFault.TheVariants as serving
use Rattle.gw_turns.specs.declared.serving.Served.{Served}
use Rattle.gw_system.specs.Requests.{Asking, GoesOn, answered, asked, asked_to_say, asked_to_stop, nobody, recorded_by, unasked, untaken}
use Rattle.gw_service.specs.Reload.{taken_over_line}
use Rattle.gw_service.specs.Chain.{AreLinks, IsLink, IsLooked, IsUnrequested, Link, Look, Manner, Runs, RunsToStop, Stage, Standing, announced_at}
use Rattle.gw_service.specs.Chain.{ended, inquired, passed_over, refused, served, stopping, taken_over, ticked, unrequested, withheld}
use Rattle.gw_service.specs.declared.running.RunEnd.{RunEnd}
use Rattle.gw_service.specs.declared.running.RunEnd.TheVariants as end
use Rattle.gw_wire.specs.declared.store.StoreFault.{StoreFault}
use Rattle.gw_service.specs.Fault.{fault_of_serving}
use Rattle.gw_service.specs.Keeping.{IsKeptAtTick, IsKeptFor, IsPassed, failing_in, troubles_in}
use Rattle.gw_service.specs.Kept.{Given, KeepsFirst, RunsBy, first_stage, outcome_by, reporting_of}
use Rattle.gw_service.specs.Plain.{RunsKept, manner_of}
use Rattle.gw_service.specs.Laws.{FindsNone, IsAsServed, NobodyAsks}
use Rattle.gw_service.specs.Serving.{Ends, Serves, Service, first_scene}
use Rattle.gw_service.specs.Start.{BeginsAs, begun}
use Rattle.gw_service.specs.Stats.{Reporting}
use Rattle.gw_service.specs.declared.fault.ServiceFault.{ServiceFault}
use Rattle.gw_service.specs.declared.keeping.Kept.{Kept}
use Rattle.gw_service.specs.declared.keeping.Kept.TheVariants.{Nowhere, In}
use Rattle.gw_service.proofs.ChainLemmas.{turns_counted, unsynced_chain, went_turns}
use Rattle.gw_service.proofs.WatchedLemmas.{as_unwatched}

-- ---- nobody asks

-- no look finds a request then
pub looks_none : {K : Type 0} (Adopts : K → Configuration → State → K → Type 0) (c d : Configuration) (s t : Standing K) (look : Look)
    → IsLooked Adopts c s look d t → s.requests ≡ nobody → (look ≡ unrequested) × IsUnrequested c s d t × (t.requests ≡ nobody)
looks_none Adopts c d s t unrequested is none =
    let goes = subst (λ (a : Asking). GoesOn a t.requests (unasked ∷ [])) none is.requests in (refl, is, goes.0)
looks_none Adopts c d s t passed_over is none =
    let goes = subst (λ (a : Asking). GoesOn a t.requests (untaken ∷ [])) none is.requests in absurd goes.1.0
looks_none Adopts c d s t stopping is none =
    let goes = subst (λ (a : Asking). GoesOn a t.requests (asked_to_stop ∷ [])) none is.requests in absurd goes.1.0
looks_none Adopts c d s t (inquired answer) is none =
    let goes = subst (λ (a : Asking). GoesOn a t.requests (asked_to_say ∷ answered answer ∷ [])) none is.requests in absurd goes.1.0
looks_none Adopts c d s t (refused read f line) is none =
    let goes = subst (λ (a : Asking). GoesOn a t.requests (asked read ∷ answered line ∷ [])) none is.requests in absurd goes.1.0
looks_none Adopts c d s t (taken_over text new) is none =
    let line = taken_over_line s.gateway new (saved c s.gateway) in
    let goes = subst (λ (a : Asking). GoesOn a t.requests (asked (Ok (Some text)) ∷ answered line ∷ [])) none is.requests in
    absurd goes.1.0

pub link_none : {K : Type 0} (manner : Manner K) (s t : Stage K) (link : Link) → IsLink manner s link t → s.requests ≡ nobody
    → FindsNone link × (t.config ≡ s.config) × (t.requests ≡ nobody) × (t.counts ≡ s.counts)
link_none manner s t (served turns) is none = (tt, is.config, is.requests ∙ none, is.counts)
link_none manner s t (ticked turns look text) is none =
    let found = looks_none manner.Adopts s.config t.config _ _ look is.done.looked none in
    (found.0, found.1.stays.config, found.2, found.1.counts)
link_none manner s t (withheld turns event text) is none = (tt, is.config, is.requests ∙ none, is.counts)
link_none manner s t (ended turns text) is none = absurd is

chain_none : {K : Type 0} (manner : Manner K) (s t : Stage K) (links : List Link) → AreLinks manner s links t → s.requests ≡ nobody
    → AllByRecursion FindsNone links × (t.config ≡ s.config) × (t.requests ≡ nobody) × (t.counts ≡ s.counts)
unfolding AreLinks
chain_none manner s t [] chain none = (
  tt,
  ap (λ (x : Stage _). x.config) chain,
  ap (λ (x : Stage _). x.requests) chain ∙ none,
  ap (λ (x : Stage _). x.counts) chain,
)
chain_none manner s t (link ∷ links) chain none =
    let first = link_none manner s chain.0 link chain.1 none in
    let later = chain_none manner chain.0 t links chain.2 first.2 in
    ((first.0, later.0), later.1 ∙ first.1, later.2, later.3 ∙ first.3)

-- nobody asks to stop then
pub never_stops : {K : Type 0} (manner : Manner K) (s t : Stage K) (links : List Link) → RunsToStop manner s links t → s.requests ≡ nobody → ⊥
never_stops manner s t links runs none =
    let chain = chain_none manner s runs.then runs.before runs.chain none in
    let found = looks_none manner.Adopts runs.then.config t.config _ _ stopping runs.stops.done.looked chain.2 in
    stops_for_none found.0
  where
    stops_for_none : stopping ≡ unrequested → ⊥
    stops_for_none is = absurd cc

pub nobody_asks : {K : Type 0} (manner : Manner K) → NobodyAsks manner
nobody_asks manner count s t (Ok end.Stopped) links runs none = absurd (never_stops manner s t links runs none)
nobody_asks manner count s t (Ok end.Turns) links runs none =
    let chain = chain_none manner s t links runs.chain none in record {
      looks = All-from_recursion FindsNone links chain.0;
      config = chain.1;
      requests = chain.2;
      counts = chain.3;
    }
nobody_asks manner count s t (Ok end.Unsynced) links runs none =
    let chain = chain_none manner s t links (unsynced_chain manner count s t links runs) none in record {
      looks = All-from_recursion FindsNone links chain.0;
      config = chain.1;
      requests = chain.2;
      counts = chain.3;
    }
nobody_asks manner count s t (Err f) links runs none =
    let chain = chain_none manner s runs.then links runs.chain none in record {
      looks = All-from_recursion FindsNone links chain.0;
      config = runs.ends.config ∙ chain.1;
      requests = runs.ends.requests ∙ chain.2;
      counts = runs.ends.counts ∙ chain.3;
    }

-- ---- nothing keeps the state

pub first_nowhere : {S : Type 0} (held : S → Option (List ℕ)) (store : Option S) (c : Configuration) (w : State) (k : Kept S) → store ≡ None
    → KeepsFirst held store c w k → k ≡ Nowhere
first_nowhere held None c w Nowhere is keeps = refl
first_nowhere held None c w (In k) is keeps = absurd keeps
first_nowhere held (Some store) c w k is keeps = absurd cc

passed_nowhere : {S : Type 0} (held : S → Option (List ℕ)) (w : State) (event : Event) (passes : Bool) (k l : Kept S) → k ≡ Nowhere
    → IsPassed held k w event l passes → (l ≡ Nowhere) × (passes ≡ true)
passed_nowhere held w event passes Nowhere Nowhere is passed = (refl, passed)
passed_nowhere held w event passes Nowhere (In l) is passed = absurd passed
passed_nowhere held w event passes (In k) l is passed = absurd cc

ticked_nowhere : {S : Type 0} (held : S → Option (List ℕ)) (w : State) (k l : Kept S) → k ≡ Nowhere → IsKeptAtTick held k w l → l ≡ Nowhere
ticked_nowhere held w Nowhere Nowhere is keeps = refl
ticked_nowhere held w Nowhere (In l) is keeps = absurd keeps
ticked_nowhere held w (In k) l is keeps = absurd cc

turn_nowhere : {S : Type 0} (held : S → Option (List ℕ)) (w : State) (turn : Turn) (k l : Kept S) → k ≡ Nowhere
    → GuardsTurn (IsPassed held) k w turn l → l ≡ Nowhere
turn_nowhere held w empty_turn k l is guards = guards ∙ is
turn_nowhere held w failed_turn k l is guards = guards ∙ is
turn_nowhere held w (lost_event event) k l is guards = guards ∙ is
turn_nowhere held w (taken_event event tries) k l is guards = (passed_nowhere held w event true k l is guards).0

turns_nowhere : {S : Type 0} (held : S → Option (List ℕ)) (w : State) (turns : List Turn) (k l : Kept S) → k ≡ Nowhere
    → AreGuarded (IsPassed held) k w turns l → l ≡ Nowhere
unfolding AreGuarded
turns_nowhere held w [] k l is guarded = guarded ∙ is
turns_nowhere held w (turn ∷ turns) k l is guarded =
    turns_nowhere held (state_from w (turn_events turn)) turns guarded.0 l (turn_nowhere held w turn k guarded.0 is guarded.1) guarded.2

-- ---- nothing is announced

-- a gateway that doesn't announce
abbrev pub IsQuiet : State → Type 0
IsQuiet w = w.relay.announce ≡ false

-- ---- stretches one after the other are one serving

-- a scene by its parts
scene_as : (a : Scene) (w : State) (log : Option (List ℕ)) (calls : Option (List Call)) → a.gateway ≡ w → a.log ≡ log → a.calls ≡ calls
    → a ≡ scene w log calls
scene_as a w log calls is_w is_log is_calls =
    ap (λ (x : State). scene x a.log a.calls) is_w ∙ ap (λ (x : Option (List ℕ)). scene w x a.calls) is_log
    ∙ ap (λ (x : Option (List Call)). scene w log x) is_calls

counts_along : (s : Served) (turns more : List Turn) → counts_after s (turns ++ more) ≡ counts_after (counts_after s turns) more
unfolding counts_after
counts_along s [] more = refl
counts_along s (turn ∷ turns) more = counts_along (count_turn s turn) turns more

-- From one stage to another these turns were served, nothing keeps the state then, and the gateway doesn't announce.
pub record AreServed {S : Type 0} (s t : Stage (Kept S)) : Type 0 where
  pub turns : List Turn
  pub led : LeadTo s.now.scene turns t.now.scene
  pub counts : t.now.served ≡ counts_after s.now.served turns
  pub nowhere : t.now.guard ≡ Nowhere
  pub quiet : IsQuiet t.now.scene.gateway

-- a gateway that doesn't announce goes on so
stays_quiet : (a b : Scene) (turns : List Turn) → LeadTo a turns b → IsQuiet a.gateway → IsQuiet b.gateway
stays_quiet a b turns led quiet =
    ap (λ (w : State). w.relay.announce) led.gateway ∙ announce_stays a.gateway (events_of turns) ∙ quiet

-- it calls the wire for no announcement
lead_quietly : (a : Scene) (calls : Option (List Call)) → Records a.calls calls [] → LeadTo a [] (scene a.gateway a.log calls)
lead_quietly a calls silent =
    let still = lead_nowhere a in
    record { each = still.each; gateway = still.gateway; log = still.log; calls = silent }

-- so turns lead on to where it would have announced
leads_on : (a b : Scene) (turns : List Turn) (calls : Option (List Call)) → LeadTo a turns b → Records b.calls calls []
    → LeadTo a turns (scene b.gateway b.log calls)
leads_on a b turns calls led silent =
    let along = lead_along a b (scene b.gateway b.log calls) turns [] led (lead_quietly b calls silent) in
    subst (λ (l : List Turn). LeadTo a l (scene b.gateway b.log calls)) (append-nil turns) along

pub link_serves : {S : Type 0} (held : S → Option (List ℕ)) (how : Reporting) (s t : Stage (Kept S)) (link : Link)
    → IsLink (manner_of held how) s link t → s.requests ≡ nobody → s.now.guard ≡ Nowhere → IsQuiet s.now.scene.gateway → AreServed s t
link_serves held how s t (served turns) is none nowhere quiet = record {
  turns = turns;
  led = is.went.went;
  counts = is.went.counts;
  nowhere = turns_nowhere held s.now.scene.gateway turns s.now.guard t.now.guard nowhere is.went.guarded;
  quiet = stays_quiet s.now.scene t.now.scene turns is.went.went quiet;
}
link_serves held how s t (ticked turns look text) is none nowhere quiet =
    let found = looks_none (IsKeptFor held) s.config t.config _ _ look is.done.looked none in
    let guard = turns_nowhere held s.now.scene.gateway turns s.now.guard is.then.guard nowhere is.went.guarded in
    let kept = ticked_nowhere held is.then.scene.gateway is.then.guard is.done.keeper guard is.done.ticks in
    let then = t.now.scene in
    let is_quiet = ap (λ (w : State). w.relay.announce) found.1.stays.gateway
    ∙ stays_quiet s.now.scene is.then.scene turns is.went.went quiet in
    let silent = unannounced_is_silent is.due t.announcing then.gateway is.then.scene.calls then.calls is_quiet is.announced in
    let same = scene_as (scene is.then.scene.gateway is.then.scene.log then.calls) then.gateway then.log then.calls
    (sym found.1.stays.gateway) (sym is.rest.log) refl in
    record {
      turns = turns;
      led = subst (λ (x : Scene). LeadTo s.now.scene turns x) same
          (leads_on s.now.scene is.then.scene turns then.calls is.went.went silent);
      counts = is.rest.served ∙ is.went.counts;
      nowhere = found.1.stays.keeper ∙ kept;
      quiet = is_quiet;
    }
link_serves held how s t (withheld turns event text) is none nowhere quiet =
    let guard = turns_nowhere held s.now.scene.gateway turns s.now.guard is.then.guard nowhere is.went.guarded in
    let passed = passed_nowhere held is.then.scene.gateway event false is.then.guard t.now.guard guard is.last.passes in
    absurd (true≢false (sym passed.1))
link_serves held how s t (ended turns text) is none nowhere quiet = absurd is

chain_serves : {S : Type 0} (held : S → Option (List ℕ)) (how : Reporting) (s t : Stage (Kept S)) (links : List Link)
    → AreLinks (manner_of held how) s links t → s.requests ≡ nobody → s.now.guard ≡ Nowhere → IsQuiet s.now.scene.gateway → AreServed s t
unfolding AreLinks counts_after
chain_serves held how s t [] chain none nowhere quiet = record {
  turns = [];
  led = subst (λ (x : Stage (Kept _)). LeadTo s.now.scene [] x.now.scene) (sym chain) (lead_nowhere s.now.scene);
  counts = ap (λ (x : Stage (Kept _)). x.now.served) chain;
  nowhere = ap (λ (x : Stage (Kept _)). x.now.guard) chain ∙ nowhere;
  quiet = ap (λ (x : Stage (Kept _)). x.now.scene.gateway.relay.announce) chain ∙ quiet;
}
chain_serves held how s t (link ∷ links) chain none nowhere quiet =
    let first = link_serves held how s chain.0 link chain.1 none nowhere quiet in
    let still = link_none (manner_of held how) s chain.0 link chain.1 none in
    let later = chain_serves held how chain.0 t links chain.2 still.2 first.nowhere first.quiet in
    record {
      turns = first.turns ++ later.turns;
      led = lead_along s.now.scene chain.0.now.scene t.now.scene first.turns later.turns first.led later.led;
      counts = later.counts ∙ ap (λ (x : Served). counts_after x later.turns) first.counts
          ∙ sym (counts_along s.now.served first.turns later.turns);
      nowhere = later.nowhere;
      quiet = later.quiet;
    }

-- ---- a run

-- a stop is one by its fault
by_fault : (c : Configuration) (turns : ℕ) (last : State) (before after : Ends) (by : ServeFault) (done : Served)
    → Stops turns (first_scene c before) (record { fault = by; served = done }) (scene last after.log after.calls)
    → Serves c turns before after (Err (fault_of_serving by))
by_fault c turns last before after serving.Log done stops = inl (record { gateway = last; served = done; stops = stops })
by_fault c turns last before after serving.Memory done stops = inl (record { gateway = last; served = done; stops = stops })
by_fault c turns last before after serving.CountEnd done stops = record { gateway = last; served = done; stops = stops }

stopped : (c : Configuration) (count : ℕ) (before after : Ends) (moment last : Scene) (turns : List Turn) (f : ServeFault) (event : Event)
    (unwritten : List ℕ)
    → length turns < count → LeadTo (first_scene c before) turns moment → EndsBy f unwritten moment event last → last.log ≡ after.log
    → last.calls ≡ after.calls → Serves c count before after (Err (fault_of_serving f))
stopped c count before after moment last turns f event unwritten fewer went ends log calls =
    let same = scene_as last last.gateway after.log after.calls refl log calls in
    by_fault c count last.gateway before after f (count_fault (counts_of turns) f) (record {
      turns = turns;
      fewer = fewer;
      moment = moment;
      went = went;
      event = event;
      unwritten = unwritten;
      last = subst (λ (x : Scene). EndsBy f unwritten moment event x) same ends;
      counts = refl;
    })

run_serves : {S : Type 0} (held : S → Option (List ℕ)) (how : Reporting) (count : ℕ) (c : Configuration) (before after : Ends)
    (s t : Stage (Kept S)) (answer : Result RunEnd ServeFault) (failing : Option StoreFault) (links : List Link)
    → Runs (manner_of held how) count s answer links t → s.requests ≡ nobody → s.now.guard ≡ Nowhere → IsQuiet s.now.scene.gateway
    → LeadTo (first_scene c before) [] s.now.scene → t.now.scene.log ≡ after.log → t.now.scene.calls ≡ after.calls
    → Serves c count before after (outcome_by answer failing)
run_serves held how count c before after s t (Ok end.Stopped) failing links runs none nowhere quiet at log calls =
    absurd (never_stops (manner_of held how) s t links runs none)
run_serves held how count c before after s t (Ok end.Turns) failing links runs none nowhere quiet at log calls =
    let led = chain_serves held how s t links runs.chain none nowhere quiet in
    let from = lead_along (first_scene c before) s.now.scene t.now.scene [] led.turns at led.led in
    let same = scene_as t.now.scene t.now.scene.gateway after.log after.calls refl log calls in
    let counted = ap (λ (x : Served). x.turns) led.counts in
    record {
      gateway = t.now.scene.gateway;
      served = counts_of led.turns;
      serves = record {
        turns = led.turns;
        all = omega (arith, runs.turns, counted, turns_counted s.now.served led.turns);
        went = subst (λ (x : Scene). LeadTo (first_scene c before) led.turns x) same from;
        counts = refl;
      };
    }
run_serves held how count c before after s t (Ok end.Unsynced) failing links runs none nowhere quiet at log calls =
    let first = first_scene c before in
    let tick = taken_event event.Tick runs.tries ∷ [] in
    let turns = runs.turns ++ tick in
    let led = chain_serves held how s runs.then runs.before runs.chain none nowhere quiet in
    let all = led.turns ++ turns in
    let from = lead_along first s.now.scene runs.then.now.scene [] led.turns at led.led in
    let went = lead_along first runs.then.now.scene t.now.scene led.turns turns from runs.goes.went.went in
    let same = scene_as t.now.scene t.now.scene.gateway after.log after.calls refl log calls in
    let counted = ap (λ (x : Served). x.turns) led.counts in
    inr (record {
      gateway = t.now.scene.gateway;
      served = counts_of all;
      count = length all;
      most = omega (
        arith,
        runs.most,
        counted,
        turns_counted s.now.served led.turns,
        length-append led.turns turns,
        went_turns (IsPassed held) runs.then.now t.now turns runs.goes.went,
      );
      serves = record { turns = all; all = refl; went = subst (λ (x : Scene). LeadTo first all x) same went; counts = refl };
      earlier = led.turns ++ runs.turns;
      tries = runs.tries;
      tick = sym (append_assoc led.turns runs.turns tick);
    })
run_serves held how count c before after s t (Err f) failing links runs none nowhere quiet at log calls =
    let led = chain_serves held how s runs.then links runs.chain none nowhere quiet in
    let from = lead_along (first_scene c before) s.now.scene runs.then.now.scene [] led.turns at led.led in
    let end = runs.ends.ends in
    let counted = ap (λ (x : Served). x.turns) led.counts in
    stopped c count before after end.then.scene t.now.scene (led.turns ++ end.turns) f end.event runs.unwritten
    (omega (arith, runs.most, end.fewer, counted, turns_counted s.now.served led.turns, length-append led.turns end.turns))
    (lead_along (first_scene c before) runs.then.now.scene end.then.scene led.turns end.turns from end.went.went) end.last.last log calls

-- without a state and a line of a log a gateway begins as one to which nothing came
begins_first : (c : Configuration) (state : Option Saved) (line : Option (List ℕ)) (w : State) → state ≡ None → line ≡ None
    → BeginsAs c state line w → w ≡ state_after c no_counts []
begins_first c None None w no_state no_line begins =
    begins.state ∙ ap (λ (k : Counts). record (begun c begins.numbered) { ticks = k.ticks; denials = k.denials }) begins.from
    ∙ ap (begun c) begins.is
begins_first c None (Some line) w no_state no_line begins = absurd cc
begins_first c (Some state) line w no_state no_line begins = absurd cc

pub begins_quiet : (c : Configuration) (state : Option Saved) (line : Option (List ℕ)) (w : State) → state ≡ None → line ≡ None
    → c.announce ≡ false → BeginsAs c state line w → IsQuiet w
begins_quiet c state line w no_state no_line announces_none begins =
    ap (λ (x : State). x.relay.announce) (begins_first c state line w no_state no_line begins) ∙ announce_after c no_counts [] ∙ announces_none

kept_serves : {S Q L : Type 0} (given : Given S Q L) → given.saved ≡ None → given.line ≡ None → given.store ≡ None → given.requests ≡ None
    → (c : Configuration) (how : Service) (before after : Ends) (text : List ℕ) (outcome : Result (Unit {0}) ServiceFault)
    → c.announce ≡ false → RunsKept given c how before after text outcome → Serves c how.turns before after outcome
kept_serves given no_state no_line no_store no_requests c how before after text outcome announces_none runs =
    let fresh = begins_first c given.saved given.line runs.gateway no_state no_line runs.begins in
    let quiet = begins_quiet c given.saved given.line runs.gateway no_state no_line announces_none runs.begins in
    let first = first_stage given c runs.gateway runs.keeper (troubles_in runs.keeper) before in
    let begun = runs.runs.begun in
    let is : begun ≡ announced_at first begun.announcing begun.now.scene.calls = runs.runs.begins.is in
    let silent = unannounced_is_silent first.announcing begun.announcing runs.gateway before.calls begun.now.scene.calls quiet
    runs.runs.begins.announced in
    let at = lead_quietly (scene runs.gateway before.log before.calls) begun.now.scene.calls silent in
    let from = subst (λ (x : Scene). LeadTo (scene runs.gateway before.log before.calls) [] x)
    (sym (ap (λ (x : Stage (Kept _)). x.now.scene) is)) at in
    subst (λ (x : Result (Unit {0}) ServiceFault). Serves c how.turns before after x) (sym runs.answers)
    (run_serves given.held (reporting_of given how runs.gateway) how.turns c before after begun runs.runs.last runs.answer
    (failing_in runs.left.keeper) runs.runs.links
    runs.runs.runs (ap (λ (x : Stage (Kept _)). x.requests) is ∙ ap (recorded_by given.said) no_requests)
    (ap (λ (x : Stage (Kept _)). x.now.guard) is ∙ first_nowhere given.held given.store c runs.gateway runs.keeper no_store runs.keeps)
    (ap (λ (x : Stage (Kept _)). x.now.scene.gateway.relay.announce) is ∙ quiet)
    (subst (λ (w : State). LeadTo (scene w before.log before.calls) [] begun.now.scene) fresh from)
    runs.runs.log runs.runs.calls)

pub as_served : {S Q L : Type 0} (given : Given S Q L) → IsAsServed given
as_served given no_state no_line no_store no_requests c how before after text outcome ends quiet (inl runs) =
    let other = as_unwatched given c how before after text outcome
    (subst (λ (h : Bool). RunsBy given h c how before after text outcome) ends runs) in
    kept_serves given no_state no_line no_store no_requests c how before after other.0 outcome quiet other.1
as_served given no_state no_line no_store no_requests c how before after text outcome ends quiet (inr unbegun) =
    subst (λ (x : Result (Unit {0}) ServiceFault). Serves c how.turns before after x) (sym unbegun.2) (inr unbegun.0)
