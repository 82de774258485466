-- What a run leaves that keeps its state, from what serving leads to.
use Rattle.std.proofs.Common.{◌≡◌, ◌∙◌, ℕ, Bool, true, false, List, [], ◌++◌, Option, Some, None, Result, Err, refl, sym, ap, subst, inl, inr, rules}
use Rattle.std.specs.Io.KnownBytes.{Appends, append_known}
use Rattle.gw_configuration.specs.Configuration.{Configuration}
use Rattle.gw_core.specs.State.{State}
use Rattle.gw_core.specs.declared.event.Counts.{Counts}
use Rattle.gw_state.specs.Saved.{Origin, origin_of}
use Rattle.gw_turns.specs.Announcing.{first_announcing}
use Rattle.gw_turns.specs.declared.announcing.Announcing.{Announcing}
use Rattle.gw_turns.specs.Serve.{Scene, scene, zero_counts}
use Rattle.gw_turns.specs.Stretch.{moment}
use Rattle.gw_turns.specs.Tally.{no_tally}
use Rattle.gw_wire.specs.Wire.{Call}
use Rattle.gw_turns.specs.declared.serving.ServeFault.{ServeFault}
use Rattle.gw_turns.specs.declared.serving.Served.{Served}
use Rattle.gw_turns.specs.declared.tally.DropTally.{DropTally}
use Rattle.gw_system.specs.Requests.{Asking, recorded_by}
use Rattle.gw_service.specs.Chain.{Begins, Link, Manner, Runs, Stage, chain_text, stage}
use Rattle.gw_service.specs.Keeping.{failing_in}
use Rattle.gw_service.specs.declared.running.RunEnd.{RunEnd}
use Rattle.gw_service.specs.Watch.{more_of, troubles_of}
use Rattle.gw_notices.specs.declared.troubles.Troubles.{Troubles}
use Rattle.gw_service.specs.Holding.{more_holding, unheld}
use Rattle.gw_service.specs.declared.holding.Holding.{Holding}
use Rattle.gw_service.specs.Kept.{EndsRun, Given, KeepsFirst, LeavesKept, Rest, RunsBy, RunsFrom, RunsFromHolding, outcome_by, reporting_of, unkept_of, watched_holding_manner_of, watched_manner_of}
use Rattle.gw_notices.specs.Notices.{no_troubles, notice_of}
use Rattle.gw_notices.specs.metrics.Writing.{Metering, nothing_written}
use Rattle.gw_service.specs.Metering.{metered}
use Rattle.gw_service.specs.Serving.{Ends, Service, ends, log_held}
use Rattle.gw_service.specs.Start.{BeginsAs, counts_of}
use Rattle.gw_notices.specs.Reload.{counts_since}
use Rattle.gw_service.specs.Stats.{Reporting, end_stats, reporting}
use Rattle.gw_service.specs.declared.fault.ServiceFault.{ServiceFault}
use Rattle.gw_service.specs.declared.fault.ServiceFault.TheVariants as fault
use Rattle.std.specs.Prelude.{Bool, is_some, ◌||◌, option_map}
use Rattle.gw_core.specs.declared.guard.BothGuards.{BothGuards}
use Rattle.gw_watchers.specs.Watching.{Watching}
use Rattle.gw_service.specs.declared.keeping.Kept.{Kept}
use Rattle.gw_notices.specs.declared.reload.ReloadCounts.{ReloadCounts}
use Rattle.gw_notices.proofs.AppendLemmas.{appends_nothing, appends_two}

-- A run reports first what isn't kept or recorded, and last it does what is due at its end.
pub ran_from : {K : Type 0} (manner : Manner K) (report : K → ReloadCounts → Announcing → Option ℕ → State → Served → DropTally → List ℕ)
    (start : Counts) (count : ℕ) (at begun : Troubles → Stage K) (p : Origin) (was is troubles : Troubles) (last : Configuration → Stage K)
    (answer : Result RunEnd ServeFault) (after : Ends) (left : Rest K) (Never Then Last : Type 0) (held middle third holds : Option (List ℕ))
    → was ≡ no_troubles → is ≡ troubles → ((t : Troubles) → (at t).said ≡ t) → ((t : Troubles) → Begins (at t) (begun t))
    → ((d : Configuration) × (links : List Link) × (p ≡ origin_of d) × Runs manner count (begun is) answer links (last d)
    × (Then → Appends middle third (chain_text links)))
    → ((d : Configuration) → (last d).now.scene.log ≡ after.log) → ((d : Configuration) → (last d).now.scene.calls ≡ after.calls)
    → (Never → Appends held middle (notice_of was is)) → (Never → Then) → (Then → Last)
    → ((d : Configuration) → (text : List ℕ) × EndsRun manner report start answer (last d) left text × (Last → Appends third holds text))
    → (text : List ℕ) × RunsFrom manner report start count (at troubles) answer after left text × (Never → Appends held holds text)
ran_from manner report start count at begun p was is troubles last answer after left Never Then Last held middle third holds untold failing records
    begins led log calls noticed lasts goes_on ended =
    let notice = notice_of no_troubles troubles in
    let final = ended led.0 in
    let same : notice_of was is ≡ notice =
    ap (λ (x : Troubles). notice_of x is) untold ∙ ap (notice_of no_troubles) failing in (
      (notice ++ chain_text led.1) ++ final.0,
      record {
        begun = begun troubles;
        begins = begins troubles;
        links = led.1;
        last = last led.0;
        runs = subst (λ (x : Troubles). Runs manner count (begun x) answer led.1 (last led.0)) failing led.3;
        log = log led.0;
        calls = calls led.0;
        end_text = final.0;
        ends = final.1;
        said = ap (λ (x : Troubles). (notice_of no_troubles x ++ chain_text led.1) ++ final.0) (sym (records troubles));
      },
      λ never. appends_two held third holds (notice ++ chain_text led.1) final.0
          (appends_two held middle third notice (chain_text led.1)
          (subst (λ (x : List ℕ). Appends held middle x) same (noticed never)) (led.4 (lasts never)))
          (final.2 (goes_on (lasts never))),
    )

-- a run from a stage whose parts are these
from_start : {K : Type 0} (how : Manner K) (report : K → ReloadCounts → Announcing → Option ℕ → State → Served → DropTally → List ℕ) (start : Counts)
    (count : ℕ) (c : Configuration) (now : Scene)
    (k : K) (s z : Served) (t n : DropTally) (q r : Asking) (u v : ReloadCounts) (a b : Announcing) (f : Troubles) (m e : Option Metering)
    (answer : Result RunEnd ServeFault) (after : Ends) (left : Rest K) (text : List ℕ) → s ≡ z → t ≡ n → q ≡ r → u ≡ v → a ≡ b → m ≡ e
    → RunsFrom how report start count (stage c (moment now k s t) q u a f m) answer after left text
    → RunsFrom how report start count (stage c (moment now k z n) r v b f e) answer after left text
from_start how report start count c now k s z t n q r u v a b f m e answer after left text served tally requests counts announcing metrics runs =
    subst (λ (x : Served). RunsFrom how report start count (stage c (moment now k x n) r v b f e) answer after left text) served
    (subst (λ (x : DropTally). RunsFrom how report start count (stage c (moment now k s x) r v b f e) answer after left text) tally
    (subst (λ (x : Asking). RunsFrom how report start count (stage c (moment now k s t) x v b f e) answer after left text) requests
    (subst (λ (x : ReloadCounts). RunsFrom how report start count (stage c (moment now k s t) q x b f e) answer after left text) counts
    (subst (λ (x : Announcing). RunsFrom how report start count (stage c (moment now k s t) q u x f e) answer after left text) announcing
    (subst (λ (x : Option Metering). RunsFrom how report start count (stage c (moment now k s t) q u a f x) answer after left text) metrics
    runs)))))

-- the counts of a gateway, one by one
pub same_counts : (k : Counts) (w : State) → k.ticks ≡ w.ticks → k.denials ≡ w.denials → k ≡ counts_of w
same_counts k w ticks denials =
    ap (λ (n : ℕ). record k { ticks = n }) ticks ∙ ap (λ (n : ℕ). record k { ticks = w.ticks; denials = n }) denials

-- what is reported of a run, by its parts
is_reporting : (stats : Option ℕ) (rules verbose : Bool) (start other : Counts) (keeps kept reloads read : Bool) → start ≡ other → keeps ≡ kept
    → reloads ≡ read → reporting stats rules start keeps reloads verbose ≡ reporting stats rules other kept read verbose
is_reporting stats rules verbose start other keeps kept reloads read starts is_kept is_read =
    ap (λ (x : Counts). reporting stats rules x keeps reloads verbose) starts
    ∙ ap (λ (x : Bool). reporting stats rules other x reloads verbose) is_kept
    ∙ ap (λ (x : Bool). reporting stats rules other kept x verbose) is_read

-- A gateway that began so ran so.
pub ran_watched : {S Q L : Type 0} (given : Given S Q L) (c : Configuration) (how : Service) (start : Counts)
    (keeps reloads : Bool) (turns : ℕ) (w : State) (k : BothGuards (Watching L L) (Kept S)) (s : Served) (t : DropTally) (q : Asking) (u : ReloadCounts)
    (a : Announcing) (m : Option Metering) (before after : Ends) (answer : Result RunEnd ServeFault)
    (left : Rest (BothGuards (Watching L L) (Kept S))) (outcome : Result (Unit {0}) ServiceFault) (Never : Type 0)
    (held holds : Option (List ℕ)) → turns ≡ how.turns → start ≡ counts_of w
    → BeginsAs c given.saved given.line w → KeepsFirst given.held given.store c w k.second → k.first ≡ given.watcher → s ≡ zero_counts → t ≡ no_tally
    → q ≡ recorded_by given.said given.requests → u ≡ counts_since w.ticks given.checksum → a ≡ first_announcing
    → m ≡ metered (option_map nothing_written given.metrics) → keeps ≡ (is_some given.requests || is_some given.store)
    → reloads ≡ is_some given.requests → how.holds ≡ false → outcome ≡ outcome_by answer (failing_in left.keeper.second)
    → ((text : List ℕ) × RunsFrom (watched_manner_of given.held given.log_held (reporting how.stats how.rules start keeps reloads how.verbose))
    (end_stats unkept_of more_of (reporting how.stats how.rules start keeps reloads how.verbose)) start turns
    (stage c (moment (scene w before.log before.calls) k s t) q u a (troubles_of k) m) answer after left text × (Never → Appends held holds text))
    → (text : List ℕ) × LeavesKept given c how before after text outcome × (Never → Appends held holds text)
ran_watched {S} given c how start keeps reloads turns w k s t q u a m before after answer left outcome Never held holds is_turns is_start begins is_kept watches
    served tally requests is_counts is_announcing is_metered is_keeps is_reloads ends answers ran =
    let at = stage c (moment (scene w before.log before.calls) k s t) q u a (troubles_of k) m in
    let same = is_reporting how.stats how.rules how.verbose start (counts_of w) keeps (is_some given.requests || is_some given.store) reloads (is_some given.requests)
    is_start is_keeps is_reloads in (
      ran.0,
      inl (subst (λ (h : Bool). RunsBy given h c how before after ran.0 outcome) (sym ends) (record {
        gateway = w;
        begins = begins;
        keeper = k;
        keeps = is_kept;
        watches = watches;
        answer = answer;
        left = left;
        runs = from_start (watched_manner_of given.held given.log_held (reporting_of given how w)) (end_stats unkept_of more_of (reporting_of given how w))
            (counts_of w) how.turns c (scene w before.log before.calls) k s zero_counts t no_tally q (recorded_by given.said given.requests) u (counts_since w.ticks given.checksum) a
            first_announcing (troubles_of k) m (metered (option_map nothing_written given.metrics)) answer after left ran.0 served tally requests is_counts is_announcing is_metered
            (subst (λ (x : Counts). RunsFrom (watched_manner_of given.held given.log_held (reporting_of given how w))
            (end_stats unkept_of more_of (reporting_of given how w)) x how.turns at answer after left ran.0) is_start
            (subst (λ (x : Reporting). RunsFrom (watched_manner_of given.held given.log_held x) (end_stats unkept_of more_of x) start how.turns at answer
            after left ran.0) same
            (subst (λ (n : ℕ). RunsFrom (watched_manner_of given.held given.log_held (reporting how.stats how.rules start keeps reloads how.verbose))
            (end_stats unkept_of more_of (reporting how.stats how.rules start keeps reloads how.verbose)) start n at answer after left ran.0) is_turns
            ran.1)));
        answers = answers;
      })),
      ran.2,
    )

-- a run from a stage whose parts are these, as one that goes on if its log fails
from_stage : {K : Type 0} (Runs : Stage K → Type 0) (c : Configuration) (now : Scene)
    (k : K) (s z : Served) (t n : DropTally) (q r : Asking) (u v : ReloadCounts) (a b : Announcing) (f : Troubles) (m e : Option Metering)
    → s ≡ z → t ≡ n → q ≡ r → u ≡ v → a ≡ b → m ≡ e → Runs (stage c (moment now k s t) q u a f m) → Runs (stage c (moment now k z n) r v b f e)
from_stage Runs c now k s z t n q r u v a b f m e served tally requests counts announcing metrics runs =
    subst (λ (x : Served). Runs (stage c (moment now k x n) r v b f e)) served
    (subst (λ (x : DropTally). Runs (stage c (moment now k s x) r v b f e)) tally
    (subst (λ (x : Asking). Runs (stage c (moment now k s t) x v b f e)) requests
    (subst (λ (x : ReloadCounts). Runs (stage c (moment now k s t) q x b f e)) counts
    (subst (λ (x : Announcing). Runs (stage c (moment now k s t) q u x f e)) announcing
    (subst (λ (x : Option Metering). Runs (stage c (moment now k s t) q u a f x)) metrics runs)))))

pub held_watched : {S Q L : Type 0} (given : Given S Q L) (c : Configuration) (how : Service) (start : Counts)
    (keeps reloads : Bool) (turns : ℕ) (w : State) (k : BothGuards (Watching L L) (Kept S)) (s : Served) (t : DropTally) (q : Asking) (u : ReloadCounts)
    (a : Announcing) (m : Option Metering) (before after : Ends) (answer : Result RunEnd ServeFault)
    (left : Rest (Holding (BothGuards (Watching L L) (Kept S)))) (outcome : Result (Unit {0}) ServiceFault) (Never : Type 0)
    (held holds : Option (List ℕ)) → turns ≡ how.turns → start ≡ counts_of w
    → BeginsAs c given.saved given.line w → KeepsFirst given.held given.store c w k.second → k.first ≡ given.watcher → s ≡ zero_counts → t ≡ no_tally
    → q ≡ recorded_by given.said given.requests → u ≡ counts_since w.ticks given.checksum → a ≡ first_announcing
    → m ≡ metered (option_map nothing_written given.metrics) → keeps ≡ (is_some given.requests || is_some given.store)
    → reloads ≡ is_some given.requests → how.holds ≡ true → outcome ≡ outcome_by answer (failing_in left.keeper.keeper.second)
    → ((text : List ℕ) × RunsFromHolding (watched_holding_manner_of given.held given.log_held (reporting how.stats how.rules start keeps reloads how.verbose))
    (end_stats (λ h. unkept_of h.keeper) (more_holding more_of) (reporting how.stats how.rules start keeps reloads how.verbose)) start turns
    (stage c (moment (scene w before.log before.calls) (unheld k) s t) q u a (troubles_of k) m) answer after left text × (Never → Appends held holds text))
    → (text : List ℕ) × LeavesKept given c how before after text outcome × (Never → Appends held holds text)
held_watched {S} {Q} {L} given c how start keeps reloads turns w k s t q u a m before after answer left outcome Never held holds is_turns is_start begins is_kept
    watches served tally requests is_counts is_announcing is_metered is_keeps is_reloads goes_on answers ran =
    let at = stage c (moment (scene w before.log before.calls) (unheld k) s t) q u a (troubles_of k) m in
    let report : Reporting → _ = λ (x : Reporting). end_stats (λ (h : Holding (BothGuards (Watching L L) (Kept S))). unkept_of h.keeper) (more_holding more_of) x in
    let now = reporting_of given how w in
    let same = is_reporting how.stats how.rules how.verbose start (counts_of w) keeps (is_some given.requests || is_some given.store) reloads (is_some given.requests)
    is_start is_keeps is_reloads in (
      ran.0,
      inl (subst (λ (h : Bool). RunsBy given h c how before after ran.0 outcome) (sym goes_on) (record {
        gateway = w;
        begins = begins;
        keeper = k;
        keeps = is_kept;
        watches = watches;
        answer = answer;
        left = left;
        runs = from_stage (λ x. RunsFromHolding (watched_holding_manner_of given.held given.log_held now) (report now) (counts_of w) how.turns x answer
            after left ran.0)
            c (scene w before.log before.calls) (unheld k) s zero_counts t no_tally q (recorded_by given.said given.requests) u (counts_since w.ticks given.checksum) a
            first_announcing (troubles_of k) m (metered (option_map nothing_written given.metrics)) served tally requests is_counts is_announcing is_metered
            (subst (λ (x : Counts). RunsFromHolding (watched_holding_manner_of given.held given.log_held now) (report now) x how.turns at answer after left
            ran.0) is_start
            (subst (λ (x : Reporting). RunsFromHolding (watched_holding_manner_of given.held given.log_held x) (report x) start how.turns at answer after
            left ran.0) same
            (subst (λ (n : ℕ). RunsFromHolding (watched_holding_manner_of given.held given.log_held
            (reporting how.stats how.rules start keeps reloads how.verbose))
            (report (reporting how.stats how.rules start keeps reloads how.verbose)) start n at answer after left ran.0) is_turns ran.1)));
        answers = answers;
      })),
      ran.2,
    )

-- nothing ran where there was no memory to begin
pub unbegun : {S Q L : Type 0} (given : Given S Q L) (c : Configuration) (how : Service) (at : Ends) (Never : Type 0) (held : Option (List ℕ))
    → (text : List ℕ) × LeavesKept given c how at at text (Err fault.Memory) × (Never → Appends held held text)
unbegun given c how at Never held = ([], inr (refl, refl, refl), λ never. appends_nothing held)

append_empty : (held : Option (List ℕ)) → append_known held [] ≡ held
append_empty None = refl
append_empty (Some held) = ap Some (search rules)

-- what holds of a log holds of standard output, of which nothing waits in the buffer
pub on_output : {Log : Type 0} (held : Log → Option (List ℕ)) (Holds : Ends → Ends → Type 0) (log : Option Log)
    (lent inner inner_then : Option (List ℕ)) (buffer : List ℕ) (calls calls_then : Option (List Call)) → log ≡ None → buffer ≡ []
    → lent ≡ inner → Holds (ends lent calls) (ends inner_then calls_then)
    → Holds (ends (log_held held log (append_known inner buffer)) calls) (ends (log_held held log (append_known inner_then buffer)) calls_then)
on_output held Holds log lent inner inner_then buffer calls calls_then no_log is_empty is_lent holds =
    let first : log_held held log (append_known inner buffer) ≡ lent =
    ap (λ l. log_held held l (append_known inner buffer)) no_log ∙ ap (append_known inner) is_empty ∙ append_empty inner ∙ sym is_lent in
    let last : log_held held log (append_known inner_then buffer) ≡ inner_then =
    ap (λ l. log_held held l (append_known inner_then buffer)) no_log ∙ ap (append_known inner_then) is_empty ∙ append_empty inner_then in
    subst (λ (x : Option (List ℕ)). Holds (ends x calls) (ends (log_held held log (append_known inner_then buffer)) calls_then)) (sym first)
    (subst (λ (x : Option (List ℕ)). Holds (ends lent calls) (ends x calls_then)) (sym last) holds)
