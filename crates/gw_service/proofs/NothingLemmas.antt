-- A run that watches nothing is the plain run.
use Rattle.std.proofs.Common.{◌≡◌, ◌∙◌, ℕ, List, [], ◌++◌, Bool, true, false, refl, sym, ap, ap₂, subst, inl, inr, Option, Some, None}
use Rattle.std.specs.Prelude.{◌+◌, ◌-◌, ◌^◌, ◌||◌, ◌&&◌, if◌then◌else◌, is_some, min, not, option_map}
use Rattle.gw_configuration.specs.Configuration.{Configuration}
use Rattle.gw_core.specs.Asked.{asked_at}
use Rattle.gw_core.specs.History.{next}
use Rattle.gw_core.specs.State.{State}
use Rattle.gw_core.specs.declared.asked.Asked.{Asked}
use Rattle.gw_core.specs.declared.event.Counts.{Counts}
use Rattle.gw_core.specs.declared.guard.BothGuards.{BothGuards}
use Rattle.gw_script.specs.Event.{Event}
use Rattle.gw_turns.specs.declared.announcing.Announcing.{Announcing}
use Rattle.gw_turns.specs.declared.serving.Served.{Served}
use Rattle.gw_turns.specs.declared.tally.DropTally.{DropTally}
use Rattle.gw_notices.specs.Stats.{lost_metrics_text, put_off_text, reloads_text, unkept_text}
use Rattle.gw_notices.specs.declared.reload.ReloadCounts.{ReloadCounts}
use Rattle.gw_notices.specs.declared.troubles.Troubles.{Troubles}
use Rattle.gw_turns.specs.Reports.{announcing_text}
use Rattle.gw_watchers.specs.Watching.{HasWatched, IsAudited, IsCounted, IsTried, Watching, is_watching, with_marks}
use Rattle.gw_watchers.specs.files.Trial.{is_same_format}
use Rattle.gw_watchers.specs.declared.beside.Beside.{Beside}
use Rattle.gw_watchers.specs.declared.trial.Trial.{Trial}
use Rattle.gw_wire.specs.declared.store.StoreFault.{StoreFault}
use Rattle.gw_service.specs.Holding.{held_text, more_holding, unheld}
use Rattle.gw_service.specs.Keeping.{IsPassed, failing_in, troubles_in, unkept_in}
use Rattle.gw_service.specs.Kept.{Given, RunsFrom, RunsFromHolding, first_stage, reporting_of, rest, unkept_of, watched_holding_manner_of, watched_manner_of}
use Rattle.gw_service.specs.Laws.{IsAsPlain}
use Rattle.gw_service.specs.Plain.{WatchesNothing, holding_manner_of, manner_of, no_more}
use Rattle.gw_service.specs.Start.{counts_of}
use Rattle.gw_service.specs.Stats.{Reporting, all_stats, due_by, due_stats, due_with, end_by, end_stats, minute_text, stats_text, tries_text, whole}
use Rattle.gw_service.specs.Watch.{WatchesOn, has_lost, has_watched, more_of, troubles_of, watcher_text}
use Rattle.gw_service.specs.declared.holding.Holding.{Holding}
use Rattle.gw_service.specs.declared.keeping.Kept.{Kept}
use Rattle.gw_service.proofs.AlongLemmas.{Follows, held_by, runs_from_holding_so, runs_from_so}

-- ---- nothing stays nothing

tried_none : {T : Type 0} (held : T → Option (List ℕ)) (w : State) (asked : List Asked) (before after : Option (Beside Trial T))
    → before ≡ None → IsTried held w asked before after → after ≡ None
tried_none held w asked None None is tried = refl
tried_none held w asked None (Some after) is tried = absurd tried
tried_none held w asked (Some before) after is tried = absurd cc

audited_none : {A : Type 0} (held : A → Option (List ℕ)) (w : State) (asked : List Asked) (before after : Option (Beside (List Bool) A))
    → before ≡ None → IsAudited held w asked before after → after ≡ None
audited_none held w asked None None is audited = refl
audited_none held w asked None (Some after) is audited = absurd audited
audited_none held w asked (Some before) after is audited = absurd cc

counted_none : (asked : List Asked) (before after : Option (List ℕ)) → before ≡ None → IsCounted asked before after → after ≡ None
counted_none asked None None is counted = refl
counted_none asked None (Some after) is counted = absurd counted
counted_none asked (Some before) after is counted = absurd cc

watched_nothing : {T A : Type 0} (trial : T → Option (List ℕ)) (audit : A → Option (List ℕ)) (before after : Watching T A) (w : State)
    (event : Event) (passes : Bool) → WatchesNothing before → HasWatched trial audit before w event after passes → WatchesNothing after
watched_nothing trial audit before after w event passes none (is, inl watched) = record {
  trial = tried_none trial (next w event) (asked_at w event) before.trial after.trial none.trial watched.tried;
  audit = audited_none audit (next w event) (asked_at w event) before.audit after.audit none.audit watched.audited;
  counts = counted_none (asked_at w event) before.counts after.counts none.counts watched.counted;
  ended = watched.ended ∙ none.ended;
}
watched_nothing trial audit before after w event passes none (is, inr missed) = record {
  trial = ap (λ (x : Watching _ _). x.trial) missed.1 ∙ none.trial;
  audit = ap (λ (x : Watching _ _). x.audit) missed.1 ∙ none.audit;
  counts = ap (λ (x : Watching _ _). x.counts) missed.1 ∙ none.counts;
  ended = ap (λ (x : Watching _ _). x.ended) missed.1 ∙ none.ended;
}

and_false : (b : Bool) → (b && false) ≡ false
and_false true = refl
and_false false = refl

goes_on_nothing : {T A : Type 0} (c : Configuration) (before after : Watching T A) → WatchesNothing before → WatchesOn c before after
    → WatchesNothing after
goes_on_nothing {T} {A} c before after none on =
    let base : Watching T A = record before { audit = option_map (with_marks c.audits) before.audit; counts = option_map (λ _. on.counts) before.counts } in
    let other = not (is_same_format before.format c.format) in
    let never : (other && is_some before.trial) ≡ false = ap (λ (x : Option (Beside Trial T)). other && is_some x) none.trial ∙ and_false other in
    let same : after ≡ base = on.goes_on ∙ ap (λ (b : Bool). if b then record base { trial = None; ended = true } else base) never in
    record {
      trial = ap (λ (x : Watching _ _). x.trial) same ∙ none.trial;
      audit = ap (λ (x : Watching _ _). x.audit) same ∙ ap (λ (x : Option (Beside (List Bool) A)). option_map (with_marks c.audits) x) none.audit;
      counts = ap (λ (x : Watching _ _). x.counts) same ∙ ap (λ (x : Option (List ℕ)). option_map (λ _. on.counts) x) none.counts;
      ended = ap (λ (x : Watching _ _). x.ended) same ∙ none.ended;
    }

-- ---- nothing is said of it

nothing_watched : {T A : Type 0} (w : Watching T A) → WatchesNothing w → has_watched w ≡ false
nothing_watched w none =
    ap (λ (x : Option (Beside Trial _)). (is_some x || (is_some w.audit || is_some w.counts)) || w.ended) none.trial
    ∙ ap (λ (x : Option (Beside (List Bool) _)). (is_some x || is_some w.counts) || w.ended) none.audit
    ∙ ap (λ (x : Option (List ℕ)). is_some x || w.ended) none.counts
    ∙ none.ended

more_nothing : {S L : Type 0} (k : BothGuards (Watching L L) (Kept S)) → WatchesNothing k.first → (rules : Bool) (w : State)
    → more_of k rules w ≡ []
more_nothing k none rules w = ap (λ (b : Bool). if b then watcher_text k.first rules w else []) (nothing_watched k.first none)

abbrev troubled : Option StoreFault → (trial audit is_ended : Bool) → Troubles
troubled failing trial audit is_ended = record { state = failing; trial = trial; audit = audit; ended = is_ended }

troubles_nothing : {S L : Type 0} (k : BothGuards (Watching L L) (Kept S)) → WatchesNothing k.first → troubles_of k ≡ troubles_in k.second
troubles_nothing {S} {L} k none =
    ap (λ (x : Option (Beside Trial L)). troubled (failing_in k.second) (has_lost x) (has_lost k.first.audit) k.first.ended) none.trial
    ∙ ap (λ (x : Option (Beside (List Bool) L)). troubled (failing_in k.second) false (has_lost x) k.first.ended) none.audit
    ∙ ap (λ (x : Bool). troubled (failing_in k.second) false false x) none.ended

-- ---- reports

module _ {K J : Type 0} (unkept : K → ℕ) (more : K → (rules : Bool) → State → List ℕ) (unkept_then : J → ℕ)
    (more_then : J → (rules : Bool) → State → List ℕ) (k : K) (j : J) (same : unkept k ≡ unkept_then j)
    (mores : (rules : Bool) (w : State) → more k rules w ≡ more_then j rules w) where
  tries_same : (how : Reporting) (u : ReloadCounts) (a : Announcing) (m : Option ℕ) (w : State)
      → tries_text unkept more how k u a m w ≡ tries_text unkept_then more_then how j u a m w
  tries_same how u a m w =
      ap₂ (λ (n : ℕ) (x : List ℕ). unkept_text how.keeps n ++ (reloads_text how.reloads u ++ (lost_metrics_text m ++ (announcing_text a
      ++ (put_off_text a.put_off ++ x))))) same (mores how.rules w)

  due_same : (seconds : Option ℕ) (how : Reporting) (u : ReloadCounts) (a : Announcing) (m : Option ℕ) (w : State) (s : Served) (t : DropTally)
      → due_by seconds how.start w (minute_text how w s t) (λ n. stats_text how w s t (tries_text unkept more (due_with how w n) k u a m w))
      ≡ due_by seconds how.start w (minute_text how w s t) (λ n. stats_text how w s t (tries_text unkept_then more_then (due_with how w n) j u a m w))
  due_same None how u a m w s t = refl
  due_same (Some n) how u a m w s t =
      ap (λ (x : List ℕ). due_by (Some n) how.start w (minute_text how w s t) (λ _. stats_text how w s t x)) (tries_same (due_with how w n) u a m w)

  report_same : (how : Reporting) (u : ReloadCounts) (a : Announcing) (m : Option ℕ) (w : State) (s : Served) (t : DropTally)
      → due_stats unkept more how k u a m w s t ≡ due_stats unkept_then more_then how j u a m w s t
  report_same how u a m w s t = due_same how.seconds how u a m w s t

  status_same : (how : Reporting) (u : ReloadCounts) (a : Announcing) (m : Option ℕ) (w : State) (s : Served) (t : DropTally)
      → all_stats unkept more how k u a m w s t ≡ all_stats unkept_then more_then how j u a m w s t
  status_same how u a m w s t = ap (stats_text (whole how) w s t) (tries_same (whole how) u a m w)

  end_same : (how : Reporting) (u : ReloadCounts) (a : Announcing) (m : Option ℕ) (w : State) (s : Served) (t : DropTally)
      → end_stats unkept more how k u a m w s t ≡ end_stats unkept_then more_then how j u a m w s t
  end_same how u a m w s t = ap (end_by how.seconds) (status_same how u a m w s t)

-- ---- what watches nothing and keeps the state, and what keeps it

abbrev unwatching : {S L : Type 0} → BothGuards (Watching L L) (Kept S) → Type 0
unwatching k = WatchesNothing k.first

abbrev keeping : {S L : Type 0} → BothGuards (Watching L L) (Kept S) → Kept S
keeping k = k.second

follows : {S L : Type 0} (held : S → Option (List ℕ)) (log_held : L → Option (List ℕ)) (how : Reporting)
    → Follows unwatching keeping (watched_manner_of held log_held how) (manner_of held how)
follows held log_held how = record {
  passes = λ k l w event passes none p. (
    subst (λ (b : Bool). IsPassed held k.second w event l.second b) (sym (p.4 ∙ ap (λ (b : Bool). b && p.1) p.2.0)) p.3,
    watched_nothing log_held log_held k.first l.first w event p.0 none p.2,
  );
  ticks = λ k l w none p. (p.0, subst (λ (x : Watching _ _). WatchesNothing x) (sym p.1) none);
  adopts = λ k l c w none p. (p.0, goes_on_nothing c k.first l.first none p.1);
  lasts = λ k l w none p. (p.0, subst (λ (x : Watching _ _). WatchesNothing x) (sym p.1) none);
  troubles = λ k none. troubles_nothing k none;
  report = λ k none. report_same unkept_of more_of unkept_in no_more k k.second refl (more_nothing k none) how;
  status = λ k none. status_same unkept_of more_of unkept_in no_more k k.second refl (more_nothing k none) how;
  meters = λ w s t before after put. put;
}

-- the same of what withholds while lines wait
more_held : {S L : Type 0} (h : Holding (BothGuards (Watching L L) (Kept S))) → WatchesNothing h.keeper.first → (rules : Bool) (w : State)
    → more_holding more_of h rules w ≡ more_holding no_more (held_by keeping h) rules w
more_held h none rules w = ap (λ (x : List ℕ). x ++ held_text h.withheld h.waiting) (more_nothing h.keeper none rules w)

follows_holding : {S L : Type 0} (held : S → Option (List ℕ)) (log_held : L → Option (List ℕ)) (how : Reporting)
    → Follows (λ h. unwatching h.keeper) (held_by keeping) (watched_holding_manner_of held log_held how) (holding_manner_of held how)
follows_holding {S} {L} held log_held how =
    let plain = follows held log_held how in
    let unkept : Holding (BothGuards (Watching L L) (Kept S)) → ℕ = λ h. unkept_of h.keeper in
    let unkept_then : Holding (Kept S) → ℕ = λ h. unkept_in h.keeper in
    record {
      passes = λ k l w event passes none p.
          let passed = plain.passes k.keeper l.keeper w event p.answer none p.passed in
          (record { answer = p.answer; passed = passed.0; waiting = p.waiting; withheld = p.withheld; goes = p.goes }, passed.1);
      ticks = λ k l w none p.
          let does = plain.ticks k.keeper l.keeper w none p.does in
          (record { does = does.0; waiting = p.waiting; withheld = p.withheld }, does.1);
      adopts = λ k l c w none p.
          let does = plain.adopts k.keeper l.keeper c w none p.does in
          (record { does = does.0; waiting = p.waiting; withheld = p.withheld }, does.1);
      lasts = λ k l w none p.
          let does = plain.lasts k.keeper l.keeper w none p.does in
          (record { does = does.0; waiting = p.waiting; withheld = p.withheld }, does.1);
      troubles = λ k none. troubles_nothing k.keeper none;
      report = λ k none. report_same unkept (more_holding more_of) unkept_then (more_holding no_more) k (held_by keeping k) refl (more_held k none) how;
      status = λ k none. status_same unkept (more_holding more_of) unkept_then (more_holding no_more) k (held_by keeping k) refl (more_held k none) how;
      meters = λ w s t before after put. put;
    }

-- ---- the whole

pub as_plain : {S Q L : Type 0} (given : Given S Q L) → IsAsPlain given
as_plain given nothing false c how before after text outcome runs =
    let reports = reporting_of given how runs.gateway in
    let none = subst (λ (x : Watching _ _). WatchesNothing x) (sym runs.watches) nothing in
    record {
      gateway = runs.gateway;
      begins = runs.begins;
      keeper = runs.keeper.second;
      keeps = runs.keeps;
      answer = runs.answer;
      left = rest runs.left.keeper.second runs.left.requests;
      runs = subst (λ (x : Troubles). RunsFrom (manner_of given.held reports) (end_stats unkept_in no_more reports) (counts_of runs.gateway) how.turns
          (first_stage given c runs.gateway runs.keeper.second x before) runs.answer after (rest runs.left.keeper.second runs.left.requests) text)
          (troubles_nothing runs.keeper none)
          (runs_from_so unwatching keeping (watched_manner_of given.held given.log_held reports) (manner_of given.held reports)
          (follows given.held given.log_held reports) (end_stats unkept_of more_of reports) (end_stats unkept_in no_more reports)
          (λ k quiet. end_same unkept_of more_of unkept_in no_more k k.second refl (more_nothing k quiet) reports) (counts_of runs.gateway)
          how.turns (first_stage given c runs.gateway runs.keeper (troubles_of runs.keeper) before) runs.answer after runs.left text none runs.runs);
      answers = runs.answers;
    }
as_plain {S} {Q} {L} given nothing true c how before after text outcome runs =
    let reports = reporting_of given how runs.gateway in
    let none = subst (λ (x : Watching _ _). WatchesNothing x) (sym runs.watches) nothing in
    let unkept : Holding (BothGuards (Watching L L) (Kept S)) → ℕ = λ h. unkept_of h.keeper in
    let unkept_then : Holding (Kept S) → ℕ = λ h. unkept_in h.keeper in
    let left = rest (held_by keeping runs.left.keeper) runs.left.requests in
    record {
      gateway = runs.gateway;
      begins = runs.begins;
      keeper = runs.keeper.second;
      keeps = runs.keeps;
      answer = runs.answer;
      left = left;
      runs = subst (λ (x : Troubles). RunsFromHolding (holding_manner_of given.held reports) (end_stats unkept_then (more_holding no_more) reports)
          (counts_of runs.gateway) how.turns (first_stage given c runs.gateway (unheld runs.keeper.second) x before) runs.answer after left text)
          (troubles_nothing runs.keeper none)
          (runs_from_holding_so unwatching keeping (watched_holding_manner_of given.held given.log_held reports) (holding_manner_of given.held reports)
          (follows_holding given.held given.log_held reports) (end_stats unkept (more_holding more_of) reports)
          (end_stats unkept_then (more_holding no_more) reports)
          (λ k quiet. end_same unkept (more_holding more_of) unkept_then (more_holding no_more) k (held_by keeping k) refl (more_held k quiet) reports)
          (counts_of runs.gateway) how.turns (first_stage given c runs.gateway (unheld runs.keeper) (troubles_of runs.keeper) before) runs.answer
          after runs.left text none runs.runs);
      answers = runs.answers;
    }
