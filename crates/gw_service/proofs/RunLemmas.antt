-- What a watcher's logs and counts are after a run.
use Rattle.std.proofs.Common.{◌≡◌, ◌⊎◌, inl, inr, ◌∙◌, refl, sym, ap, subst, ℕ, ◌+◌, ◌-◌, ◌^◌, ◌<◌, Bool, true, false, List, [], ◌∷◌, ◌++◌, length, Option, Some, None, arith}
use Rattle.std.specs.Prelude.{is_some, ◌||◌, ◌==◌, min, if◌then◌else◌, slice_index}
use Rattle.std.specs.Io.KnownBytes.{Appends}
use Rattle.std.proofs.KnownBytes.{Appends-nil, Appends-trans}
use Rattle.std.proofs.lemmas.List.Concat.{flat_map-cons}
use Rattle.gw_core.specs.Asked.{asked_at, run_asked}
use Rattle.gw_core.specs.History.{next, state_from}
use Rattle.gw_core.specs.State.{State}
use Rattle.gw_core.specs.declared.asked.Asked.{Asked}
use Rattle.gw_rules.specs.declared.rule.Rule.{Rule}
use Rattle.gw_script.specs.Event.{Event}
use Rattle.gw_turns.specs.Serve.{Turn, empty_turn, events_of, failed_turn, lost_event, taken_event, turn_events}
use Rattle.gw_turns.specs.Stretch.{AreGuarded, GuardsTurn}
use Rattle.gw_watchers.specs.Beside.{IsRecorded, IsWritten, IsLost, ended}
use Rattle.gw_service.specs.WatchedRuns.{AuditIsWhole, CountsAreWhole, TrialIsWhole}
use Rattle.gw_watchers.specs.Laws.{run_records}
use Rattle.gw_watchers.specs.Records.{Line, audit_front, audited_by, last_number, lines_of, records, trial_front, tried_by}
use Rattle.gw_decisions.specs.Counted.{AreCounted, counted_on}
use Rattle.gw_watchers.specs.Watching.{HasWatched, IsAudited, IsCounted, IsTried, Missed, Watches, Watching, is_watching}
use Rattle.gw_watchers.specs.declared.beside.Beside.{Beside}
use Rattle.gw_watchers.specs.declared.trial.Trial.{Trial}
use Rattle.gw_core.specs.Effects.{NeedsNoMemory}
use Rattle.gw_decisions.specs.tally.Tally.{one_more, place_of}
use Rattle.gw_watchers.proofs.RecordLemmas.{lines_along}

-- ---- one log, event by event

-- what a log records of an event
abbrev Step : {C S : Type 0} → (S → Option (List ℕ)) → (C → List Rule → Asked → List ℕ) → (C → Asked → Option (Option ℕ)) → (C → List Rule → List Rule)
    → Beside C S → State → Event → Beside C S → Type 0
Step held front chosen naming b w e c =
    IsRecorded held
    (records (chosen b.choice) (front b.choice (next w e).rules) (naming b.choice (next w e).rules) b.number (next w e).ticks (asked_at w e)) b c

-- and of events
unfoldable Steps : {C S : Type 0} → (S → Option (List ℕ)) → (C → List Rule → Asked → List ℕ) → (C → Asked → Option (Option ℕ)) → (C → List Rule → List Rule)
    → Beside C S → State → List Event → Beside C S → Type 0
Steps held front chosen naming b w [] c = c ≡ b
Steps {C} {S} held front chosen naming b w (e ∷ events) c =
    (m : Beside C S) × Step held front chosen naming b w e m × Steps held front chosen naming m (next w e) events c

-- nothing is lost of records if nothing was lost after them
recorded_lost : {C S : Type 0} (held : S → Option (List ℕ)) (due : List Line) (b c : Beside C S)
    → IsRecorded held due b c → c.lost ≡ 0 → b.lost ≡ 0
recorded_lost held [] b c p none = ap (λ (x : Beside _ _). x.lost) (sym p) ∙ none
recorded_lost held (d ∷ due) b c p none = by p.text
  where
    by : IsWritten held (ended b.is_cut ++ lines_of (d ∷ due)) b c
        ⊎ IsLost held (ended b.is_cut ++ lines_of (d ∷ due)) (length (d ∷ due)) b c → b.lost ≡ 0
    by (inl written) = sym written.lost ∙ none
    by (inr lost) = absurd (omega (arith, lost.lost, none))

steps_lost : {C S : Type 0} (held : S → Option (List ℕ)) (front : C → List Rule → Asked → List ℕ) (chosen : C → Asked → Option (Option ℕ))
    (naming : C → List Rule → List Rule) (b c : Beside C S) (w : State) (events : List Event)
    → Steps held front chosen naming b w events c → c.lost ≡ 0 → b.lost ≡ 0
unfolding Steps
steps_lost held front chosen naming b c w [] p none = ap (λ (x : Beside _ _). x.lost) (sym p) ∙ none
steps_lost held front chosen naming b c w (e ∷ events) p none =
    recorded_lost held
    (records (chosen b.choice) (front b.choice (next w e).rules) (naming b.choice (next w e).rules) b.number (next w e).ticks (asked_at w e)) b p.0 p.1
    (steps_lost held front chosen naming p.0 c (next w e) events p.2 none)

-- records that aren't lost are there whole
record IsWhole {C S : Type 0} (held : S → Option (List ℕ)) (text : List ℕ) (b c : Beside C S) : Type 0 where
  choice : c.choice ≡ b.choice
  cut : c.is_cut ≡ false
  lines : Appends (held b.sink) (held c.sink) text

recorded_whole : {C S : Type 0} (held : S → Option (List ℕ)) (due : List Line) (b c : Beside C S)
    → IsRecorded held due b c → c.lost ≡ 0 → b.is_cut ≡ false
    → IsWhole held (lines_of due) b c × (c.number ≡ last_number b.number due)
recorded_whole held [] b c p none uncut =
    subst (λ (x : Beside _ _). IsWhole held [] b x × (x.number ≡ b.number)) (sym p)
    (record { choice = refl; cut = uncut; lines = Appends-nil (held b.sink) }, refl)
recorded_whole held (d ∷ due) b c p none uncut = by p.text
  where
    by : IsWritten held (ended b.is_cut ++ lines_of (d ∷ due)) b c
        ⊎ IsLost held (ended b.is_cut ++ lines_of (d ∷ due)) (length (d ∷ due)) b c
        → IsWhole held (lines_of (d ∷ due)) b c × (c.number ≡ last_number b.number (d ∷ due))
    by (inl written) = (
      record {
        choice = p.choice;
        cut = written.cut;
        lines = subst (λ (cut : Bool). Appends (held b.sink) (held c.sink) (ended cut ++ lines_of (d ∷ due))) uncut written.text;
      },
      p.number,
    )
    by (inr lost) = absurd (omega (arith, lost.lost, none))

steps_whole : {C S : Type 0} (held : S → Option (List ℕ)) (front : C → List Rule → Asked → List ℕ) (chosen : C → Asked → Option (Option ℕ))
    (naming : C → List Rule → List Rule) (b c : Beside C S) (w : State) (events : List Event)
    → Steps held front chosen naming b w events c → c.lost ≡ 0 → b.is_cut ≡ false
    → Appends (held b.sink) (held c.sink) (lines_of (run_records (chosen b.choice) (front b.choice) (naming b.choice) b.number w events))
unfolding Steps run_records
steps_whole held front chosen naming b c w [] p none uncut =
    subst (λ (x : Beside _ _). Appends (held b.sink) (held x.sink) []) (sym p) (Appends-nil (held b.sink))
steps_whole {C} {S} held front chosen naming b c w (e ∷ events) p none uncut =
    let due = records (chosen b.choice) (front b.choice (next w e).rules) (naming b.choice (next w e).rules) b.number (next w e).ticks (asked_at w e) in
    let now = recorded_whole held due b p.0 p.1 (steps_lost held front chosen naming p.0 c (next w e) events p.2 none) uncut in
    let later = steps_whole held front chosen naming p.0 c (next w e) events p.2 none now.0.cut in
    let rest = run_records (chosen b.choice) (front b.choice) (naming b.choice) (last_number b.number due) (next w e) events in
    let same : run_records (chosen p.0.choice) (front p.0.choice) (naming p.0.choice) p.0.number (next w e) events ≡ rest =
    ap (λ (x : C). run_records (chosen x) (front x) (naming x) p.0.number (next w e) events) now.0.choice
    ∙ ap (λ (n : ℕ). run_records (chosen b.choice) (front b.choice) (naming b.choice) n (next w e) events) now.1 in
    subst (λ (t : List ℕ). Appends (held b.sink) (held c.sink) t) (sym (lines_along due rest))
    (Appends-trans (held b.sink) (held p.0.sink) (held c.sink) (lines_of due) (lines_of rest) now.0.lines
    (subst (λ (l : List Line). Appends (held p.0.sink) (held c.sink) (lines_of l)) same later))

-- ---- a watcher, event by event

-- all events of a run were watched
unfoldable AreWatched : {T A : Type 0} → (T → Option (List ℕ)) → (A → Option (List ℕ)) → Watching T A → State → List Event → Watching T A
    → Type 0
AreWatched trial audit g w [] h = h ≡ g
AreWatched {T} {A} trial audit g w (e ∷ events) h =
    (m : Watching T A) × Watches trial audit g (next w e) (asked_at w e) m × AreWatched trial audit m (next w e) events h

-- something is watched before exactly if it is after
tried_on : {T : Type 0} (held : T → Option (List ℕ)) (w : State) (asked : List Asked) (b c : Option (Beside Trial T))
    → IsTried held w asked b c → is_some c ≡ is_some b
tried_on held w asked None None p = refl
tried_on held w asked (Some b) (Some c) p = refl
tried_on held w asked (Some b) None p = absurd p
tried_on held w asked None (Some c) p = absurd p

audited_on : {A : Type 0} (held : A → Option (List ℕ)) (w : State) (asked : List Asked) (b c : Option (Beside (List Bool) A))
    → IsAudited held w asked b c → is_some c ≡ is_some b
audited_on held w asked None None p = refl
audited_on held w asked (Some b) (Some c) p = refl
audited_on held w asked (Some b) None p = absurd p
audited_on held w asked None (Some c) p = absurd p

counted_still : (asked : List Asked) (b c : Option (List ℕ)) → IsCounted asked b c → is_some c ≡ is_some b
counted_still asked None None p = refl
counted_still asked (Some b) (Some c) p = refl
counted_still asked (Some b) None p = absurd p
counted_still asked None (Some c) p = absurd p

watching_on : {T A : Type 0} (trial : T → Option (List ℕ)) (audit : A → Option (List ℕ)) (g h : Watching T A) (w : State) (asked : List Asked)
    → Watches trial audit g w asked h → is_watching h ≡ is_watching g
watching_on trial audit g h w asked p =
    ap (λ (b : Bool). b || (is_some h.audit || is_some h.counts)) (tried_on trial w asked g.trial h.trial p.tried)
    ∙ ap (λ (b : Bool). is_some g.trial || (b || is_some h.counts)) (audited_on audit w asked g.audit h.audit p.audited)
    ∙ ap (λ (b : Bool). is_some g.trial || (is_some g.audit || b)) (counted_still asked g.counts h.counts p.counted)

-- one event: it was watched if it isn't counted as unseen
event_watched : {T A : Type 0} (trial : T → Option (List ℕ)) (audit : A → Option (List ℕ)) (g h : Watching T A) (w : State) (e : Event)
    → HasWatched trial audit g w e h true → is_watching g ≡ true → h.unseen ≡ 0
    → Watches trial audit g (next w e) (asked_at w e) h × (g.unseen ≡ 0)
event_watched trial audit g h w e p on none = by p.1
  where
    by : Watches trial audit g (next w e) (asked_at w e) h ⊎ ((is_watching g ≡ true → ¬ (NeedsNoMemory w e)) × Missed g h)
        → Watches trial audit g (next w e) (asked_at w e) h × (g.unseen ≡ 0)
    by (inl watched) = (watched, sym watched.unseen ∙ none)
    by (inr missed) =
        let counted : h.unseen ≡ min (g.unseen + 1) (2 ^ 64 - 1) =
        ap (λ (x : Watching _ _). x.unseen) missed.1 ∙ ap (λ (b : Bool). if b then min (g.unseen + 1) (2 ^ 64 - 1) else g.unseen) on in
        absurd (omega (arith, counted, none))

-- what is watched stays watched
stays_watching : {T A : Type 0} (trial : T → Option (List ℕ)) (audit : A → Option (List ℕ)) (g h : Watching T A) (w : State) (e : Event)
    → HasWatched trial audit g w e h true → is_watching h ≡ is_watching g
stays_watching trial audit g h w e p = by p.1
  where
    by : Watches trial audit g (next w e) (asked_at w e) h ⊎ ((is_watching g ≡ true → ¬ (NeedsNoMemory w e)) × Missed g h)
        → is_watching h ≡ is_watching g
    by (inl watched) = watching_on trial audit g h (next w e) (asked_at w e) watched
    by (inr missed) = ap (λ (x : Watching _ _). is_watching x) missed.1

-- a run: all its events were watched if none is counted as unseen
run_watched : {T A : Type 0} (trial : T → Option (List ℕ)) (audit : A → Option (List ℕ)) (g h : Watching T A) (w : State) (turns : List Turn)
    → AreGuarded (HasWatched trial audit) g w turns h → is_watching g ≡ true → h.unseen ≡ 0
    → AreWatched trial audit g w (events_of turns) h × (g.unseen ≡ 0)
unfolding AreGuarded AreWatched state_from
run_watched trial audit g h w [] p on none = (p, ap (λ (x : Watching _ _). x.unseen) (sym p) ∙ none)
run_watched {T} {A} trial audit g h w (turn ∷ turns) p on none =
    by turn p.1 p.2 (λ m v. run_watched trial audit m h v turns)
  where
    Later : Watching T A → State → Type 0
    Later m v = AreGuarded (HasWatched trial audit) m v turns h → is_watching m ≡ true → h.unseen ≡ 0
        → AreWatched trial audit m v (events_of turns) h × (m.unseen ≡ 0)

    still : (turn : Turn) → turn_events turn ≡ [] → p.0 ≡ g → AreGuarded (HasWatched trial audit) p.0 w turns h → Later g w
        → AreWatched trial audit g w (events_of (turn ∷ turns)) h × (g.unseen ≡ 0)
    still turn nothing same rest goes =
        let later = goes (subst (λ (x : Watching T A). AreGuarded (HasWatched trial audit) x w turns h) same rest) on none in (
          subst (λ (l : List Event). AreWatched trial audit g w l h)
              (sym (flat_map-cons turn_events turn turns ∙ ap (λ (l : List Event). l ++ events_of turns) nothing)) later.0,
          later.1,
        )

    by : (turn : Turn) → GuardsTurn (HasWatched trial audit) g w turn p.0
        → AreGuarded (HasWatched trial audit) p.0 (state_from w (turn_events turn)) turns h → ((m : Watching T A) (v : State) → Later m v)
        → AreWatched trial audit g w (events_of (turn ∷ turns)) h × (g.unseen ≡ 0)
    by empty_turn same rest goes = still empty_turn refl same rest (goes g w)
    by failed_turn same rest goes = still failed_turn refl same rest (goes g w)
    by (lost_event event) same rest goes = still (lost_event event) refl same rest (goes g w)
    by (taken_event event tries) passed rest goes =
        let later = goes p.0 (next w event) rest (stays_watching trial audit g p.0 w event passed ∙ on) none in
        let now = event_watched trial audit g p.0 w event passed on later.1 in (
          subst (λ (l : List Event). AreWatched trial audit g w l h) (sym (flat_map-cons turn_events (taken_event event tries) turns))
              (p.0, now.0, later.0),
          now.1,
        )

-- ---- each part of it

tried_some : {T : Type 0} (held : T → Option (List ℕ)) (w : State) (asked : List Asked) (b : Beside Trial T)
    (c : Option (Beside Trial T)) → IsTried held w asked (Some b) c
    → (d : Beside Trial T) × (c ≡ Some d)
    × IsRecorded held (records (tried_by b.choice) (trial_front b.choice w.rules) b.choice.policy b.number w.ticks asked) b d
tried_some held w asked b (Some d) p = (d, refl, p)
tried_some held w asked b None p = absurd p

trial_steps : {T A : Type 0} (trial : T → Option (List ℕ)) (audit : A → Option (List ℕ)) (g h : Watching T A) (w : State) (events : List Event)
    (b c : Beside Trial T) → AreWatched trial audit g w events h → g.trial ≡ Some b → h.trial ≡ Some c
    → Steps trial trial_front tried_by (λ t _. t.policy) b w events c
unfolding AreWatched Steps
trial_steps trial audit g h w [] b c p first last =
    let same : Some c ≡ Some b = sym last ∙ ap (λ (x : Watching _ _). x.trial) p ∙ first in
    cc
trial_steps {T} trial audit g h w (e ∷ events) b c p first last =
    let now = tried_some trial (next w e) (asked_at w e) b p.0.trial
    (subst (λ (x : Option (Beside Trial T)). IsTried trial (next w e) (asked_at w e) x p.0.trial) first p.1.tried) in
    (now.0, now.2, trial_steps trial audit p.0 h (next w e) events now.0 c p.2 now.1 last)

audited_some : {A : Type 0} (held : A → Option (List ℕ)) (w : State) (asked : List Asked) (b : Beside (List Bool) A)
    (c : Option (Beside (List Bool) A)) → IsAudited held w asked (Some b) c
    → (d : Beside (List Bool) A) × (c ≡ Some d)
    × IsRecorded held (records (audited_by b.choice) audit_front w.rules b.number w.ticks asked) b d
audited_some held w asked b (Some d) p = (d, refl, p)
audited_some held w asked b None p = absurd p

audit_steps : {T A : Type 0} (trial : T → Option (List ℕ)) (audit : A → Option (List ℕ)) (g h : Watching T A) (w : State) (events : List Event)
    (b c : Beside (List Bool) A) → AreWatched trial audit g w events h → g.audit ≡ Some b → h.audit ≡ Some c
    → Steps audit (λ _ _. audit_front) audited_by (λ _ rules. rules) b w events c
unfolding AreWatched Steps
audit_steps trial audit g h w [] b c p first last =
    let same : Some c ≡ Some b = sym last ∙ ap (λ (x : Watching _ _). x.audit) p ∙ first in
    cc
audit_steps {T} {A} trial audit g h w (e ∷ events) b c p first last =
    let now = audited_some audit (next w e) (asked_at w e) b p.0.audit
    (subst (λ (x : Option (Beside (List Bool) A)). IsAudited audit (next w e) (asked_at w e) x p.0.audit) first p.1.audited) in
    (now.0, now.2, audit_steps trial audit p.0 h (next w e) events now.0 c p.2 now.1 last)

counted_some : (asked : List Asked) (b : List ℕ) (c : Option (List ℕ)) → IsCounted asked (Some b) c
    → (d : List ℕ) × (c ≡ Some d) × AreCounted b asked d
counted_some asked b (Some d) p = (d, refl, p)
counted_some asked b None p = absurd p

counted_along : (k count : ℕ) (one two : List Asked) → counted_on k count (one ++ two) ≡ counted_on k (counted_on k count one) two
counted_along k count [] two = refl
counted_along k count (a ∷ one) two = counted_along k (if place_of a.verdict.by == k then one_more count else count) one two

run_counted : {T A : Type 0} (trial : T → Option (List ℕ)) (audit : A → Option (List ℕ)) (g h : Watching T A) (w : State) (events : List Event)
    (b c : List ℕ) → AreWatched trial audit g w events h → g.counts ≡ Some b → h.counts ≡ Some c → (k : ℕ) → k < length b
    → slice_index c k ≡ counted_on k (slice_index b k) (run_asked w events)
unfolding AreWatched run_asked
run_counted trial audit g h w [] b c p first last k within =
    let same : Some c ≡ Some b = sym last ∙ ap (λ (x : Watching _ _). x.counts) p ∙ first in
    let is : c ≡ b = cc in
    ap (λ (l : List ℕ). slice_index l k) is
run_counted trial audit g h w (e ∷ events) b c p first last k within =
    let now = counted_some (asked_at w e) b p.0.counts
    (subst (λ (x : Option (List ℕ)). IsCounted (asked_at w e) x p.0.counts) first p.1.counted) in
    run_counted trial audit p.0 h (next w e) events now.0 c p.2 now.1 last k (omega (arith, within, now.2.places))
    ∙ ap (λ (n : ℕ). counted_on k n (run_asked (next w e) events)) (now.2.each k within)
    ∙ sym (counted_along k (slice_index b k) (asked_at w e) (run_asked (next w e) events))

-- ---- the laws

watching_audit : {T A : Type 0} (g : Watching T A) (b : Beside (List Bool) A) → g.audit ≡ Some b → is_watching g ≡ true
watching_audit g b is = rw is (by (is_some g.trial))
  where
    by : (x : Bool) → (x || true) ≡ true
    by true = refl
    by false = refl

watching_counts : {T A : Type 0} (g : Watching T A) (b : List ℕ) → g.counts ≡ Some b → is_watching g ≡ true
watching_counts g b is = rw is (by (is_some g.trial) (is_some g.audit))
  where
    by : (x y : Bool) → (x || (y || true)) ≡ true
    by true y = refl
    by false true = refl
    by false false = refl

pub trial_is_whole : {T A : Type 0} (trial : T → Option (List ℕ)) (audit : A → Option (List ℕ)) → TrialIsWhole trial audit
trial_is_whole trial audit before after turns b c went first last uncut none seen =
    let w = before.scene.gateway in
    let on : is_watching before.guard ≡ true = rw first refl in
    let watched = run_watched trial audit before.guard after.guard w turns went.guarded on seen in
    steps_whole trial trial_front tried_by (λ t _. t.policy) b c w (events_of turns)
    (trial_steps trial audit before.guard after.guard w (events_of turns) b c watched.0 first last) none uncut

pub audit_is_whole : {T A : Type 0} (trial : T → Option (List ℕ)) (audit : A → Option (List ℕ)) → AuditIsWhole trial audit
audit_is_whole trial audit before after turns b c went first last uncut none seen =
    let w = before.scene.gateway in
    let watched = run_watched trial audit before.guard after.guard w turns went.guarded (watching_audit before.guard b first) seen in
    steps_whole audit (λ _ _. audit_front) audited_by (λ _ rules. rules) b c w (events_of turns)
    (audit_steps trial audit before.guard after.guard w (events_of turns) b c watched.0 first last) none uncut

pub counts_are_whole : {T A : Type 0} (trial : T → Option (List ℕ)) (audit : A → Option (List ℕ)) → CountsAreWhole trial audit
counts_are_whole trial audit before after turns b c went first last seen k within =
    let w = before.scene.gateway in
    let watched = run_watched trial audit before.guard after.guard w turns went.guarded (watching_counts before.guard b first) seen in
    run_counted trial audit before.guard after.guard w (events_of turns) b c watched.0 first last k within
