-- What is recorded of all that was asked is recorded of what is seen whole of it.
use Rattle.std.proofs.Common.{◌≡◌, ◌∙◌, ◌⊎◌, ℕ, Bool, true, false, List, [], ◌∷◌, Option, Some, None, ap, filter, inl, inr, refl, sym, subst, true≢false}
use Rattle.std.specs.Prelude.{◌||◌}
use Rattle.gw_core.specs.Seen.{IsSeenOf, Seen, seen_of}
use Rattle.gw_core.specs.State.{State}
use Rattle.gw_core.specs.declared.asked.Asked.{Asked}
use Rattle.gw_rules.specs.declared.rule.Rule.{Rule}
use Rattle.gw_rules.specs.declared.verdict.Verdict.{Verdict}
use Rattle.gw_decisions.specs.tally.Tally.{one_more}
use Rattle.gw_watchers.specs.Beside.{IsRecorded}
use Rattle.gw_watchers.specs.Records.{Line, audit_front, audited_by, record_of, recorded, records, trial_front, tried_by}
use Rattle.gw_watchers.specs.Watching.{IsAudited, IsTried}
use Rattle.gw_watchers.specs.declared.beside.Beside.{Beside}
use Rattle.gw_watchers.specs.declared.trial.Trial.{Trial}
use Rattle.gw_watchers.specs.internal.RecordedIn.{IsRecordedIn}

-- the asks that aren't chosen may be left out
pub records_kept : (chosen : Asked → Option (Option ℕ)) (front : Asked → List ℕ) (rules : List Rule) (tick : ℕ) (all : Verdict → Bool)
    → ((a : Asked) (by : Option ℕ) → chosen a ≡ Some by → all a.verdict ≡ true) → (asked : List Asked) (last : ℕ)
    → records chosen front rules last tick (filter (λ a. all a.verdict) asked) ≡ records chosen front rules last tick asked
records_kept chosen front rules tick all has [] last = refl
records_kept chosen front rules tick all has (a ∷ asked) last =
    at (all a.verdict) (chosen a) refl refl (λ number. records_kept chosen front rules tick all has asked number)
  where
    at : (b : Bool) (is : Option (Option ℕ)) → all a.verdict ≡ b → chosen a ≡ is
        → ((number : ℕ) → records chosen front rules number tick (filter (λ a. all a.verdict) asked) ≡ records chosen front rules number tick asked)
        → records chosen front rules last tick (filter (λ a. all a.verdict) (a ∷ asked)) ≡ records chosen front rules last tick (a ∷ asked)
    at true None kept out later = rw (kept, out) (later last)
    at false None kept out later = rw (kept, out) (later last)
    at true (Some by) kept is later = rw (kept, is) (ap (λ (l : List Line). record_of (front a) rules (one_more last) tick a by ∷ l) (later (one_more last)))
    at false (Some by) kept is later = absurd (true≢false (sym (has a by is) ∙ kept))

-- what is seen whole of what was asked serves for all of it
pub recorded_of_all : {C S : Type 0} (held : S → Option (List ℕ)) (chosen : Asked → Option (Option ℕ)) (front : Asked → List ℕ) (rules : List Rule)
    (tick : ℕ) (keeps : Verdict → Bool) → ((a : Asked) (by : Option ℕ) → chosen a ≡ Some by → keeps a.verdict ≡ true)
    → (asked : List Asked) (seen : Seen) → IsSeenOf keeps asked seen → (b c : Beside C S)
    → IsRecorded held (records chosen front rules b.number tick seen.kept) b c → IsRecorded held (records chosen front rules b.number tick asked) b c
recorded_of_all held chosen front rules tick keeps has asked seen p b c done =
    subst (λ (l : List Line). IsRecorded held l b c)
    (ap (λ (s : Seen). records chosen front rules b.number tick s.kept) p.is
    ∙ records_kept chosen front rules tick p.all (λ a by is. p.wanted a.verdict (has a by is)) asked b.number) done

-- what is recorded of a trial, and of an audit
pub tried_in : {T : Type 0} (held : T → Option (List ℕ)) (w : State) (asked : List Asked) (before after : Option (Beside Trial T))
    → IsRecordedIn tried_by trial_front (λ trial _. trial.policy) held w asked before after → IsTried held w asked before after
tried_in held w asked None None done = done
tried_in held w asked (Some b) (Some c) done = done
tried_in held w asked None (Some c) done = done
tried_in held w asked (Some b) None done = done

pub audited_in : {A : Type 0} (held : A → Option (List ℕ)) (w : State) (asked : List Asked) (before after : Option (Beside (List Bool) A))
    → IsRecordedIn audited_by (λ _ _. audit_front) (λ _ rules. rules) held w asked before after → IsAudited held w asked before after
audited_in held w asked None None done = done
audited_in held w asked (Some b) (Some c) done = done
audited_in held w asked None (Some c) done = done
audited_in held w asked (Some b) None done = done

pub either_left : (a b : Bool) → a ≡ true → (a || b) ≡ true
either_left true b is = refl
either_left false b is = absurd (true≢false (sym is))

pub either_right : (a b : Bool) → b ≡ true → (a || b) ≡ true
either_right true b is = refl
either_right false b is = is
