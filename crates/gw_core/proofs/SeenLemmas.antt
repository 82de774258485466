-- What is seen of asks, by the verdicts on them.
use Rattle.std.proofs.Common.{◌≡◌, ◌∙◌, ℕ, Bool, true, false, List, [], ◌∷◌, ◌++◌, Option, Some, None, ap, filter, map, refl, sym}
use Rattle.gw_rules.specs.declared.verdict.Verdict.{Verdict}
use Rattle.gw_core.specs.Asked.{asked_from, asked_of}
use Rattle.gw_core.specs.Receive.{Origin}
use Rattle.gw_core.specs.Seen.{Seen, nothing_seen, seen_of}
use Rattle.gw_core.specs.declared.asked.Asked.{Asked}
use Rattle.gw_core.specs.internal.Sieved.{deciders_of}

-- by which rules the asks were decided
decided_from : (from : Origin) (verdicts : List Verdict) → deciders_of verdicts ≡ map (λ a. a.verdict.by) (map (asked_from from) verdicts)
decided_from from [] = refl
decided_from from (v ∷ verdicts) = ap (λ (l : List (Option ℕ)). v.by ∷ l) (decided_from from verdicts)

-- which of them are kept whole
kept_from : (keeps : Verdict → Bool) (from : Origin) (verdicts : List Verdict)
    → map (asked_from from) (filter keeps verdicts) ≡ filter (λ a. keeps a.verdict) (map (asked_from from) verdicts)
kept_from keeps from [] = refl
kept_from keeps from (v ∷ verdicts) = by (keeps v) refl (kept_from keeps from verdicts)
  where
    by : (b : Bool) → keeps v ≡ b
        → map (asked_from from) (filter keeps verdicts) ≡ filter (λ a. keeps a.verdict) (map (asked_from from) verdicts)
        → map (asked_from from) (filter keeps (v ∷ verdicts)) ≡ filter (λ a. keeps a.verdict) (map (asked_from from) (v ∷ verdicts))
    by true is later = rw is (ap (λ (l : List Asked). asked_from from v ∷ l) later)
    by false is later = rw is later

-- what is seen of asks that come from there
pub seen_from : (keeps : Verdict → Bool) (from : Origin) (verdicts : List Verdict) (deciders : List (Option ℕ)) (kept : List Verdict)
    → deciders ≡ deciders_of verdicts → kept ≡ filter keeps verdicts
    → ◌≡◌ {A = Seen} (record { deciders = deciders; kept = map (asked_from from) kept }) (seen_of keeps (map (asked_from from) verdicts))
seen_from keeps from verdicts deciders kept decided whole =
    ap (λ (l : List (Option ℕ)). mk l (map (asked_from from) kept)) (decided ∙ decided_from from verdicts)
    ∙ ap (mk (map (λ a. a.verdict.by) (map (asked_from from) verdicts)))
    (ap (map (asked_from from)) whole ∙ kept_from keeps from verdicts)
  where
    mk : List (Option ℕ) → List Asked → Seen
    mk deciders kept = record { deciders = deciders; kept = kept }
