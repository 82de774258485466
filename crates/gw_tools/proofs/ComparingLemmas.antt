-- What is reported of a comparison on the way.
use Rattle.std.proofs.Common.{◌≡◌, ◌≤◌, ◌<◌, ◌+◌, ◌∙◌, ◌++◌, [], ◌∷◌, ap, arith, length, refl, subst, sym, ℕ, Bool, true, false, List, Option}
use Rattle.std.specs.Prelude.{if◌then◌else◌, nat_lt}
use Rattle.std.specs.Io.KnownBytes.{Appends}
use Rattle.std.specs.List.{AllByRecursion, flat_map}
use Rattle.std.proofs.lemmas.Bool.{both_ways, ltb-false, ltb-true}
use Rattle.std.proofs.lemmas.Grind.{flat_map-append}
use Rattle.gw_configuration.specs.Configuration.{Configuration}
use Rattle.gw_policy_review.specs.comparison.Comparing.{IsUnderWay, Progress}
use Rattle.gw_tools.specs.Comparing.{ArePassed, AreProgress, IsPassed, progress_line}
use Rattle.gw_notices.proofs.AppendLemmas.{appends_nothing, appends_two}
use Rattle.gw_ending.proofs.reading_lemmas.AppendLemmas.{nothing_behind}

-- each of these lines is after at most so many steps
abbrev pub UpTo : ℕ → List (ℕ × ℕ) → Type 0
UpTo steps lines = AllByRecursion (λ (at : ℕ × ℕ). at.0 ≤ steps) lines

-- a comparison of the two gets so far at each of some lines, up to so many steps, and they are reported if it is sure that no write fails
pub record Tells (old new : Configuration) (steps : ℕ) (Sure : Type 0) (held holds : Option (List ℕ)) : Type 0 where
  pub lines : List (ℕ × ℕ)
  pub passed : ArePassed old new 0 lines
  pub bound : UpTo steps lines
  pub appends : Sure → Appends held holds (flat_map progress_line lines)

pub tells_none : (old new : Configuration) (steps : ℕ) (Sure : Type 0) (held : Option (List ℕ)) → Tells old new steps Sure held held
tells_none old new steps Sure held = record { lines = []; passed = tt; bound = tt; appends = λ sure. appends_nothing held }

-- what is reported then
pub as_progress : (old new : Configuration) (steps : ℕ) (Sure : Type 0) (held holds : Option (List ℕ)) → Tells old new steps Sure held holds
    → (said : List ℕ) × AreProgress old new said × (Sure → Appends held holds said)
as_progress old new steps Sure held holds tells =
    (flat_map progress_line tells.lines, (tells.lines, tells.passed, refl), tells.appends)

passed_more : (old new : Configuration) (first last steps count : ℕ) (lines : List (ℕ × ℕ)) → ArePassed old new first lines → UpTo last lines
    → first ≤ last → last < steps → IsPassed old new steps count → ArePassed old new first (lines ++ (steps, count) ∷ [])
passed_more old new first last steps count [] passed bound least grows is = (omega (arith, least, grows), is, tt)
passed_more old new first last steps count (at ∷ lines) passed bound least grows is =
    (passed.0, passed.1, passed_more old new at.0 last steps count lines passed.2 bound.1 bound.0 grows is)

up_to_more : (last steps count : ℕ) (lines : List (ℕ × ℕ)) → UpTo last lines → last < steps → UpTo steps (lines ++ (steps, count) ∷ [])
up_to_more last steps count [] bound grows = (omega arith, tt)
up_to_more last steps count (at ∷ lines) bound grows = (omega (arith, bound.0, grows), up_to_more last steps count lines bound.1 grows)

up_to : (last steps : ℕ) (lines : List (ℕ × ℕ)) → UpTo last lines → last < steps → UpTo steps lines
up_to last steps [] bound grows = tt
up_to last steps (at ∷ lines) bound grows = (omega (arith, bound.0, grows), up_to last steps lines bound.1 grows)

-- one line more, or none
pub tells_next : (old new : Configuration) (last steps count : ℕ) (Sure Still : Type 0) (a b c : Option (List ℕ)) (more : Bool)
    → Tells old new last Sure a b → last < steps → IsPassed old new steps count → (Sure → Still)
    → (Still → Appends b c (if more then progress_line (steps, count) else [])) → Tells old new steps Sure a c
tells_next old new last steps count Sure Still a b c true tells grows is lasts adds =
    let line = progress_line (steps, count) in
    let all : flat_map progress_line tells.lines ++ line ≡ flat_map progress_line (tells.lines ++ (steps, count) ∷ []) =
    ap (λ (t : List ℕ). flat_map progress_line tells.lines ++ t) (sym (nothing_behind line))
    ∙ sym (flat_map-append progress_line tells.lines ((steps, count) ∷ [])) in
    record {
      lines = tells.lines ++ (steps, count) ∷ [];
      passed = passed_more old new 0 last steps count tells.lines tells.passed tells.bound (omega arith) grows is;
      bound = up_to_more last steps count tells.lines tells.bound grows;
      appends = λ sure. subst (λ (t : List ℕ). Appends a c t) all
          (appends_two a b c (flat_map progress_line tells.lines) line (tells.appends sure) (adds (lasts sure)));
    }
tells_next old new last steps count Sure Still a b c false tells grows is lasts adds = record {
  lines = tells.lines;
  passed = tells.passed;
  bound = up_to last steps tells.lines tells.bound grows;
  appends = λ sure. subst (λ (t : List ℕ). Appends a c t) (nothing_behind (flat_map progress_line tells.lines))
      (appends_two a b c (flat_map progress_line tells.lines) [] (tells.appends sure) (adds (lasts sure)));
}

-- a comparison under way is one of the two so far
pub passed_at : (p : Progress) (old new : Configuration) → p.old_one ≡ old → p.new_one ≡ new → IsUnderWay p
    → IsPassed old new p.steps (length p.found)
passed_at p old new is_old is_new under =
    subst (λ (one : Configuration). IsPassed one new p.steps (length p.found)) is_old
    (subst (λ (other : Configuration). IsPassed p.old_one other p.steps (length p.found)) is_new (p.found, p.left, under.reached, refl))

-- a portion that doesn't finish it makes steps
pub further : (last steps : ℕ) (finished : Bool) → (steps < last + 256 → finished ≡ true) → finished ≡ false → last < steps
further last steps finished so unfinished = by (nat_lt steps (last + 256)) refl
  where
    by : (fewer : Bool) → nat_lt steps (last + 256) ≡ fewer → last < steps
    by true e = absurd (both_ways finished unfinished (so (ltb-true steps (last + 256) e)))
    by false e = omega (arith, ltb-false steps (last + 256) e)
