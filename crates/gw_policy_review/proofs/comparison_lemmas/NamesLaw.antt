-- Texts that name the rules alike are the same; and where no place is to be named, names alone are.
use Rattle.std.proofs.Common.{◌≡◌, ◌∙◌, ap, ap₂, refl, sym, ◌≤◌, ◌==◌, ◌-◌, ℕ, zero, suc, Bool, true, false, List, [], ◌∷◌, ◌++◌, arith, length, take, Option, Some, None}
use Rattle.std.specs.Prelude.{codes, if◌then◌else◌, nat_lt, not}
use Rattle.std.specs.List.{flat_map}
use Rattle.gw_ask_sets.specs.regions.Pairs.{Findings}
use Rattle.gw_ask_sets.specs.declared.regions.comparison.Found.{Found}
use Rattle.gw_ask_sets.specs.declared.regions.pairs.ShownPair.{ShownPair}
use Rattle.gw_configuration.specs.Configuration.{Configuration, are_counted}
use Rattle.gw_policy_review.specs.Places.{place_words}
use Rattle.gw_policy_review.specs.comparison.Comparison.{asks_text, by_both_text, by_pairs_text, ending_text}
use Rattle.gw_policy_review.specs.comparison.Groups.{count_text, firsts, found_text, group_head, group_of, group_text, groups_text, head_text, more_text, regions_text, was_text}
use Rattle.gw_policy_review.specs.comparison.Laws.{NoPlaceIsNamed, bare}
use Rattle.gw_policy_review.specs.comparison.Lines.{Naming, line_text, name_of, names_text, naming, rule_name, verdict_text}
use Rattle.gw_policy_review.specs.comparison.PairLines.{given_up_text, more_pairs_text, pair_text, pairs_text}
use Rattle.gw_policy_review.specs.comparison.PartLines.{details}
use Rattle.gw_policy_review.specs.comparison.Words.{region_text}
use Rattle.gw_policy_review.specs.declared.comparison.comparison.Compared.{Compared}
use Rattle.gw_ask_sets.specs.AskText.{ask_fields_text}
use Rattle.gw_policy_review.proofs.PlacesLaw.{left_out}

-- two name each rule alike
abbrev NameAlike : Naming → Naming → Type 0
NameAlike n m = (number : ℕ) → rule_name n number ≡ rule_name m number

flat_same : {A : Type 0} (f g : A → List ℕ) → ((x : A) → f x ≡ g x) → (xs : List A) → flat_map f xs ≡ flat_map g xs
flat_same f g same [] = refl
flat_same f g same (x ∷ xs) = ap₂ (λ (a b : List ℕ). a ++ b) (same x) (flat_same f g same xs)

names_same : (n m : Naming) → NameAlike n m → (numbers : List ℕ) → names_text n numbers ≡ names_text m numbers
names_same n m same [] = refl
names_same n m same (number ∷ numbers) =
    ap₂ (λ (a b : List ℕ). a ++ b) (same number)
    (flat_same (λ (other : ℕ). codes " or " ++ rule_name n other) (λ (other : ℕ). codes " or " ++ rule_name m other)
    (λ other. ap (λ (t : List ℕ). codes " or " ++ t) (same other)) numbers)

module _ (a b c d : Naming) (before : NameAlike a c) (after : NameAlike b d) where
  line_same : (f : Found) → line_text a b f ≡ line_text c d f
  line_same f =
      ap₂
      (λ (was now : List ℕ). codes "now " ++ (verdict_text f.allows ++ (codes ": " ++ (region_text f.region
      ++ ((codes ", by " ++ (now ++ (codes " (was " ++ (verdict_text (not f.allows) ++ (codes " by " ++ (was ++ codes ")")))))) ++ 10 ∷ [])))))
      (names_same a c before f.old_rules.items) (names_same b d after f.new_rules.items)

  found_same : (most : ℕ) (found : List Found) → found_text a b most found ≡ found_text c d most found
  found_same most found =
      ap (λ (t : List ℕ). t ++ more_text (length found - most)) (flat_same (line_text a b) (line_text c d) line_same (take most found))

  head_same : (count : ℕ) (f : Found) → head_text a b count f ≡ head_text c d count f
  head_same count f =
      ap₂
      (λ (was now : List ℕ). count_text count ++ ((verdict_text f.allows ++ (codes " by " ++ now)) ++ (was_text count
      ++ (verdict_text (not f.allows) ++ (codes " by " ++ (was ++ (codes ")" ++ 10 ∷ [])))))))
      (names_same a c before f.old_rules.items) (names_same b d after f.new_rules.items)

  groups_same : (most : ℕ) (found : List Found) → groups_text a b most found ≡ groups_text c d most found
  groups_same most found =
      ap₂ (λ (x y : List ℕ). x ++ y)
      (flat_same (group_head a b found) (group_head c d found) (λ f. head_same (length (group_of found f)) f) (firsts found))
      (flat_same (group_text a b most found) (group_text c d most found) (λ f. found_same most (group_of found f)) (firsts found))

  regions_same : (most : ℕ) (found : List Found) → regions_text a b most found ≡ regions_text c d most found
  regions_same most found = by (nat_lt 40 (length found))
    where
      by : (many : Bool) → (if many then groups_text a b most found else found_text a b most found)
          ≡ (if many then groups_text c d most found else found_text c d most found)
      by true = groups_same most found
      by false = found_same most found

  pair_same : (shown : ShownPair) → pair_text a b shown ≡ pair_text c d shown
  pair_same shown =
      ap₂
      (λ (was now : List ℕ). (codes "now " ++ (verdict_text shown.pair.allows ++ (codes " by " ++ now)))
      ++ ((codes " (was " ++ (verdict_text (not shown.pair.allows) ++ (codes " by " ++ (was ++ codes ")"))))
      ++ (codes ", for one:" ++ (ask_fields_text shown.ask ++ 10 ∷ []))))
      (before shown.pair.old) (after shown.pair.new)

  pairs_same : (most : ℕ) (found : List ShownPair) → pairs_text a b most found ≡ pairs_text c d most found
  pairs_same most found =
      ap (λ (t : List ℕ). t ++ more_pairs_text (length found - most)) (flat_same (pair_text a b) (pair_text c d) pair_same (take most found))

  asks_same : (most : ℕ) (made : Compared) (found : List Found) (pairs : Option Findings)
      → asks_text a b most made found pairs ≡ asks_text c d most made found pairs
  asks_same most made found None = ap (λ (t : List ℕ). t ++ ending_text made (length found)) (regions_same most found)
  asks_same most made found (Some known) = by (length known.given_up == 0)
    where
      by : (all : Bool) → (if all then by_pairs_text a b most made known.found else by_both_text a b most made found known)
          ≡ (if all then by_pairs_text c d most made known.found else by_both_text c d most made found known)
      by true = ap (λ (t : List ℕ). t ++ ending_text made (length known.found)) (pairs_same most known.found)
      by false =
          ap₂
          (λ (x y : List ℕ). x ++ (y ++ (given_up_text (length known.found) (length known.given_up) ++ ending_text made (length found))))
          (regions_same most found) (pairs_same most known.found)

one_at_least : (n : ℕ) → (n == 0) ≡ false → 1 ≤ n
one_at_least zero e = absurd cc
one_at_least (suc n) e = omega arith

nowhere : (n : ℕ) → place_words [] [] n ≡ []
nowhere zero = refl
nowhere (suc n) = refl

alone : (c : Configuration) (lines : List ℕ) → are_counted 0 c.tables ≡ true → NameAlike (naming c lines) (bare c)
alone c lines counted number = by (number == 0) refl
  where
    by : (none : Bool) → (number == 0) ≡ none
        → (if none then codes "default" else name_of c.rules number ++ place_words c.tables lines number)
        ≡ (if none then codes "default" else name_of c.rules number ++ place_words [] [] number)
    by true e = refl
    by false e =
        ap (λ (t : List ℕ). name_of c.rules number ++ t)
        (left_out c.tables lines number (one_at_least number e) counted ∙ sym (nowhere number))

pub no_place_is_named : NoPlaceIsNamed
no_place_is_named old new how made text written old_ones new_ones =
    written.written
    ∙ ap (λ (t : List ℕ). details old new written.differ ++ t)
    (asks_same (naming old how.old_lines) (naming new how.new_lines) (bare old) (bare new) (alone old how.old_lines old_ones)
    (alone new how.new_lines new_ones) how.most made written.found written.pairs)
