-- What is found of what two policies decide otherwise, as JSON objects: regions, pairs of rules, and a last one.
use Rattle.std.specs.Prelude.{ℕ, Bool, true, false, ◌==◌, if◌then◌else◌, List, [], ◌∷◌, ◌++◌, length, take, codes, decimal, Option, Some}
use Rattle.std.specs.Prelude.{None}
use Rattle.std.specs.List.{flat_map}
use Rattle.json.specs.Json.{Json, boolean, number, string}
use Rattle.gw_ask_sets.specs.regions.Pairs.{Findings}
use Rattle.gw_ask_sets.specs.declared.regions.comparison.Found.{Found}
use Rattle.gw_ask_sets.specs.declared.regions.pairs.ShownPair.{ShownPair}
use Rattle.gw_json.specs.Comparison.{found_value, rules_value, summary_value, verdict_word}
use Rattle.gw_json.specs.Document.{line_of, object_of}
use Rattle.gw_json.specs.Unheld.{ask_value}
use Rattle.gw_rules.specs.declared.rule.Rule.{Rule}

-- ---- pairs of rules

-- what the new policy says by the one rule, and the old one doesn't by the other, under the keys of a region; and an ask that the two
-- decide
abbrev pub pair_members : List Rule → List Rule → ShownPair → List (List ℕ × Json)
pair_members old new shown =
    (codes "verdict", string (verdict_word shown.pair.allows)) ∷ (codes "by", rules_value new (shown.pair.new ∷ []))
    ∷ (codes "was_by", rules_value old (shown.pair.old ∷ [])) ∷ (codes "ask", ask_value shown.ask) ∷ []

abbrev pub pair_value : List Rule → List Rule → ShownPair → Json
pair_value old new shown = object_of (pair_members old new shown)

-- ---- the last object

-- how many pairs there are, that these are all, and how many steps the search for regions took
abbrev pub paired_value : (pairs steps : ℕ) → Json
paired_value pairs steps =
    object_of ((codes "pairs", number (decimal pairs)) ∷ (codes "finished", boolean true) ∷ (codes "steps", number (decimal steps)) ∷ [])

-- how many regions and pairs there are at least, and how many pairs were given up
abbrev pub given_up_value : (kinds steps pairs given_up : ℕ) → Json
given_up_value kinds steps pairs given_up =
    object_of ((codes "kinds", number (decimal kinds)) ∷ (codes "finished", boolean false) ∷ (codes "steps", number (decimal steps))
    ∷ (codes "pairs", number (decimal pairs)) ∷ (codes "given_up", number (decimal given_up)) ∷ [])

-- ---- all lines

-- a line each for at most so many regions, and for at most so many pairs
abbrev pub regions_lines : List Rule → List Rule → (most : ℕ) → List Found → List ℕ
regions_lines old new most found = flat_map (λ f. line_of (found_value old new f)) (take most found)

abbrev pub pairs_lines : List Rule → List Rule → (most : ℕ) → List ShownPair → List ℕ
pairs_lines old new most found = flat_map (λ shown. line_of (pair_value old new shown)) (take most found)

-- of regions that are all
abbrev pub by_regions_lines : List Rule → List Rule → (most steps : ℕ) → List Found → List ℕ
by_regions_lines old new most steps found = regions_lines old new most found ++ line_of (summary_value (length found) true steps)

-- of pairs that are all
abbrev pub by_pairs_lines : List Rule → List Rule → (most steps : ℕ) → List ShownPair → List ℕ
by_pairs_lines old new most steps found = pairs_lines old new most found ++ line_of (paired_value (length found) steps)

-- of regions and pairs that aren't all
abbrev pub by_both_lines : List Rule → List Rule → (most steps : ℕ) → List Found → Findings → List ℕ
by_both_lines old new most steps found known =
    regions_lines old new most found ++ (pairs_lines old new most known.found
    ++ line_of (given_up_value (length found) steps (length known.found) (length known.given_up)))

abbrev pub results_lines : List Rule → List Rule → (most steps : ℕ) → List Found → Option Findings → List ℕ
results_lines old new most steps found None = by_regions_lines old new most steps found
results_lines old new most steps found (Some known) =
    if length known.given_up == 0 then by_pairs_lines old new most steps known.found else by_both_lines old new most steps found known
