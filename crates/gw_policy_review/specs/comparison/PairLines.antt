-- The lines of pairs of rules that decide an ask otherwise.
use Rattle.std.specs.Prelude.{ℕ, ◌-◌, not, ◌==◌, if◌then◌else◌, List, [], ◌∷◌, ◌++◌, length, take, codes, decimal, Option, option_map}
use Rattle.std.specs.List.{flat_map}
use Rattle.gw_ask_sets.specs.regions.Pairs.{Findings, findings}
use Rattle.gw_ask_sets.specs.declared.regions.pairs.Pair.{Pair}
use Rattle.gw_ask_sets.specs.declared.regions.pairs.Pairs.{Pairs}
use Rattle.gw_ask_sets.specs.declared.regions.pairs.ShownPair.{ShownPair}
use Rattle.gw_policy_review.specs.comparison.Lines.{Naming, rule_name, verdict_text}
use Rattle.gw_ask_sets.specs.AskText.{ask_fields_text}

-- what is known of pairs, if they were looked for
abbrev pub known_of : Option Pairs → Option Findings
known_of pairs = option_map (λ p. findings p.found.items p.given_up.items p.steps) pairs

-- `now <verdict> by <rule>`
abbrev pub now_by_text : Naming → Pair → List ℕ
now_by_text new pair = codes "now " ++ (verdict_text pair.allows ++ (codes " by " ++ rule_name new pair.new))

-- ` (was <verdict> by <rule>)`
abbrev pub was_by_text : Naming → Pair → List ℕ
was_by_text old pair =
    codes " (was " ++ (verdict_text (not pair.allows) ++ (codes " by " ++ (rule_name old pair.old ++ codes ")")))

-- those, and an ask: `, for one: operation=write ..` and a line feed
abbrev pub pair_text : Naming → Naming → ShownPair → List ℕ
pair_text old new shown =
    now_by_text new shown.pair
    ++ (was_by_text old shown.pair ++ (codes ", for one:" ++ (ask_fields_text shown.ask ++ 10 ∷ [])))

-- how many more there are than are shown
abbrev pub more_pairs_text : ℕ → List ℕ
more_pairs_text count =
    if count == 0 then []
    else codes "and " ++ (decimal count ++ (if count == 1 then codes " more pair" else codes " more pairs") ++ 10 ∷ [])

-- a line each for at most so many pairs, and how many are left out
abbrev pub pairs_text : Naming → Naming → ℕ → List ShownPair → List ℕ
pairs_text old new most found = flat_map (pair_text old new) (take most found) ++ more_pairs_text (length found - most)

-- how many were found, and how many were given up
abbrev pub given_up_text : (found given_up : ℕ) → List ℕ
given_up_text found given_up =
    codes "pairs of rules that decide asks otherwise: " ++ (decimal found
    ++ (codes ", and perhaps some of " ++ (decimal given_up ++ (codes " that were given up" ++ 10 ∷ []))))
