-- Words that the lines have in common.
use Rattle.std.specs.Prelude.{ℕ, List, ◌++◌, codes, decimal}
use Rattle.gw_configuration.specs.Configuration.{Configuration}
use Rattle.gw_policy_review.specs.Places.{place_words}

-- a rule by its number and its name, and the place of its table, where that has another number; the tables begin on these lines of the
-- text
abbrev pub rule_words : Configuration → (lines : List ℕ) → ℕ → List ℕ → List ℕ
rule_words c lines number name =
    codes "rule " ++ (decimal number ++ (codes " \"" ++ (name ++ (codes "\"" ++ place_words c.tables lines number))))
