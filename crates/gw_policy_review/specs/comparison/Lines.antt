-- The line of a region in which every ask is decided otherwise.
use Rattle.std.specs.Prelude.{ℕ, ◌-◌, Bool, not, ◌==◌, if◌then◌else◌, List, [], ◌∷◌, ◌++◌, slice_get, codes}
use Rattle.std.specs.Option.{option_map_or}
use Rattle.gw_ask_sets.specs.declared.regions.comparison.Found.{Found}
use Rattle.gw_configuration.specs.Configuration.{Configuration}
use Rattle.gw_rules.specs.declared.rule.Rule.{Rule}
use Rattle.gw_policy_review.specs.Places.{place_words}
use Rattle.gw_policy_review.specs.comparison.Words.{any_of, region_text}

-- ---- rules

-- the rules by which a line names what decides, the positions of their tables, and the lines of the text on which its tables
-- begin, or none if they aren't known
pub record Naming : Type 0 where
  pub rules : List Rule
  pub tables : List ℕ
  pub lines : List ℕ

-- those of a configuration whose tables begin on these lines
abbrev pub naming : Configuration → List ℕ → Naming
naming c lines = record { rules = c.rules; tables = c.tables; lines = lines }

-- the name of the rule of a number, counted from 1
abbrev pub name_of : List Rule → ℕ → List ℕ
name_of rules number = option_map_or (λ rule. rule.name) (slice_get rules (number - 1)) []

-- and the place of its table if that has another number; `default` for 0, the deny of no rule
abbrev pub rule_name : Naming → ℕ → List ℕ
rule_name names number =
    if number == 0 then codes "default"
    else name_of names.rules number ++ place_words names.tables names.lines number

abbrev pub names_text : Naming → List ℕ → List ℕ
names_text names numbers = any_of (rule_name names) numbers

-- ---- the line

abbrev pub verdict_text : Bool → List ℕ
verdict_text allows = if allows then codes "allowed" else codes "denied"

-- `, by <rules> (was <verdict> by <rules>)`
abbrev pub deciders_text : Naming → Naming → Found → List ℕ
deciders_text old new f =
    codes ", by " ++ (names_text new f.new_rules.items
    ++ (codes " (was " ++ (verdict_text (not f.allows)
    ++ (codes " by " ++ (names_text old f.old_rules.items ++ codes ")")))))

-- `now <verdict>: <asks>, by <rules> (was <verdict> by <rules>)` and a line feed
abbrev pub line_text : Naming → Naming → Found → List ℕ
line_text old new f =
    codes "now " ++ (verdict_text f.allows
    ++ (codes ": " ++ (region_text f.region ++ (deciders_text old new f ++ 10 ∷ []))))
