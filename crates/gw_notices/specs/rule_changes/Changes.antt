-- How the rules of one policy differ from those of another.
use Rattle.std.specs.Prelude.{ℕ, ◌+◌, ◌&&◌, not, Bool, true, false, if◌then◌else◌, nat_eq, List, [], ◌∷◌, ◌++◌, count_by, codes, decimal}
use Rattle.std.specs.List.{list_any}
use Rattle.std.specs.Cmp.Lexicographic.{pointwise}
use Rattle.gw_rules.specs.Rule.{each_field, ranges_of}
use Rattle.gw_rules.specs.declared.field.FieldName.{FieldName}
use Rattle.gw_rules.specs.declared.range.Range.{Range}
use Rattle.gw_rules.specs.declared.rule.Rule.{Rule}
use Rattle.gw_notices.specs.declared.rule_changes.changes.Changes.{Changes}

-- ---- one rule

abbrev pub same_range : Range → Range → Bool
same_range a b = nat_eq a.low b.low && nat_eq a.high b.high

-- two rules have the same ranges for a field
abbrev pub same_field : Rule → Rule → FieldName → Bool
same_field a b field = pointwise same_range (ranges_of field a) (ranges_of field b)

-- both are true, or neither is
abbrev pub same_truth : Bool → Bool → Bool
same_truth true b = b
same_truth false b = not b

-- two rules are one: they have the same name, the same action, are both quiet or neither, and have the same ranges for each field
abbrev pub same_rule : Rule → Rule → Bool
same_rule a b =
    pointwise nat_eq a.name b.name && (same_truth a.allow b.allow && (same_truth a.quiet b.quiet && each_field (same_field a b)))

-- a rule is one of these
abbrev pub is_among : List Rule → Rule → Bool
is_among rules rule = list_any (same_rule rule) rules

-- ---- all rules

-- how many rules aren't among others
abbrev pub count_missing : (others rules : List Rule) → ℕ
count_missing others rules = count_by (λ rule. not (is_among others rule)) rules

-- the rules after the first that is this one
unfoldable pub rules_after : Rule → List Rule → List Rule
rules_after rule [] = []
rules_after rule (first ∷ rules) = if same_rule rule first then rules else rules_after rule rules

abbrev pub number_if : Bool → ℕ
number_if is = if is then 1 else 0

-- How many of the new rules are among the old ones, and not in their place: each is looked for among the old rules after
-- the last one that was found there.
unfoldable pub count_moved : (old rest new : List Rule) → ℕ
count_moved old rest [] = 0
count_moved old rest (rule ∷ new) =
    if is_among rest rule then count_moved old (rules_after rule rest) new
    else number_if (is_among old rule) + count_moved old rest new

-- how many rules are new, gone and moved
abbrev pub changes_of : (old new : List Rule) → Changes
changes_of old new = record {
  new = count_missing old new;
  gone = count_missing new old;
  moved = count_moved old old new;
}

-- `2 new, 1 gone, 1 moved`
abbrev pub changes_text : Changes → List ℕ
changes_text c =
    decimal c.new ++ codes " new, " ++ decimal c.gone ++ codes " gone, " ++ decimal c.moved ++ codes " moved"
