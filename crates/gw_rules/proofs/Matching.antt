-- What `matches` computes is what it says in words.
use Rattle.std.proofs.Common.{◌≡◌, ℕ, ◌≤◌, ◌<◌, Bool, true, false, List, [], ◌∷◌, length, ◌↔◌, Option, Some, None, ◌==◌, ◌||◌, arith, refl, sym, ◌∙◌, ap, nat_le}
use Rattle.std.specs.List.{Any, list_any}
use Rattle.std.specs.Option.{IsSomeAnd, option_map_or}
use Rattle.std.proofs.lemmas.Bool.{leb-true, le-leb, and_parts, and_from, false≢true, ne_eqb}
use Rattle.std.proofs.lemmas.List.Folds.{Any-from_list_any, list_any-from_Any}
use Rattle.gw_rules.specs.Ask.{Ask}
use Rattle.gw_rules.specs.declared.field.FieldName.{FieldName}
use Rattle.gw_rules.specs.declared.range.Range.{Range}
use Rattle.gw_rules.specs.declared.rule.Rule.{Rule}
use Rattle.gw_rules.specs.Fields.{value_of}
use Rattle.gw_rules.specs.Range.{admits, holds}
use Rattle.gw_rules.specs.Rule.{matches, Matches, ranges_of}
use Rattle.gw_rules.proofs.EachField.{each_field_at, each_field_from}

-- the number lies in the range
abbrev Lies : ℕ → Range → Type 0
Lies number range = (range.low ≤ number) × (number ≤ range.high)

lies : (number : ℕ) (range : Range) → holds number range ≡ true → Lies number range
lies number range t =
    let parts = and_parts (nat_le range.low number) (nat_le number range.high) t in
    (leb-true range.low number parts.0, leb-true number range.high parts.1)

held : (number : ℕ) (range : Range) → Lies number range → holds number range ≡ true
held number range l =
    and_from (nat_le range.low number) (nat_le number range.high) (le-leb range.low number l.0) (le-leb number range.high l.1)

any_lies : (number : ℕ) (ranges : List Range) → list_any (holds number) ranges ≡ true → Any (Lies number) ranges
any_lies number ranges t =
    let found = Any-from_list_any (holds number) ranges t in
    (found.0, found.1, found.2, found.3, lies number found.1 found.4)

any_held : (number : ℕ) (ranges : List Range) → Any (Lies number) ranges → list_any (holds number) ranges ≡ true
any_held number ranges found =
    list_any-from_Any (holds number) ranges (found.0, found.1, found.2, found.3, held number found.1 found.4)

-- what a field with a range admits
some_range : (range : Range) (ranges : List Range) (value : Option ℕ) → admits (range ∷ ranges) value ≡ option_map_or (λ number. list_any (holds number) (range ∷ ranges)) value false
some_range range ranges value =
    let there : (length (range ∷ ranges) == 0) ≡ false = ne_eqb (length (range ∷ ranges)) 0 (λ e. omega arith) in
    ap (λ b. b || option_map_or (λ number. list_any (holds number) (range ∷ ranges)) value false) there

-- ranges admit a value exactly if there are none, or one of them holds the value that is there
met_by : (ranges : List Range) (value : Option ℕ) → option_map_or (λ number. list_any (holds number) ranges) value false ≡ true → IsSomeAnd value (λ number. Any (Lies number) ranges)
met_by ranges None t = false≢true t
met_by ranges (Some number) t = any_lies number ranges t

met : (ranges : List Range) (value : Option ℕ) → admits ranges value ≡ true → 0 < length ranges → IsSomeAnd value (λ number. Any (Lies number) ranges)
met [] value t named = absurd (omega arith)
met (range ∷ ranges) value t named = met_by (range ∷ ranges) value (sym (some_range range ranges value) ∙ t)

admitted_by : (ranges : List Range) (value : Option ℕ) → IsSomeAnd value (λ number. Any (Lies number) ranges) → option_map_or (λ number. list_any (holds number) ranges) value false ≡ true
admitted_by ranges None h = absurd h
admitted_by ranges (Some number) h = any_held number ranges h

admitted : (ranges : List Range) (value : Option ℕ) → (0 < length ranges → IsSomeAnd value (λ number. Any (Lies number) ranges)) → admits ranges value ≡ true
admitted [] value h = refl
admitted (range ∷ ranges) value h = some_range range ranges value ∙ admitted_by (range ∷ ranges) value (h (omega arith))

-- a rule matches exactly if every field that it names is met
pub matches_iff : (rule : Rule) (ask : Ask) → (matches rule ask ≡ true) ↔ Matches rule ask
unfolding matches
matches_iff rule ask =
    let test : FieldName → Bool = λ field. admits (ranges_of field rule) (value_of field ask) in (
      λ t field named. met (ranges_of field rule) (value_of field ask) (each_field_at test t field) named,
      λ h. each_field_from test (λ field. admitted (ranges_of field rule) (value_of field ask) (h field)),
    )
