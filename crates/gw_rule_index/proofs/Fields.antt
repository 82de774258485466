-- Rows from field to field.
use Rattle.std.proofs.Common.{◌≡◌, ℕ, ◌+◌, ◌*◌, ◌≤◌, ◌<◌, Bool, false, ◌&&◌, List, [], length, take, get_or, Option, Some, None, arith, nat_lt, refl, sym, ◌∙◌, ap}
use Rattle.std.specs.List.{Contains, slice_get, sum_by}
use Rattle.std.specs.Option.{option_map_or}
use Rattle.std.proofs.lemmas.List.Elements.{Contains-get_or}
use Rattle.std.proofs.lemmas.List.Folds.{list_all_more, list_any_none}
use Rattle.std.proofs.lemmas.List.Sums.{sum_by_more}
use Rattle.std.proofs.lemmas.Option.{get_or_from_slice_get, slice_get_within}
use Rattle.gw_rules.specs.Ask.{Ask}
use Rattle.gw_rules.specs.Fields.{value_of}
use Rattle.gw_rules.specs.Rule.{ranges_of}
use Rattle.gw_rules.specs.declared.field.FieldName.{FieldName}
use Rattle.gw_rules.specs.declared.range.Range.{Range}
use Rattle.gw_rules.specs.declared.rule.Rule.{Rule}
use Rattle.gw_rule_index.specs.Comparisons.{is_named, most_comparisons, most_comparisons_in, one_comparison}
use Rattle.gw_rule_index.specs.internal.Row.{Marks, admits_all, admits_in, bit}

-- a row marks alike by two tests that agree on the rules of the list
pub marks_same : (words : List ℕ) (one two : Rule → Bool) (rules : List Rule) → ((rule : Rule) → Contains rules rule → one rule ≡ two rule) → Marks words one rules → Marks words two rules
marks_same words one two rules same marks k b word inside =
    marks k b word inside ∙ ap bit (at (64 * k + b) (slice_get rules (64 * k + b)) refl)
  where
    at : (place : ℕ) (o : Option Rule) → slice_get rules place ≡ o → option_map_or one o false ≡ option_map_or two o false
    at place None e = refl
    at place (Some rule) e =
        same rule (place, slice_get_within rules place rule e, get_or_from_slice_get rules place rule rule e)

-- one more field
pub marks_more : (words : List ℕ) (rules : List Rule) (ask : Ask) (fields : List FieldName) (i : ℕ) (d : FieldName) (value : Option ℕ) → i < length fields → value ≡ value_of (get_or fields i d) ask → Marks words (λ rule. admits_all ask (take i fields) rule && admits_in (get_or fields i d) value rule) rules → Marks words (admits_all ask (take (i + 1) fields)) rules
marks_more words rules ask fields i d value within is marks =
    marks_same words (λ rule. admits_all ask (take i fields) rule && admits_in (get_or fields i d) value rule) (admits_all ask (take (i + 1) fields)) rules
    (λ rule there.
    ap (λ v. admits_all ask (take i fields) rule && admits_in (get_or fields i d) v rule) is
    ∙ sym (list_all_more (λ field. admits_in field (value_of field ask) rule) fields i d within))
    marks

pub few_comparisons : (value : Option ℕ) → most_comparisons value ≤ 13
few_comparisons None = omega arith
few_comparisons (Some value) = omega arith

pub comparisons_more : (ask : Ask) (fields : List FieldName) (i : ℕ) (d : FieldName) (value : Option ℕ) → i < length fields → value ≡ value_of (get_or fields i d) ask → most_comparisons_in ask (take (i + 1) fields) ≡ most_comparisons_in ask (take i fields) + most_comparisons value
comparisons_more ask fields i d value within is =
    sum_by_more (λ field. most_comparisons (value_of field ask)) fields i d within
    ∙ ap (λ v. most_comparisons_in ask (take i fields) + most_comparisons v) (sym is)

-- no rule names a field of which the rules have no range
pub none_named : (rules : List Rule) (field : FieldName) → ((rule : Rule) → Contains rules rule → ranges_of field rule ≡ []) → is_named rules field ≡ false
none_named rules field unnamed =
    list_any_none (λ rule. nat_lt 0 (length (ranges_of field rule))) rules (λ k d inside. ap (λ (ranges : List Range). nat_lt 0 (length ranges)) (unnamed (get_or rules k d) (Contains-get_or rules k d inside)))

pub ones_more : (ask : Ask) (fields : List FieldName) (i : ℕ) (d : FieldName) (value : Option ℕ) → i < length fields → value ≡ value_of (get_or fields i d) ask → sum_by (λ field. one_comparison (value_of field ask)) (take (i + 1) fields) ≡ sum_by (λ field. one_comparison (value_of field ask)) (take i fields) + one_comparison value
ones_more ask fields i d value within is =
    sum_by_more (λ field. one_comparison (value_of field ask)) fields i d within
    ∙ ap (λ v. sum_by (λ field. one_comparison (value_of field ask)) (take i fields) + one_comparison v) (sym is)
