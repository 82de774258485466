-- The tests that code makes of a list's limits are the limits.
use Rattle.std.proofs.Common.{◌≡◌, ◌*◌, ◌≤◌, ◌&&◌, Bool, true, List, [], ◌∷◌, length, ◌↔◌, nat_le, arith, suc}
use Rattle.std.specs.List.{All, list_all}
use Rattle.std.proofs.lemmas.Bool.{leb-true, le-leb, and_parts, and_from}
use Rattle.std.proofs.lemmas.List.Elements.{All-weaker}
use Rattle.std.proofs.lemmas.List.Sums.{AllPass-from_list_all, list_all-from_AllPass, sum_by-cons}
use Rattle.gw_rules.specs.declared.field.FieldName.{FieldName}
use Rattle.gw_rules.specs.declared.format.Format.{Format}
use Rattle.gw_rules.specs.declared.range.Range.{Range}
use Rattle.gw_rules.specs.declared.rule.Rule.{Rule}
use Rattle.gw_rules.specs.declared.rule.TheConstants.{MAX_LONG_RANGES, MAX_RANGES}
use Rattle.gw_rules.specs.declared.rule_list.TheConstants.{MAX_RANGES_IN_ALL, MAX_RULES}
use Rattle.gw_rules.specs.Bounds.{HasBoundedRanges, are_bounded, bounds, is_within}
use Rattle.gw_rules.specs.Range.{is_ordered}
use Rattle.gw_rules.specs.Rule.{ranges_of, each_field, HasFewRanges, has_few_ranges, HasLongRanges, has_long_ranges, HasOrderedRanges, has_ordered_ranges}
use Rattle.gw_rules.specs.RuleList.{keeps_counts, keeps_long_counts, keeps_order, KeepsCounts, KeepsLongCounts, KeepsOrder, ranges_in_all}
use Rattle.gw_rules.proofs.EachField.{each_field_at, each_field_from}

-- a test of each element is a fact of each
all_iff : {X : Type 0} (test : X → Bool) (P : X → Type 0) → ((x : X) → test x ≡ true → P x) → ((x : X) → P x → test x ≡ true) → (xs : List X) → (list_all test xs ≡ true) ↔ All P xs
all_iff test P of from xs = (
  λ t. All-weaker (λ x. test x ≡ true) P of xs (AllPass-from_list_all test xs t),
  λ all. list_all-from_AllPass test xs (All-weaker P (λ x. test x ≡ true) from xs all),
)

has_few : (rule : Rule) → has_few_ranges rule ≡ true → HasFewRanges rule
has_few rule t field =
    leb-true (length (ranges_of field rule)) MAX_RANGES (each_field_at (λ f. nat_le (length (ranges_of f rule)) MAX_RANGES) t field)

few_passes : (rule : Rule) → HasFewRanges rule → has_few_ranges rule ≡ true
few_passes rule few =
    each_field_from (λ f. nat_le (length (ranges_of f rule)) MAX_RANGES) (λ f. le-leb (length (ranges_of f rule)) MAX_RANGES (few f))

ordered_iff : (ranges : List Range) → (list_all is_ordered ranges ≡ true) ↔ All (λ range. range.low ≤ range.high) ranges
ordered_iff ranges =
    all_iff is_ordered (λ range. range.low ≤ range.high) (λ range. leb-true range.low range.high) (λ range. le-leb range.low range.high) ranges

has_order : (rule : Rule) → has_ordered_ranges rule ≡ true → HasOrderedRanges rule
has_order rule t field =
    (ordered_iff (ranges_of field rule)).0 (each_field_at (λ f. list_all is_ordered (ranges_of f rule)) t field)

order_passes : (rule : Rule) → HasOrderedRanges rule → has_ordered_ranges rule ≡ true
order_passes rule ordered =
    each_field_from (λ f. list_all is_ordered (ranges_of f rule)) (λ f. (ordered_iff (ranges_of f rule)).1 (ordered f))

lies_within : (outer range : Range) → is_within outer range ≡ true → (outer.low ≤ range.low) × (range.high ≤ outer.high)
lies_within outer range t =
    let parts = and_parts (nat_le outer.low range.low) (nat_le range.high outer.high) t in
    (leb-true outer.low range.low parts.0, leb-true range.high outer.high parts.1)

within_passes : (outer range : Range) → (outer.low ≤ range.low) × (range.high ≤ outer.high) → is_within outer range ≡ true
within_passes outer range lies =
    and_from (nat_le outer.low range.low) (nat_le range.high outer.high) (le-leb outer.low range.low lies.0) (le-leb range.high outer.high lies.1)

within_iff : (outer : Range) (ranges : List Range) → (list_all (is_within outer) ranges ≡ true) ↔ All (λ range. (outer.low ≤ range.low) × (range.high ≤ outer.high)) ranges
within_iff outer ranges =
    all_iff (is_within outer) (λ range. (outer.low ≤ range.low) × (range.high ≤ outer.high)) (lies_within outer) (within_passes outer) ranges

-- each range is within its field's bounds exactly if the test holds
pub bounded_iff : (format : Format) (rule : Rule) → (are_bounded format rule.ranges ≡ true) ↔ HasBoundedRanges format rule
bounded_iff format rule = (
  λ t field. (within_iff (bounds format field) (ranges_of field rule)).0 (each_field_at (λ f. list_all (is_within (bounds format f)) (ranges_of f rule)) t field),
  λ bounded. each_field_from (λ f. list_all (is_within (bounds format f)) (ranges_of f rule)) (λ f. (within_iff (bounds format f) (ranges_of f rule)).1 (bounded f)),
)

-- the counts are kept exactly if there are few rules, each with few ranges
pub counts_iff : (rules : List Rule) → (keeps_counts rules ≡ true) ↔ KeepsCounts rules
counts_iff rules =
    let few = all_iff has_few_ranges HasFewRanges has_few few_passes rules in (
      λ t.
          let parts = and_parts (nat_le (length rules) MAX_RULES) (list_all has_few_ranges rules) t in
          (leb-true (length rules) MAX_RULES parts.0, few.0 parts.1),
      λ keeps.
          and_from (nat_le (length rules) MAX_RULES) (list_all has_few_ranges rules) (le-leb (length rules) MAX_RULES keeps.0) (few.1 keeps.1),
    )

has_long : (rule : Rule) → has_long_ranges rule ≡ true → HasLongRanges rule
has_long rule t field =
    leb-true (length (ranges_of field rule)) MAX_LONG_RANGES (each_field_at (λ f. nat_le (length (ranges_of f rule)) MAX_LONG_RANGES) t field)

long_passes : (rule : Rule) → HasLongRanges rule → has_long_ranges rule ≡ true
long_passes rule long =
    each_field_from (λ f. nat_le (length (ranges_of f rule)) MAX_LONG_RANGES) (λ f. le-leb (length (ranges_of f rule)) MAX_LONG_RANGES (long f))

-- the counts of a long list are kept exactly if there are few rules, each with so many ranges, and in all so many
pub long_counts_iff : (rules : List Rule) → (keeps_long_counts rules ≡ true) ↔ KeepsLongCounts rules
unfolding keeps_long_counts
long_counts_iff rules =
    let long = all_iff has_long_ranges HasLongRanges has_long long_passes rules in
    let test : FieldName → Bool = λ field. nat_le (ranges_in_all rules field) MAX_RANGES_IN_ALL in
    let few : Bool = nat_le (length rules) MAX_RULES in
    let rest : Bool = list_all has_long_ranges rules && each_field test in (
      λ t.
          let parts = and_parts few rest t in
          let both = and_parts (list_all has_long_ranges rules) (each_field test) parts.1 in
          record {
            few_rules = leb-true (length rules) MAX_RULES parts.0;
            each_rule = long.0 both.0;
            in_all = λ field. leb-true (ranges_in_all rules field) MAX_RANGES_IN_ALL (each_field_at test both.1 field);
          },
      λ keeps.
          and_from few rest (le-leb (length rules) MAX_RULES keeps.few_rules)
          (and_from (list_all has_long_ranges rules) (each_field test) (long.1 keeps.each_rule)
          (each_field_from test (λ field. le-leb (ranges_in_all rules field) MAX_RANGES_IN_ALL (keeps.in_all field)))),
    )

-- rules with at most four ranges each have at most four times as many in all
four_in_all : (rules : List Rule) (field : FieldName) → All HasFewRanges rules → ranges_in_all rules field ≤ 4 * length rules
four_in_all [] field few = omega arith
four_in_all (rule ∷ rules) field few =
    let here : length (ranges_of field rule) ≤ 4 = few 0 rule (omega arith) field in
    let rest : ranges_in_all rules field ≤ 4 * length rules = four_in_all rules field (λ k d within. few (suc k) d (omega (arith, within))) in
    omega (arith, here, rest, sum_by-cons (λ r. length (ranges_of field r)) rule rules)

-- a list that keeps the shorter limits keeps the longer ones
pub short_is_long : (rules : List Rule) → KeepsCounts rules → KeepsLongCounts rules
short_is_long rules keeps = record {
  few_rules = keeps.0;
  each_rule = All-weaker HasFewRanges HasLongRanges (λ rule few field. let four : length (ranges_of field rule) ≤ 4 = few field in omega arith) rules keeps.1;
  in_all = λ field. let four = four_in_all rules field keeps.1 in let most : length rules ≤ 512 = keeps.0 in omega (arith, four, most);
}

-- so its test holds too
pub short_passes : (rules : List Rule) → keeps_counts rules ≡ true → keeps_long_counts rules ≡ true
short_passes rules t = (long_counts_iff rules).1 (short_is_long rules ((counts_iff rules).0 t))

-- the order is kept exactly if each range of each rule is the right way round
pub order_iff : (rules : List Rule) → (keeps_order rules ≡ true) ↔ KeepsOrder rules
order_iff rules = all_iff has_ordered_ranges HasOrderedRanges has_order order_passes rules
