-- What the tests of a cover say in words.
use Rattle.std.proofs.Common.{◌≡◌, ◌∙◌, ◌⊎◌, inl, inr, ℕ, Bool, true, false, not, ◌||◌, List, [], ◌∷◌, Option, Some, None, refl, sym, ap, arith, nat_le}
use Rattle.std.specs.List.{Any, list_all, list_any}
use Rattle.std.proofs.lemmas.Bool.{and_from, and_parts, both_ways, le-leb, leb-true, or_parts}
use Rattle.std.proofs.lemmas.List.Folds.{Any-from_list_any}
use Rattle.std.proofs.lemmas.List.Sums.{AllPass-from_list_all}
use Rattle.gw_rules.specs.Ask.{Ask}
use Rattle.gw_rules.specs.Fields.{value_of}
use Rattle.gw_rules.specs.Rule.{Matches, ranges_of}
use Rattle.gw_rules.specs.declared.field.FieldName.{FieldName}
use Rattle.gw_rules.specs.declared.range.Range.{Range}
use Rattle.gw_rules.specs.declared.rule.Rule.{Rule}
use Rattle.gw_rules.proofs.EachField.{each_field_at}
use Rattle.gw_ask_sets.specs.shapes.Cover.{MatchesNothing, TakesAll, lies_in, lies_in_any, takes_range, takes_shape, takes_side}
use Rattle.gw_ask_sets.specs.shapes.Meeting.{meets, overlaps}
use Rattle.gw_ask_sets.specs.shapes.Shape.{IsIn, IsWithin, LiesIn, Shape}
use Rattle.gw_ask_sets.specs.declared.shapes.side.Side.{Side}
use Rattle.gw_ask_sets.proofs.shapes_lemmas.Lying.{in_range}
use Rattle.gw_ask_sets.proofs.shapes_lemmas.Narrowing.{Admitted, met, not_empty}

-- ---- nothing is met

pub nothing_met : (shapes : List Shape) (rule : Rule) → list_any (λ shape. meets shape rule) shapes ≡ false → MatchesNothing shapes rule
nothing_met [] rule none ask lies matching = lies
nothing_met (shape ∷ shapes) rule none ask (inl here) matching =
    let parts = or_parts (meets shape rule) (list_any (λ shape. meets shape rule) shapes) none in
    both_ways (meets shape rule) parts.0 (met shape rule ask here matching)
nothing_met (shape ∷ shapes) rule none ask (inr later) matching =
    let parts = or_parts (meets shape rule) (list_any (λ shape. meets shape rule) shapes) none in
    nothing_met shapes rule parts.1 ask later matching

-- ---- all is taken

-- what lies in a range lies in one that this lies in
wider : (number : ℕ) (outer : List Range) (inner : Range) → lies_in_any outer inner ≡ true → IsIn inner number
    → Any (λ range. IsIn range number) outer
wider number outer inner t is =
    let found = Any-from_list_any (λ range. lies_in range inner) outer t in
    let parts = and_parts (nat_le found.1.low inner.low) (nat_le inner.high found.1.high) found.4 in
    let low = leb-true found.1.low inner.low parts.0 in
    let high = leb-true inner.high found.1.high parts.1 in
    let from = is.0 in
    let to = is.1 in
    (found.0, found.1, found.2, found.3, (omega arith, omega arith))

-- one of three
third : (a b c : Bool) → (a || b || c) ≡ true → (a ≡ true) ⊎ ((b ≡ true) ⊎ (c ≡ true))
third true b c t = inl refl
third false true c t = inr (inl refl)
third false false c t = inr (inr t)

overlapping : (side : Side) (range : Range) (number : ℕ) → IsIn side.range number → IsIn range number → overlaps side.range range ≡ true
overlapping side range number is at =
    let a = is.0 in
    let b = is.1 in
    let c = at.0 in
    let d = at.1 in
    and_from (nat_le side.range.low range.high) (nat_le range.low side.range.high)
    (le-leb side.range.low range.high (omega arith)) (le-leb range.low side.range.high (omega arith))

untrue : (b : Bool) → b ≡ true → not b ≡ true → ⊥
untrue true e f = absurd cc
untrue false e f = absurd cc

ranged : (side : Side) (earlier : List Range) (range : Range) (number : ℕ) → takes_range side earlier range ≡ true → IsIn side.range number
    → IsIn range number → Any (λ range. IsIn range number) earlier
ranged side earlier range number t is at =
    elim (third (not (overlaps side.range range)) (lies_in_any earlier side.range) (lies_in_any earlier range) t) [
      | inl apart ↦ absurd (untrue (overlaps side.range range) (overlapping side range number is at) apart)
      | inr others ↦ elim others [
        | inl whole ↦ wider number earlier side.range whole is
        | inr one ↦ wider number earlier range one at
      ]
    ]

pub negated : (b : Bool) → not b ≡ true → b ≡ false
negated true e = absurd cc
negated false e = refl

pub sided : (side : Side) (earlier later : List Range) (value : Option ℕ) → takes_side side earlier later ≡ true → IsWithin side value
    → Admitted later value → Admitted earlier value
sided side [] later value t is admitted named = absurd (omega arith)
sided side (e ∷ es) [] None t is admitted named =
    let t = rw (not_empty e es) at t in
    let parts = and_parts (not side.absent) (lies_in_any (e ∷ es) side.range) t in
    absurd (untrue side.absent is parts.0)
sided side (e ∷ es) [] (Some number) t within admitted named =
    let is = in_range side number within in
    let t = rw (not_empty e es) at t in
    let parts = and_parts (not side.absent) (lies_in_any (e ∷ es) side.range) t in
    wider number (e ∷ es) side.range parts.1 is
sided side (e ∷ es) (l ∷ ls) None t is admitted named = absurd (admitted (omega arith))
sided side (e ∷ es) (l ∷ ls) (Some number) t within admitted named =
    let is = in_range side number within in
    let t = rw (not_empty e es, not_empty l ls) at t in
    let all = AllPass-from_list_all (takes_range side (e ∷ es)) (l ∷ ls) t in
    let some = admitted (omega arith) in
    let at : takes_range side (e ∷ es) some.1 ≡ true = ap (takes_range side (e ∷ es)) (sym some.3) ∙ all some.0 some.1 some.2 in
    ranged side (e ∷ es) some.1 number at is some.4

either_true : (a b : Bool) → (not a || b) ≡ true → a ≡ true → b ≡ true
either_true true b t e = t
either_true false b t e = absurd cc

taken : (shape : Shape) (earlier later : Rule) (ask : Ask) → takes_shape earlier later shape ≡ true → LiesIn shape ask → Matches later ask
    → Matches earlier ask
taken shape earlier later ask t lies matching field =
    let test : FieldName → Bool = λ f. takes_side (value_of f shape) (ranges_of f earlier) (ranges_of f later) in
    let fields = either_true (meets shape later) _ t (met shape later ask lies matching) in
    sided (value_of field shape) (ranges_of field earlier) (ranges_of field later) (value_of field ask)
    (each_field_at test fields field) (lies field) (matching field)

pub all_taken : (shapes : List Shape) (earlier later : Rule) → list_all (takes_shape earlier later) shapes ≡ true → TakesAll shapes earlier later
all_taken [] earlier later t ask lies matching = absurd lies
all_taken (shape ∷ shapes) earlier later t ask (inl here) matching =
    let parts = and_parts (takes_shape earlier later shape) (list_all (takes_shape earlier later) shapes) t in
    taken shape earlier later ask parts.0 here matching
all_taken (shape ∷ shapes) earlier later t ask (inr rest) matching =
    let parts = and_parts (takes_shape earlier later shape) (list_all (takes_shape earlier later) shapes) t in
    all_taken shapes earlier later parts.1 ask rest matching
