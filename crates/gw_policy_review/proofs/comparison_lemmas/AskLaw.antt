-- An ask lies in one of the regions exactly if it lies in a shape of one of two configurations.
use Rattle.std.proofs.Common.{◌≡◌, ◌∙◌, ◌+◌, ◌<◌, inl, inr, sym, refl, subst, Bool, true, false, List, [], ◌∷◌, ◌++◌, add-one, ap, append_assoc, get_or, length, map, take, Option, Some, None, ℕ}
use Rattle.std.proofs.Math.Seq.{take-suc}
use Rattle.std.proofs.lemmas.List.{map-append}
use Rattle.std.specs.Prelude.{◌⊎◌, ◌||◌, ◌&&◌, ◌==◌, if◌then◌else◌}
use Rattle.std.specs.List.{flat_map, list_any}
use Rattle.std.proofs.lemmas.Bool.{and_parts, both_ways, eqb-true, or_cases, or_left, or_right}
use Rattle.std.proofs.lemmas.List.Folds.{list_any-append}
use Rattle.gw_configuration.specs.Configuration.{Configuration}
use Rattle.gw_ask_sets.specs.regions.Regions.{Region, lies, lies_in_one}
use Rattle.gw_rules.specs.Ask.{Ask}
use Rattle.gw_rules.specs.Fields.{value_of}
use Rattle.gw_rules.proofs.EachField.{each_field_at}
use Rattle.gw_ask_sets.specs.shapes.Regions.{region_of}
use Rattle.gw_ask_sets.specs.shapes.Shape.{IsIn, IsOneOf, IsWithin, LiesIn, LiesInOne, Shape}
use Rattle.gw_ask_sets.specs.shapes.Shapes.{shapes}
use Rattle.gw_ask_sets.specs.declared.shapes.side.Side.{Side}
use Rattle.gw_ask_sets.proofs.shapes_lemmas.RegionLaw.{either, inner_one, is_inner, whole_one}
use Rattle.gw_policy_review.specs.comparison.Asks.{AreAsksOf, asks_of, is_alike, is_same, is_same_side, other_region}

parted : (xs ys : List Region) (ask : Ask) → lies_in_one (xs ++ ys) ask ≡ (lies_in_one xs ask || lies_in_one ys ask)
parted xs ys ask = list_any-append (λ region. lies region ask) xs ys

-- ---- shapes that are the same have the same asks

alike : (a b : Bool) → is_alike a b ≡ true → a ≡ true → b ≡ true
alike true b e t = e
alike false b e t = absurd cc

same_side : (a b : Side) (value : Option ℕ) → is_same_side a b ≡ true → IsWithin a value → IsWithin b value
same_side a b value e is =
    let parts = and_parts (is_alike a.absent b.absent) (is_alike a.keyed b.keyed && (a.range.low == b.range.low && a.range.high == b.range.high)) e in
    let rest = and_parts (is_alike a.keyed b.keyed) (a.range.low == b.range.low && a.range.high == b.range.high) parts.1 in
    let ends = and_parts (a.range.low == b.range.low) (a.range.high == b.range.high) rest.1 in
    by value (eqb-true a.range.low b.range.low ends.0) (eqb-true a.range.high b.range.high ends.1) parts.0 is
  where
    in_same : a.range.low ≡ b.range.low → a.range.high ≡ b.range.high → (n : ℕ) → IsIn a.range n → IsIn b.range n
    in_same low high n (from, to) = (rw (← low) from, rw (← high) to)

    one_of : (keyed other : Bool) (n : ℕ) → is_alike keyed other ≡ true → a.range.low ≡ b.range.low → a.range.high ≡ b.range.high
        → IsOneOf keyed a.range n → IsOneOf other b.range n
    one_of true true n same low high is = (in_same low high n is.0, is.1)
    one_of true false n same low high is = absurd cc
    one_of false true n same low high is = absurd cc
    one_of false false n same low high is = in_same low high n is

    by : (value : Option ℕ) → a.range.low ≡ b.range.low → a.range.high ≡ b.range.high → is_alike a.absent b.absent ≡ true
        → IsWithin a value → IsWithin b value
    by None low high absent is = alike a.absent b.absent absent is
    by (Some n) low high absent is =
        one_of a.keyed b.keyed n
        (and_parts (is_alike a.keyed b.keyed) (a.range.low == b.range.low && a.range.high == b.range.high)
        (and_parts (is_alike a.absent b.absent) (is_alike a.keyed b.keyed && (a.range.low == b.range.low && a.range.high == b.range.high)) e).1).0
        low high is

same_shape : (a b : Shape) (ask : Ask) → is_same a b ≡ true → LiesIn a ask → LiesIn b ask
same_shape a b ask e is field =
    same_side (value_of field a) (value_of field b) (value_of field ask)
    (each_field_at (λ f. is_same_side (value_of f a) (value_of f b)) e field) (is field)

-- an ask of a shape that is among others lies in one of them
among : (known : List Shape) (shape : Shape) (ask : Ask) → list_any (is_same shape) known ≡ true → LiesIn shape ask → LiesInOne known ask
among [] shape ask e is = absurd (both_ways false refl e)
among (other ∷ known) shape ask e is =
    either (λ here. inl (same_shape shape other ask here is)) (λ there. inr (among known shape ask there is))
    (or_cases (is_same shape other) (list_any (is_same shape) known) e)

-- ---- the regions of the others

one_inner : (b : Bool) (shape : Shape) (ask : Ask) → lies_in_one (if b then [] else region_of shape ∷ []) ask ≡ true → LiesIn shape ask
one_inner true shape ask e = absurd (both_ways false refl e)
one_inner false shape ask e =
    either (λ here. is_inner shape ask here) (λ never. absurd (both_ways false refl never)) (or_cases (lies (region_of shape) ask) false e)

others_inner : (known shapes : List Shape) (ask : Ask) → lies_in_one (flat_map (other_region known) shapes) ask ≡ true → LiesInOne shapes ask
others_inner known [] ask e = both_ways false refl e
others_inner known (shape ∷ shapes) ask e =
    either (λ here. inl (one_inner (list_any (is_same shape) known) shape ask here)) (λ there. inr (others_inner known shapes ask there))
    (or_cases (lies_in_one (other_region known shape) ask) (lies_in_one (flat_map (other_region known) shapes) ask)
    (sym (parted (other_region known shape) (flat_map (other_region known) shapes) ask) ∙ e))

-- an ask of one of the shapes lies in one of the regions, of the others or of those that were known
one_whole : (b : Bool) (known : List Shape) (shape : Shape) (ask : Ask) → list_any (is_same shape) known ≡ b → LiesIn shape ask
    → (lies_in_one (map region_of known) ask ≡ true) ⊎ (lies_in_one (if b then [] else region_of shape ∷ []) ask ≡ true)
one_whole true known shape ask e is = inl (whole_one known ask (among known shape ask e is))
one_whole false known shape ask e is = inr (or_left (lies (region_of shape) ask) false (region_whole shape ask is))
  where
    region_whole : (shape : Shape) (ask : Ask) → LiesIn shape ask → lies (region_of shape) ask ≡ true
    region_whole shape ask is =
        either (λ t. t) (λ never. absurd (both_ways false refl never))
        (or_cases (lies (region_of shape) ask) false (whole_one (shape ∷ []) ask (inl is)))

others_whole : (known shapes : List Shape) (ask : Ask) → LiesInOne shapes ask
    → (lies_in_one (map region_of known) ask ≡ true) ⊎ (lies_in_one (flat_map (other_region known) shapes) ask ≡ true)
others_whole known [] ask is = absurd is
others_whole known (shape ∷ shapes) ask (inl here) =
    either (λ old. inl old)
    (λ there. inr (parted (other_region known shape) (flat_map (other_region known) shapes) ask
    ∙ or_left (lies_in_one (other_region known shape) ask) (lies_in_one (flat_map (other_region known) shapes) ask) there))
    (one_whole (list_any (is_same shape) known) known shape ask refl here)
others_whole known (shape ∷ shapes) ask (inr later) =
    either (λ old. inl old)
    (λ there. inr (parted (other_region known shape) (flat_map (other_region known) shapes) ask
    ∙ or_right (lies_in_one (other_region known shape) ask) (lies_in_one (flat_map (other_region known) shapes) ask) there))
    (others_whole known shapes ask later)

-- ---- both

inner_both : (old new : Configuration) (ask : Ask) → lies_in_one (asks_of old new) ask ≡ true → LiesInOne (shapes old) ask ⊎ LiesInOne (shapes new) ask
inner_both old new ask e =
    either (λ here. inl (inner_one (shapes old) ask here)) (λ there. inr (others_inner (shapes old) (shapes new) ask there))
    (or_cases (lies_in_one (map region_of (shapes old)) ask) (lies_in_one (flat_map (other_region (shapes old)) (shapes new)) ask)
    (sym (parted (map region_of (shapes old)) (flat_map (other_region (shapes old)) (shapes new)) ask) ∙ e))

-- the asks of both configurations
pub all_asks : (old new : Configuration) → AreAsksOf old new (asks_of old new)
all_asks old new =
    let first = map region_of (shapes old) in
    let second = flat_map (other_region (shapes old)) (shapes new) in record {
      inner = inner_both old new;
      by_old = λ ask is. parted first second ask ∙ or_left (lies_in_one first ask) (lies_in_one second ask) (whole_one (shapes old) ask is);
      by_new = λ ask is. parted first second ask ∙ either (or_left (lies_in_one first ask) (lies_in_one second ask))
          (or_right (lies_in_one first ask) (lies_in_one second ask)) (others_whole (shapes old) (shapes new) ask is);
    }

pub are_asks_of : (old new : Configuration) (regions : List Region) → regions ≡ asks_of old new → AreAsksOf old new regions
are_asks_of old new regions e = subst (λ (rs : List Region). AreAsksOf old new rs) (sym e) (all_asks old new)

-- ---- regions of shapes

-- one more
pub region_next : (shapes : List Shape) (place : ℕ) (d : Shape) (before regions new : List Region) (made : Region) → place < length shapes
    → new ≡ regions ++ made ∷ [] → made ≡ region_of (get_or shapes place d)
    → regions ≡ before ++ map region_of (take place shapes) → new ≡ before ++ map region_of (take (place + 1) shapes)
region_next shapes place d before regions new made within grown is was =
    let one = get_or shapes place d in
    let next : take (place + 1) shapes ≡ take place shapes ++ one ∷ [] =
    ap (λ n. take n shapes) (add-one place) ∙ take-suc shapes place d within in
    grown ∙ ap (λ (r : Region). regions ++ r ∷ []) is ∙ ap (λ (rs : List Region). rs ++ region_of one ∷ []) was
    ∙ append_assoc before (map region_of (take place shapes)) (region_of one ∷ [])
    ∙ ap (λ (rs : List Region). before ++ rs) (sym (ap (map region_of) next ∙ map-append region_of (take place shapes) (one ∷ [])))
