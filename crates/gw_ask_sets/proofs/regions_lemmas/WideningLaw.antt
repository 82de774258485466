-- Regions that are alike but for a field, and a field that may be anything as no shape shows the difference.
use Rattle.std.proofs.Common.{◌≡◌, ◌∙◌, sym, ap, refl, ℕ, ◌<◌, Bool, true, false, ◌&&◌, ◌||◌, List, get_or, Option, arith, nat_lt, subst, ◌+◌}
use Rattle.std.proofs.lemmas.Bool.{ltb-false, ltb-true}
use Rattle.gw_rules.specs.Ask.{Ask}
use Rattle.gw_rules.specs.Fields.{value_of, with_value}
use Rattle.gw_rules.specs.declared.field.FieldName.{FieldName}
use Rattle.gw_rules.specs.declared.field.TheConstants.FieldName.{ALL}
use Rattle.gw_ask_sets.specs.regions.Merging.{IsWide, has_but, lies_but}
use Rattle.gw_ask_sets.specs.regions.Regions.{Region, lies, lies_in_one}
use Rattle.gw_ask_sets.specs.regions.Values.{has}
use Rattle.gw_ask_sets.specs.declared.regions.values.Values.{Values}
use Rattle.gw_ask_sets.proofs.regions_lemmas.ComparingLaw.{all_same, every_field}
use Rattle.gw_ask_sets.proofs.regions_lemmas.MergingLaw.{either}
use Rattle.gw_ask_sets.proofs.regions_lemmas.RangeLaw.{and_all, or_none}
use Rattle.gw_ask_sets.proofs.regions_lemmas.RegionLaw.{lies_apart, lies_with}

-- regions that are alike in each other field
pub same_but_law : (field : FieldName) (a b : Region) → ((k : ℕ) (d : FieldName) → k < 12 → (ask : Ask) → has_but field (get_or ALL k d) a ask ≡ has_but field (get_or ALL k d) b ask)
    → (ask : Ask) → lies_but field a ask ≡ lies_but field b ask
same_but_law field a b same ask =
    all_same (λ other. has_but field other a ask) (λ other. has_but field other b ask)
    (every_field (λ other. has_but field other a ask ≡ has_but field other b ask) (λ k d within. same k d within ask)) ALL

-- what holds at the places so far and at the next one
pub so_far : (P : FieldName → Type 0) (place : ℕ) → ((k : ℕ) (d : FieldName) → k < place → P (get_or ALL k d)) → ((d : FieldName) → P (get_or ALL place d))
    → (k : ℕ) (d : FieldName) → k < place + 1 → P (get_or ALL k d)
so_far P place before now k d within = by (nat_lt k place) refl
  where
    by : (b : Bool) → nat_lt k place ≡ b → P (get_or ALL k d)
    by true e = before k d (ltb-true k place e)
    by false e =
        let u = ltb-false k place e in
        let last : k ≡ place = omega arith in
        subst (λ (n : ℕ). P (get_or ALL n d)) (sym last) (now d)

-- a field with more values, of which no ask of a shape has one
pub freed : (shapes : List Region) (field : FieldName) (region : Region) (rest wide : Values)
    → ((value : Option ℕ) → has wide value ≡ (has (value_of field region) value || has rest value))
    → ((ask : Ask) → (lies (with_value field rest region) ask && lies_in_one shapes ask) ≡ false)
    → IsWide shapes region (with_value field wide region)
freed shapes field region rest wide all none ask in_shape =
    let x = has (value_of field region) (value_of field ask) in
    let y = has rest (value_of field ask) in
    let but = lies_but field region ask in
    let beyond = lies (with_value field rest region) ask in
    let outside : beyond ≡ false = sym (and_all beyond) ∙ sym (ap (λ b. beyond && b) in_shape) ∙ none ask in
    lies_with field region wide ask
    ∙ ap (λ b. b && but) (all (value_of field ask))
    ∙ either x y but
    ∙ ap (λ b. b || (y && but)) (sym (lies_apart field region ask))
    ∙ ap (λ b. lies region ask || b) (sym (lies_with field region rest ask) ∙ outside)
    ∙ or_none (lies region ask)

pub wide_same : (shapes : List Region) (region : Region) → IsWide shapes region region
wide_same shapes region ask in_shape = refl

pub wide_more : (shapes : List Region) (region wide wider : Region) → IsWide shapes region wide → IsWide shapes wide wider → IsWide shapes region wider
wide_more shapes region wide wider one two ask in_shape = two ask in_shape ∙ one ask in_shape
