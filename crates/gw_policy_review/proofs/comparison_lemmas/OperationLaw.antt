-- The operations of the asks of the shapes that lie in a region, and the region with these alone.
use Rattle.std.proofs.Common.{◌≡◌, ◌∙◌, sym, ap, refl, subst, ℕ, Bool, true, false, ◌&&◌, ◌||◌, List, [], ◌∷◌, ◌++◌, Option, Some, None, inl, inr}
use Rattle.std.specs.List.{AllByRecursion}
use Rattle.std.proofs.lemmas.Bool.{and_from, and_parts, both_ways, or_cases, or_left, or_right}
use Rattle.std.proofs.lemmas.List.Folds.{list_any-append}
use Rattle.gw_rules.specs.Ask.{Ask}
use Rattle.gw_rules.specs.Fields.{value_of, with_value}
use Rattle.gw_rules.specs.declared.field.FieldName.{FieldName}
use Rattle.gw_rules.specs.declared.field.FieldName.TheVariants.{DestinationNetwork, Instance, ObjectType, Operation, Port, Priority}
use Rattle.gw_rules.specs.declared.field.FieldName.TheVariants.{Property, Sender, Service, SourceKey, SourceNetwork, Station}
use Rattle.gw_rules.proofs.EachField.{each_field_at}
use Rattle.gw_ask_sets.specs.regions.Merging.{IsWide, lies_but}
use Rattle.gw_ask_sets.specs.regions.Presence.{IsLacking, IsMeantBy, NoneIsMeant}
use Rattle.gw_ask_sets.specs.regions.Regions.{Region, lies, lies_in_one}
use Rattle.gw_ask_sets.specs.regions.Values.{has}
use Rattle.gw_ask_sets.specs.declared.regions.values.Values.{Values}
use Rattle.gw_ask_sets.proofs.regions_lemmas.RangeLaw.{or_none, same, shared_law}
use Rattle.gw_ask_sets.proofs.regions_lemmas.RegionLaw.{lies_apart, lies_with}
use Rattle.gw_policy_review.specs.comparison.Operations.{AreAsked, IsAsking, OperationIsMeant, is_open, values_of_both}

both_has : (a b : Values) (x : Option ℕ) → has (values_of_both a b) x ≡ (has a x && has b x)
both_has a b None = refl
both_has a b (Some n) = shared_law n a.ranges b.ranges

-- ---- one shape

-- an ask lies in a region but for its operation
but : (region : Region) (ask : Ask) → lies region ask ≡ true → lies_but Operation region ask ≡ true
but region ask there = (and_parts (has region.operation ask.operation) (lies_but Operation region ask) (sym (lies_apart Operation region ask) ∙ there)).1

-- so it lies there with any of its operations
lies_by : (region : Region) (ask : Ask) (x : Option ℕ) → lies region ask ≡ true → has region.operation x ≡ true
    → lies region (record ask { operation = x }) ≡ true
lies_by region ask x there may =
    lies_apart Operation region (record ask { operation = x })
    ∙ and_from (has region.operation x) (lies_but Operation region ask) may (but region ask there)

operation_at : (region : Region) (ask : Ask) → lies region ask ≡ true → has region.operation ask.operation ≡ true
operation_at region ask there = each_field_at (λ f. has (value_of f region) (value_of f ask)) there Operation

pub asked_of_both : (region shape : Region) (ask : Ask) (operations : Values) → (lies region ask && lies shape ask) ≡ true
    → operations ≡ values_of_both region.operation shape.operation → AreAsked (shape ∷ []) region operations
asked_of_both region shape ask operations there is =
    subst (λ (v : Values). AreAsked (shape ∷ []) region v) (sym is) (record {
      enough = λ a lies_there in_shape. both_has region.operation shape.operation a.operation
          ∙ and_from (has region.operation a.operation) (has shape.operation a.operation) (operation_at region a lies_there)
          (operation_at shape a (sym (or_none (lies shape a)) ∙ in_shape));
      asked = λ x t.
          let both = and_parts (lies region ask) (lies shape ask) there in
          let may = and_parts (has region.operation x) (has shape.operation x) (sym (both_has region.operation shape.operation x) ∙ t) in
          record {
            ask = record ask { operation = x };
            there = lies_by region ask x both.0 may.0;
            in_shape = or_none (lies shape (record ask { operation = x })) ∙ lies_by shape ask x both.1 may.1;
            named = refl;
          };
    })

pub nothing_asked : (shapes : List Region) (region : Region) (operations : Values) → operations ≡ record { absent = false; ranges = [] }
    → ((ask : Ask) → (lies region ask && lies_in_one shapes ask) ≡ false) → AreAsked shapes region operations
nothing_asked shapes region operations is none =
    subst (λ (v : Values). AreAsked shapes region v) (sym is) (record {
      enough = λ a there in_shape. absurd (both_ways (lies region a && lies_in_one shapes a) (none a) (and_from (lies region a) (lies_in_one shapes a) there in_shape));
      asked = λ x t. absurd (both_ways false refl (sym (empty x) ∙ t));
    })
  where
    empty : (x : Option ℕ) → has (record { absent = false; ranges = [] }) x ≡ false
    empty None = refl
    empty (Some n) = refl

pub nothing_of_both : (region shape : Region) (operations : Values) → ((ask : Ask) → (lies region ask && lies shape ask) ≡ false)
    → operations ≡ record { absent = false; ranges = [] } → AreAsked (shape ∷ []) region operations
nothing_of_both region shape operations apart is =
    nothing_asked (shape ∷ []) region operations is
    (λ ask. ap (λ b. lies region ask && b) (or_none (lies shape ask)) ∙ apart ask)

pub nothing_of_none : (region : Region) (operations : Values) → operations ≡ record { absent = false; ranges = [] } → AreAsked [] region operations
nothing_of_none region operations is = nothing_asked [] region operations is (λ ask. none (lies region ask))
  where
    none : (b : Bool) → (b && false) ≡ false
    none true = refl
    none false = refl

-- ---- one shape more

pub asked_more : (shapes : List Region) (shape region : Region) (some more all : Values) → AreAsked shapes region some
    → AreAsked (shape ∷ []) region more → ((x : Option ℕ) → has all x ≡ (has some x || has more x)) → AreAsked (shapes ++ shape ∷ []) region all
asked_more shapes shape region some more all one two is = record {
  enough = λ ask there in_shape. is ask.operation
      ∙ elim (or_cases (lies_in_one shapes ask) (lies_in_one (shape ∷ []) ask) (sym (split ask) ∙ in_shape)) [
        | inl here ↦ or_left (has some ask.operation) (has more ask.operation) (one.enough ask there here)
        | inr later ↦ or_right (has some ask.operation) (has more ask.operation) (two.enough ask there later)
      ];
  asked = λ x t. elim (or_cases (has some x) (has more x) (sym (is x) ∙ t)) [
    | inl here ↦ first x (one.asked x here)
    | inr later ↦ last x (two.asked x later)
  ];
}
  where
    split : (ask : Ask) → lies_in_one (shapes ++ shape ∷ []) ask ≡ (lies_in_one shapes ask || lies_in_one (shape ∷ []) ask)
    split ask = list_any-append (λ r. lies r ask) shapes (shape ∷ [])

    first : (x : Option ℕ) → IsAsking shapes region x → IsAsking (shapes ++ shape ∷ []) region x
    first x by = record {
      ask = by.ask;
      there = by.there;
      named = by.named;
      in_shape = split by.ask ∙ or_left (lies_in_one shapes by.ask) (lies_in_one (shape ∷ []) by.ask) by.in_shape;
    }

    last : (x : Option ℕ) → IsAsking (shape ∷ []) region x → IsAsking (shapes ++ shape ∷ []) region x
    last x by = record {
      ask = by.ask;
      there = by.there;
      named = by.named;
      in_shape = split by.ask ∙ or_right (lies_in_one shapes by.ask) (lies_in_one (shape ∷ []) by.ask) by.in_shape;
    }

-- ---- the region with these alone

abbrev narrowed : Values → Region → Region
narrowed operations region = with_value Operation operations region

pub narrow_wide : (shapes : List Region) (region : Region) (operations : Values) → AreAsked shapes region operations
    → IsWide shapes region (narrowed operations region)
narrow_wide shapes region operations is ask in_shape =
    same (lies (narrowed operations region) ask) (lies region ask)
    (λ there.
    let parts = and_parts (has operations ask.operation) (lies_but Operation region ask) (sym (lies_with Operation region operations ask) ∙ there) in
    let asking = is.asked ask.operation parts.0 in
    lies_apart Operation region ask ∙ and_from (has region.operation ask.operation) (lies_but Operation region ask)
    (ap (has region.operation) (sym asking.named) ∙ operation_at region asking.ask asking.there) parts.1)
    (λ there. lies_with Operation region operations ask
    ∙ and_from (has operations ask.operation) (lies_but Operation region ask) (is.enough ask there in_shape) (but region ask there))

pub narrow_meant : (shapes : List Region) (region : Region) (operations : Values) → AreAsked shapes region operations
    → OperationIsMeant shapes (narrowed operations region)
narrow_meant shapes region operations is shut x may =
    let asking = is.asked x may in
    record {
      ask = asking.ask;
      there = narrow_wide shapes region operations is asking.ask asking.in_shape ∙ asking.there;
      in_shape = asking.in_shape;
      named = asking.named;
    }

pub narrow_none : (shapes : List Region) (region : Region) (operations : Values) → AreAsked shapes region operations
    → NoneIsMeant shapes region → NoneIsMeant shapes (narrowed operations region)
narrow_none shapes region operations is was field = by field (was field)
  where
    moved : (field : FieldName) → IsLacking shapes region field → IsLacking shapes (narrowed operations region) field
    moved field it = record {
      ask = it.ask;
      there = narrow_wide shapes region operations is it.ask it.in_shape ∙ it.there;
      in_shape = it.in_shape;
      lacks = it.lacks;
    }

    by : (field : FieldName) → IsMeantBy shapes region field (value_of field region)
        → IsMeantBy shapes (narrowed operations region) field (value_of field (narrowed operations region))
    by Operation meant may any =
        let asking = is.asked None may in
        record {
          ask = asking.ask;
          there = narrow_wide shapes region operations is asking.ask asking.in_shape ∙ asking.there;
          in_shape = asking.in_shape;
          lacks = asking.named;
        }
    by Port meant may any = moved Port (meant may any)
    by SourceNetwork meant may any = moved SourceNetwork (meant may any)
    by SourceKey meant may any = moved SourceKey (meant may any)
    by DestinationNetwork meant may any = moved DestinationNetwork (meant may any)
    by Service meant may any = moved Service (meant may any)
    by ObjectType meant may any = moved ObjectType (meant may any)
    by Instance meant may any = moved Instance (meant may any)
    by Property meant may any = moved Property (meant may any)
    by Priority meant may any = moved Priority (meant may any)
    by Sender meant may any = moved Sender (meant may any)
    by Station meant may any = moved Station (meant may any)

-- a region that says nothing of what its asks are for stays
pub open_wide : (shapes : List Region) (region : Region) → IsWide shapes region region
open_wide shapes region ask in_shape = refl

pub open_meant : (shapes : List Region) (region : Region) → is_open region ≡ true → OperationIsMeant shapes region
open_meant shapes region is shut = absurd (both_ways (is_open region) shut is)

-- ---- all regions

pub all_but_last : {A : Type 0} (P : A → Type 0) (xs : List A) (x : A) → AllByRecursion P (xs ++ x ∷ []) → AllByRecursion P xs × P x
all_but_last P [] x all = (tt, all.0)
all_but_last P (y ∷ ys) x all = let rest = all_but_last P ys x all.1 in ((all.0, rest.0), rest.1)
