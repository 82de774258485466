-- Values of TOML, as code and as definitions see them.
use Rattle.std.proofs.Common.{◌≡◌, ◌||◌, ◌+◌, ℕ, suc, Bool, true, false, not, if◌then◌else◌, length, String, Global, string_bytes, List, [], ◌∷◌, map, Option, Some, None, Ok, refl, sym, ap, ◌∙◌}
use Rattle.std.specs.Map.{keys_of}
use Rattle.std.proofs.lemmas.List.Sums.{sum_by-cons}
use Rattle.std.specs.List.{find, list_any, position, prefix_len, sum_by}
use Rattle.std.specs.Option.{ok_or, option_map}
use Rattle.toml.specs.Data.{Data, Items}
use Rattle.toml.specs.View.{items_of, items_view, members_view, view}
use Rattle.toml.specs.declared.value.Value.{Value}
use Rattle.gw_configuration.specs.declared.fault.ConfigFault.TheVariants.{Kind}
use Rattle.gw_configuration.specs.declared.fault.ConfigFault.{ConfigFault}
use Rattle.gw_policy_text.specs.keys.Field.{Field, is_key, list_fault, list_fault_by, stranger}
use Rattle.gw_policy_text.specs.keys.Range.{is_kind, is_range}
use Rattle.gw_configuration.specs.Located.{Read}
use Rattle.gw_policy_text.specs.keys.Value.{values_of}

-- the values of a list are those that it was made of
pub values_again : (ds : List Data) → values_of (items_of ds) ≡ ds
values_again [] = refl
values_again (d ∷ ds) = ap (λ rest. d ∷ rest) (values_again ds)

-- a list without a fault
abbrev pub fine : List Data → Read (List Data)
fine values = Ok values

abbrev pub listed : Option Items → Read (List Data)
listed items = ok_or (option_map values_of items) Kind

pub list_given : (o : Option Items) (vs ws : List Value) → Some (items_view vs) ≡ o → ws ≡ vs → listed o ≡ fine (map view ws)
list_given o vs ws h e = ap listed (sym h) ∙ ap fine (values_again (map view vs) ∙ ap (map view) (sym e))

-- a test of what the values are seen as
pub any_view : (test : Data → Bool) (vs : List Value) → list_any test (map view vs) ≡ list_any (λ v. test (view v)) vs
any_view test [] = refl
any_view test (v ∷ vs) = ap (λ b. test (view v) || b) (any_view test vs)

-- the first of some keys that is that of no field
abbrev pub stranger_of : List Field → List (String Global) → Option (List ℕ)
stranger_of fields [] = None
stranger_of fields (key ∷ keys) = if is_key fields (string_bytes key) then stranger_of fields keys else Some (string_bytes key)

pub keys_view : (fields : List Field) (es : List (String Global × Value)) → stranger_of fields (keys_of es) ≡ stranger fields (members_view es)
keys_view fields [] = refl
keys_view fields (e ∷ es) = ap (λ o. if is_key fields (string_bytes e.0) then o else Some (string_bytes e.0)) (keys_view fields es)

pub length_view : (vs : List Value) → length (map view vs) ≡ length vs
length_view [] = refl
length_view (v ∷ vs) = ap suc (length_view vs)

pub list_fault_view : (fault : Data → Option ConfigFault) (least most : ℕ) (vs : List Value) (kinds ranges : Bool) (count : ℕ) → kinds ≡ list_any (λ v. is_kind (fault (view v))) vs → ranges ≡ list_any (λ v. is_range (fault (view v))) vs → count ≡ length vs
    → list_fault_by kinds ranges least most count ≡ list_fault fault least most (map view vs)
list_fault_view fault least most vs kinds ranges count k r n =
    rw (any_view (λ d. is_kind (fault d)) vs, any_view (λ d. is_range (fault d)) vs, length_view vs, k, r, n) refl

prefix_view : (test : Data → Bool) (vs : List Value) → prefix_len (λ d. not (test d)) (map view vs) ≡ prefix_len (λ v. not (test (view v))) vs
prefix_view test [] = refl
prefix_view test (v ∷ vs) = ap (λ n. if not (test (view v)) then 1 + n else 0) (prefix_view test vs)

-- the position of the first value that passes a test
pub position_view : (test : Data → Bool) (vs : List Value) → position test (map view vs) ≡ position (λ v. test (view v)) vs
position_view test vs = rw (prefix_view test vs, length_view vs) refl

-- the first value that passes a test
pub find_view : (test : Data → Bool) (vs : List Value) → find test (map view vs) ≡ option_map view (find (λ v. test (view v)) vs)
find_view test [] = refl
find_view test (v ∷ vs) = on (test (view v)) (find_view test vs)
  where
    on : (b : Bool) → find test (map view vs) ≡ option_map view (find (λ x. test (view x)) vs) → (if b then Some (view v) else find test (map view vs)) ≡ option_map view (if b then Some v else find (λ x. test (view x)) vs)
    on true later = refl
    on false later = later

-- a sum over what the values are seen as
pub sum_view : (count : Data → ℕ) (vs : List Value) → sum_by count (map view vs) ≡ sum_by (λ v. count (view v)) vs
sum_view count [] = refl
sum_view count (v ∷ vs) = sum_by-cons count (view v) (map view vs) ∙ ap (λ n. count (view v) + n) (sum_view count vs) ∙ sym (sum_by-cons (λ x. count (view x)) v vs)
