-- Reading the tables of a list one after the other, each with its position, as a loop does.
use Rattle.std.proofs.Common.{◌≡◌, ◌≢◌, ℕ, zero, suc, ◌+◌, ◌<◌, ◌≤◌, List, [], ◌∷◌, ◌++◌, length, get_or, drop, map, Ok, Err, refl, sym, ap, ◌∙◌, append_assoc, add-one, arith, drop-cons}
use Rattle.std.proofs.lemmas.List.{append-nil}
use Rattle.toml.specs.Data.{Data}
use Rattle.toml.specs.View.{view}
use Rattle.toml.specs.declared.value.Value.{Value}
use Rattle.gw_addr.specs.Reading.{◌>>=◌}
use Rattle.gw_configuration.specs.declared.fault.ConfigFault.TheVariants.{Memory}
use Rattle.gw_configuration.specs.declared.located.Located.{Located as Lent}
use Rattle.gw_policy_text.specs.Parts.{each_at}
use Rattle.gw_configuration.specs.Located.{Find, located_view}

-- what was read before, and what is still read
abbrev pub with_front : {A : Type 0} → List A → Find (List A) → Find (List A)
with_front front reading = reading >>= λ others. Ok (front ++ others)

-- what a loop has read up to a place, and what is left, are the whole
abbrev pub IsReadAt : {A : Type 0} → (ℕ → Data → Find A) → List Value → ℕ → List A → Type 0
IsReadAt read values place front = with_front front (each_at read place (map view (drop place values))) ≡ each_at read 0 (map view values)

pub left : (values : List Value) (place : ℕ) (value : Value) → place < length values → value ≡ get_or values place value → map view (drop place values) ≡ view value ∷ map view (drop (place + 1) values)
left values place value h is =
    ap (map view) (drop-cons values place value h) ∙ rw (add-one, ← is) refl

pub regroup : {A : Type 0} (front : List A) (x : A) (reading : Find (List A)) → with_front front (reading >>= λ others. Ok (x ∷ others)) ≡ with_front (front ++ x ∷ []) reading
regroup front x (Ok others) = ap (λ xs. Ok xs) (simp append_assoc)
regroup front x (Err e) = refl

pub begins_at : {A : Type 0} (read : ℕ → Data → Find A) (values : List Value) → IsReadAt read values 0 []
begins_at {A} read values = same (each_at read 0 (map view values))
  where
    same : (reading : Find (List A)) → with_front [] reading ≡ reading
    same (Ok xs) = refl
    same (Err e) = refl

pub goes_on_at : {A : Type 0} (read : ℕ → Data → Find A) (values : List Value) (place : ℕ) (front : List A) (value : Value) (x : A) → place < length values → value ≡ get_or values place value → read place (view value) ≡ Ok x
    → IsReadAt read values place front → IsReadAt read values (place + 1) (front ++ x ∷ [])
goes_on_at read values place front value x h is e so_far =
    let here : each_at read place (map view (drop place values)) ≡ (each_at read (place + 1) (map view (drop (place + 1) values)) >>= λ others. Ok (x ∷ others)) = ap (each_at read place) (left values place value h is) ∙ rw e refl in
    sym (ap (with_front front) here ∙ regroup front x (each_at read (place + 1) (map view (drop (place + 1) values)))) ∙ so_far

pub stops_at : {A : Type 0} (read : ℕ → Data → Find A) (values : List Value) (place : ℕ) (front : List A) (value : Value) (located : Lent) → place < length values → value ≡ get_or values place value → (located.fault ≢ Memory → read place (view value) ≡ Err (located_view located))
    → IsReadAt read values place front → located.fault ≢ Memory → each_at read 0 (map view values) ≡ Err (located_view located)
stops_at read values place front value located h is e so_far other =
    let here : each_at read place (map view (drop place values)) ≡ Err (located_view located) = ap (each_at read place) (left values place value h is) ∙ rw (e other) refl in
    sym so_far ∙ ap (with_front front) here

-- nothing follows a whole list
pub drop_all : (n : ℕ) (vs : List Value) → length vs ≤ n → drop n vs ≡ []
drop_all n [] h = nil n
  where
    nil : (k : ℕ) → ◌≡◌ {A = List Value} (drop k []) []
    nil zero = refl
    nil (suc k) = refl
drop_all zero (v ∷ vs) h = absurd (omega arith)
drop_all (suc n) (v ∷ vs) h = drop_all n vs (omega arith)

pub ends_at : {A : Type 0} (read : ℕ → Data → Find A) (values : List Value) (place : ℕ) (front : List A) → length values ≤ place → IsReadAt read values place front → each_at read 0 (map view values) ≡ Ok front
ends_at read values place front h so_far =
    let nothing : drop place values ≡ [] = drop_all place values h in
    sym so_far ∙ ap (λ (vs : List Value). with_front front (each_at read place (map view vs))) nothing ∙ ap (λ xs. Ok xs) (append-nil front)
