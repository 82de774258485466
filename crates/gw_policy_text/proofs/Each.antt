-- Reading the values of a list one after the other, as a loop does.
use Rattle.std.proofs.Common.{◌≡◌, ◌≢◌, ℕ, zero, suc, ◌+◌, ◌<◌, ◌≤◌, List, [], ◌∷◌, ◌++◌, length, get_or, drop, map, Ok, Err, refl, sym, ap, ◌∙◌, append_assoc, add-one, arith, drop-cons}
use Rattle.std.proofs.lemmas.List.{append-nil}
use Rattle.toml.specs.Data.{Data}
use Rattle.toml.specs.View.{view}
use Rattle.toml.specs.declared.value.Value.{Value}
use Rattle.gw_addr.specs.Reading.{◌>>=◌}
use Rattle.gw_configuration.specs.declared.fault.ConfigFault.{ConfigFault}
use Rattle.gw_configuration.specs.declared.fault.ConfigFault.TheVariants.{Memory}
use Rattle.gw_policy_text.specs.keys.Items.{each}
use Rattle.gw_configuration.specs.Located.{Read}

-- what was read before, and what is still read
abbrev pub with_front : {A : Type 0} → List A → Read (List A) → Read (List A)
with_front front reading = reading >>= λ others. Ok (front ++ others)

-- what a loop has read up to a place, and what is left, are the whole
abbrev pub IsReadTo : {A : Type 0} → (Data → Read A) → List Value → ℕ → List A → Type 0
IsReadTo read values place front = with_front front (each read (map view (drop place values))) ≡ each read (map view values)

left : {A : Type 0} (read : Data → Read A) (values : List Value) (place : ℕ) (value : Value) → place < length values → value ≡ get_or values place value → map view (drop place values) ≡ view value ∷ map view (drop (place + 1) values)
left read values place value h is =
    ap (map view) (drop-cons values place value h) ∙ rw (add-one, ← is) refl

regroup : {A : Type 0} (front : List A) (x : A) (reading : Read (List A)) → with_front front (reading >>= λ others. Ok (x ∷ others)) ≡ with_front (front ++ x ∷ []) reading
regroup front x (Ok others) = ap (λ xs. Ok xs) (simp append_assoc)
regroup front x (Err e) = refl

pub begins : {A : Type 0} (read : Data → Read A) (values : List Value) → IsReadTo read values 0 []
begins {A} read values = same (each read (map view values))
  where
    same : (reading : Read (List A)) → with_front [] reading ≡ reading
    same (Ok xs) = refl
    same (Err e) = refl

pub goes_on : {A : Type 0} (read : Data → Read A) (values : List Value) (place : ℕ) (front : List A) (value : Value) (x : A) → place < length values → value ≡ get_or values place value → read (view value) ≡ Ok x
    → IsReadTo read values place front → IsReadTo read values (place + 1) (front ++ x ∷ [])
goes_on read values place front value x h is e so_far =
    let here : each read (map view (drop place values)) ≡ (each read (map view (drop (place + 1) values)) >>= λ others. Ok (x ∷ others)) = ap (each read) (left read values place value h is) ∙ rw e refl in
    sym (ap (with_front front) here ∙ regroup front x (each read (map view (drop (place + 1) values)))) ∙ so_far

pub stops : {A : Type 0} (read : Data → Read A) (values : List Value) (place : ℕ) (front : List A) (value : Value) (fault : ConfigFault) → place < length values → value ≡ get_or values place value → (fault ≢ Memory → read (view value) ≡ Err fault)
    → IsReadTo read values place front → fault ≢ Memory → each read (map view values) ≡ Err fault
stops read values place front value fault h is e so_far other =
    let here : each read (map view (drop place values)) ≡ Err fault = ap (each read) (left read values place value h is) ∙ rw (e other) refl in
    sym so_far ∙ ap (with_front front) here

pub ends : {A : Type 0} (read : Data → Read A) (values : List Value) (place : ℕ) (front : List A) → length values ≤ place → IsReadTo read values place front → each read (map view values) ≡ Ok front
ends read values place front h so_far =
    let nothing : drop place values ≡ [] = drop_all place values h in
    sym so_far ∙ ap (λ (vs : List Value). with_front front (each read (map view vs))) nothing ∙ ap (λ xs. Ok xs) (append-nil front)
  where
    drop_all : (n : ℕ) (vs : List Value) → length vs ≤ n → drop n vs ≡ []
    drop_all n [] h = nil n
      where
        nil : (k : ℕ) → ◌≡◌ {A = List Value} (drop k []) []
        nil zero = refl
        nil (suc k) = refl
    drop_all zero (v ∷ vs) h = absurd (omega arith)
    drop_all (suc n) (v ∷ vs) h = drop_all n vs (omega arith)
