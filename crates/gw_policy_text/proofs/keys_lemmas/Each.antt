-- Reading the items of a list one after the other, as a loop does.
use Rattle.std.proofs.Common.{◌≡◌, ◌≢◌, ℕ, zero, suc, ◌+◌, ◌<◌, ◌≤◌, Bool, true, false, List, [], ◌∷◌, ◌++◌, length, get_or, drop, map, Some, None, Ok, Err, refl, sym, ap, ◌∙◌, append_assoc, add-one, arith, drop-cons}
use Rattle.std.specs.List.{list_all, list_any}
use Rattle.std.specs.Result.{result_err}
use Rattle.std.proofs.lemmas.List.{append-nil}
use Rattle.std.proofs.lemmas.List.Folds.{list_all-append}
use Rattle.toml.specs.Data.{Data}
use Rattle.toml.specs.View.{view}
use Rattle.toml.specs.declared.value.Value.{Value}
use Rattle.gw_addr.specs.Reading.{◌>>=◌}
use Rattle.gw_rules.specs.declared.range.Range.{Range}
use Rattle.gw_configuration.specs.declared.fault.ConfigFault.{ConfigFault}
use Rattle.gw_configuration.specs.declared.fault.ConfigFault.TheVariants.{Memory}
use Rattle.gw_configuration.specs.declared.shape.Scalar.{Scalar}
use Rattle.gw_configuration.specs.Located.{Read}
use Rattle.gw_policy_text.specs.keys.Items.{added_to, each, items_in, ranges_in, span_in, spans_in}
use Rattle.gw_policy_text.specs.keys.Range.{is_kind}
use Rattle.gw_policy_text.proofs.keys_lemmas.Values.{any_view}

left : (values : List Value) (place : ℕ) (value : Value) → place < length values → value ≡ get_or values place value → map view (drop place values) ≡ view value ∷ map view (drop (place + 1) values)
left values place value h is = ap (map view) (drop-cons values place value h) ∙ rw (add-one, ← is) refl

drop_all : (n : ℕ) (vs : List Value) → length vs ≤ n → drop n vs ≡ []
drop_all n [] h = nil n
  where
    nil : (k : ℕ) → ◌≡◌ {A = List Value} (drop k []) []
    nil zero = refl
    nil (suc k) = refl
drop_all zero (v ∷ vs) h = absurd (omega arith)
drop_all (suc n) (v ∷ vs) h = drop_all n vs (omega arith)

-- ranges of items that name no set, after others

-- what a loop has put up to a place, and what is left, are the whole
abbrev pub IsPutTo : (Data → Read Range) → List Value → ℕ → List Range → List Range → Type 0
IsPutTo read values place before all =
    added_to all (each read (map view (drop place values))) ≡ added_to before (each read (map view values))

regroup : (front : List Range) (x : Range) (reading : Read (List Range)) → added_to front (reading >>= λ others. Ok (x ∷ others)) ≡ added_to (front ++ x ∷ []) reading
regroup front x (Ok others) = ap (λ xs. Ok xs) (simp append_assoc)
regroup front x (Err e) = refl

pub goes_on : (read : Data → Read Range) (values : List Value) (place : ℕ) (before all : List Range) (value : Value) (x : Range) → place < length values → value ≡ get_or values place value → read (view value) ≡ Ok x
    → IsPutTo read values place before all → IsPutTo read values (place + 1) before (all ++ x ∷ [])
goes_on read values place before all value x h is e so_far =
    let here : each read (map view (drop place values)) ≡ (each read (map view (drop (place + 1) values)) >>= λ others. Ok (x ∷ others)) = ap (each read) (left values place value h is) ∙ rw e refl in
    sym (ap (added_to all) here ∙ regroup all x (each read (map view (drop (place + 1) values)))) ∙ so_far

pub stops : (read : Data → Read Range) (values : List Value) (place : ℕ) (before all : List Range) (value : Value) (fault : ConfigFault) → place < length values → value ≡ get_or values place value → read (view value) ≡ Err fault
    → IsPutTo read values place before all → added_to before (each read (map view values)) ≡ Err fault
stops read values place before all value fault h is e so_far =
    let here : each read (map view (drop place values)) ≡ Err fault = ap (each read) (left values place value h is) ∙ rw e refl in
    sym so_far ∙ ap (added_to all) here

pub ends : (read : Data → Read Range) (values : List Value) (place : ℕ) (before all : List Range) → length values ≤ place → IsPutTo read values place before all → added_to before (each read (map view values)) ≡ Ok all
ends read values place before all h so_far =
    sym so_far ∙ ap (λ (vs : List Value). added_to all (each read (map view vs))) (drop_all place values h) ∙ ap (λ xs. Ok xs) (append-nil all)

-- the first fault of such items

pub fault_goes_on : (read : Data → Read Range) (values : List Value) (place : ℕ) (value : Value) (x : Range) → place < length values → value ≡ get_or values place value → read (view value) ≡ Ok x
    → result_err (each read (map view (drop place values))) ≡ result_err (each read (map view values)) → result_err (each read (map view (drop (place + 1) values))) ≡ result_err (each read (map view values))
fault_goes_on read values place value x h is e so_far =
    let here : each read (map view (drop place values)) ≡ (each read (map view (drop (place + 1) values)) >>= λ others. Ok (x ∷ others)) = ap (each read) (left values place value h is) ∙ rw e refl in
    sym (ap result_err here ∙ same (each read (map view (drop (place + 1) values)))) ∙ so_far
  where
    same : (reading : Read (List Range)) → result_err (reading >>= λ others. Ok (x ∷ others)) ≡ result_err reading
    same (Ok others) = refl
    same (Err fault) = refl

pub fault_stops : (read : Data → Read Range) (values : List Value) (place : ℕ) (value : Value) (fault : ConfigFault) → place < length values → value ≡ get_or values place value → read (view value) ≡ Err fault
    → result_err (each read (map view (drop place values))) ≡ result_err (each read (map view values)) → Some fault ≡ result_err (each read (map view values))
fault_stops read values place value fault h is e so_far =
    sym (ap (λ ds. result_err (each read ds)) (left values place value h is) ∙ rw e refl) ∙ so_far

pub fault_ends : (read : Data → Read Range) (values : List Value) (place : ℕ) → length values ≤ place → result_err (each read (map view (drop place values))) ≡ result_err (each read (map view values)) → None ≡ result_err (each read (map view values))
fault_ends read values place h so_far = sym (ap (λ (vs : List Value). result_err (each read (map view vs))) (drop_all place values h)) ∙ so_far

-- the items of a set, of which none is of a wrong kind

abbrev pub have_kind : Scalar → List Value → Bool
have_kind scalar values = list_any (λ v. is_kind (result_err (span_in scalar (view v)))) values

spans_are : (scalar : Scalar) (values : List Value) (kinds : Bool) → kinds ≡ have_kind scalar values → kinds ≡ false → spans_in scalar (map view values) ≡ each (span_in scalar) (map view values)
spans_are scalar values kinds is none = rw (any_view (λ d. is_kind (result_err (span_in scalar d))) values, ← is, none) refl

pub spans_stop : (scalar : Scalar) (values : List Value) (kinds : Bool) (place : ℕ) (before all : List Range) (value : Value) (fault : ConfigFault) → kinds ≡ have_kind scalar values → kinds ≡ false → place < length values → value ≡ get_or values place value → span_in scalar (view value) ≡ Err fault
    → IsPutTo (span_in scalar) values place before all → added_to before (spans_in scalar (map view values)) ≡ Err fault
spans_stop scalar values kinds place before all value fault k none h is e so_far =
    ap (added_to before) (spans_are scalar values kinds k none) ∙ stops (span_in scalar) values place before all value fault h is e so_far

pub spans_end : (scalar : Scalar) (values : List Value) (kinds : Bool) (place : ℕ) (before all : List Range) → kinds ≡ have_kind scalar values → kinds ≡ false → length values ≤ place → IsPutTo (span_in scalar) values place before all → added_to before (spans_in scalar (map view values)) ≡ Ok all
spans_end scalar values kinds place before all k none h so_far =
    ap (added_to before) (spans_are scalar values kinds k none) ∙ ends (span_in scalar) values place before all h so_far

pub spans_fault_stop : (scalar : Scalar) (values : List Value) (kinds : Bool) (place : ℕ) (value : Value) (fault : ConfigFault) → kinds ≡ have_kind scalar values → kinds ≡ false → place < length values → value ≡ get_or values place value → span_in scalar (view value) ≡ Err fault
    → result_err (each (span_in scalar) (map view (drop place values))) ≡ result_err (each (span_in scalar) (map view values)) → Some fault ≡ result_err (spans_in scalar (map view values))
spans_fault_stop scalar values kinds place value fault k none h is e so_far =
    fault_stops (span_in scalar) values place value fault h is e so_far ∙ sym (ap result_err (spans_are scalar values kinds k none))

pub spans_fault_end : (scalar : Scalar) (values : List Value) (kinds : Bool) (place : ℕ) → kinds ≡ have_kind scalar values → kinds ≡ false → length values ≤ place → result_err (each (span_in scalar) (map view (drop place values))) ≡ result_err (each (span_in scalar) (map view values)) → None ≡ result_err (spans_in scalar (map view values))
spans_fault_end scalar values kinds place k none h so_far = fault_ends (span_in scalar) values place h so_far ∙ sym (ap result_err (spans_are scalar values kinds k none))

-- ranges of items, of which some may name sets

abbrev pub AreReadTo : List Data → Scalar → List Value → ℕ → List Range → Type 0
AreReadTo sets scalar values place all =
    added_to all (ranges_in sets scalar (map view (drop place values))) ≡ ranges_in sets scalar (map view values)

join : (front : List Range) (first later : Read (List Range)) → added_to front (first >>= λ ranges. added_to ranges later) ≡ (added_to front first >>= λ ranges. added_to ranges later)
join front (Ok first) (Ok later) = ap (λ xs. Ok xs) (simp append_assoc)
join front (Ok first) (Err e) = refl
join front (Err e) later = refl

pub items_begin : (sets : List Data) (scalar : Scalar) (values : List Value) → AreReadTo sets scalar values 0 []
items_begin sets scalar values = same (ranges_in sets scalar (map view values))
  where
    same : (reading : Read (List Range)) → added_to [] reading ≡ reading
    same (Ok xs) = refl
    same (Err e) = refl

step : (sets : List Data) (scalar : Scalar) (values : List Value) (place : ℕ) (all : List Range) (value : Value) → place < length values → value ≡ get_or values place value
    → added_to all (ranges_in sets scalar (map view (drop place values))) ≡ (added_to all (items_in sets scalar (view value)) >>= λ ranges. added_to ranges (ranges_in sets scalar (map view (drop (place + 1) values))))
step sets scalar values place all value h is =
    ap (λ ds. added_to all (ranges_in sets scalar ds)) (left values place value h is) ∙ join all (items_in sets scalar (view value)) (ranges_in sets scalar (map view (drop (place + 1) values)))

pub items_go_on : (sets : List Data) (scalar : Scalar) (values : List Value) (place : ℕ) (all new : List Range) (value : Value) → place < length values → value ≡ get_or values place value → added_to all (items_in sets scalar (view value)) ≡ Ok new
    → AreReadTo sets scalar values place all → AreReadTo sets scalar values (place + 1) new
items_go_on sets scalar values place all new value h is e so_far =
    sym (step sets scalar values place all value h is ∙ rw e refl) ∙ so_far

pub items_stop : (sets : List Data) (scalar : Scalar) (values : List Value) (place : ℕ) (all : List Range) (value : Value) (fault : ConfigFault) → place < length values → value ≡ get_or values place value → (fault ≢ Memory → added_to all (items_in sets scalar (view value)) ≡ Err fault)
    → AreReadTo sets scalar values place all → fault ≢ Memory → ranges_in sets scalar (map view values) ≡ Err fault
items_stop sets scalar values place all value fault h is e so_far other =
    sym so_far ∙ step sets scalar values place all value h is ∙ rw (e other) refl

pub items_end : (sets : List Data) (scalar : Scalar) (values : List Value) (place : ℕ) (all : List Range) → length values ≤ place → AreReadTo sets scalar values place all → ranges_in sets scalar (map view values) ≡ Ok all
items_end sets scalar values place all h so_far =
    sym so_far ∙ ap (λ (vs : List Value). added_to all (ranges_in sets scalar (map view vs))) (drop_all place values h) ∙ ap (λ xs. Ok xs) (append-nil all)

-- one more that passes a test
pub all_more : {X : Type 0} (test : X → Bool) (xs : List X) (x : X) → list_all test xs ≡ true → test x ≡ true → list_all test (xs ++ x ∷ []) ≡ true
all_more test xs x front last = list_all-append test xs (x ∷ []) ∙ rw (front, last) refl
