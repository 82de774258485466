-- How the text of groups grows, region by region.
use Rattle.std.proofs.Common.{◌≡◌, ◌∙◌, ap, sym, refl, ℕ, ◌+◌, ◌<◌, ◌≤◌, Bool, true, false, add-one, append_assoc, append-nil, arith, drop, drop-cons, get_or, length, take, List, [], ◌∷◌, ◌++◌, nat_lt}
use Rattle.std.specs.Prelude.{◌&&◌, if◌then◌else◌}
use Rattle.std.specs.List.{filter, flat_map, list_any}
use Rattle.std.proofs.Math.ListN.{drop_of_length-le}
use Rattle.std.proofs.Math.Seq.{take-suc}
use Rattle.std.proofs.lemmas.Bool.{ltb-false, ltb-true}
use Rattle.std.proofs.lemmas.Grind.{flat_map-append}
use Rattle.std.proofs.lemmas.List.{length-append, take-append-le, take_all}
use Rattle.std.proofs.lemmas.List.Elements.{filter_more}
use Rattle.std.proofs.lemmas.List.Filters.{length-filter_more}
use Rattle.gw_ask_sets.specs.declared.regions.comparison.Found.{Found}
use Rattle.gw_policy_review.specs.comparison.Groups.{firsts_after, is_like}

-- ---- the first regions of the groups

abbrev first_text : (Found → List ℕ) → Bool → Found → List ℕ
first_text text seen f = if seen then [] else text f

-- the text of those that are left, with one region taken from them
rest_of : (text : Found → List ℕ) (seen : List Found) (f : Found) (found : List Found) (b : Bool) → list_any (is_like f) seen ≡ b
    → flat_map text (firsts_after seen (f ∷ found)) ≡ first_text text b f ++ flat_map text (firsts_after (seen ++ f ∷ []) found)
rest_of text seen f found true e =
    ap (λ c. flat_map text ((if c then [] else f ∷ []) ++ firsts_after (seen ++ f ∷ []) found)) e
rest_of text seen f found false e =
    ap (λ c. flat_map text ((if c then [] else f ∷ []) ++ firsts_after (seen ++ f ∷ []) found)) e

pub first_step : (text : Found → List ℕ) (found : List Found) (place : ℕ) (d : Found) (b : Bool) (out new all : List ℕ) → place < length found
    → list_any (is_like (get_or found place d)) (take place found) ≡ b → new ≡ out ++ first_text text b (get_or found place d)
    → out ++ flat_map text (firsts_after (take place found) (drop place found)) ≡ all
    → new ++ flat_map text (firsts_after (take (place + 1) found) (drop (place + 1) found)) ≡ all
first_step text found place d b out new all within seen grown is =
    let f = get_or found place d in
    let left : drop place found ≡ f ∷ drop (place + 1) found =
    drop-cons found place d within ∙ ap (λ n. f ∷ drop n found) (sym (add-one place)) in
    let done : take (place + 1) found ≡ take place found ++ f ∷ [] = ap (λ n. take n found) (add-one place) ∙ take-suc found place d within in
    let later = flat_map text (firsts_after (take place found ++ f ∷ []) (drop (place + 1) found)) in
    ap (λ (fs : List Found). new ++ flat_map text (firsts_after fs (drop (place + 1) found))) done
    ∙ ap (λ (xs : List ℕ). xs ++ later) grown
    ∙ append_assoc out (first_text text b f) later
    ∙ ap (λ (xs : List ℕ). out ++ xs) (sym (rest_of text (take place found) f (drop (place + 1) found) b seen))
    ∙ ap (λ (fs : List Found). out ++ flat_map text (firsts_after (take place found) fs)) (sym left) ∙ is

-- at the end none is left
pub first_end : (text : Found → List ℕ) (found : List Found) (place : ℕ) (out all : List ℕ) → length found ≤ place
    → out ++ flat_map text (firsts_after (take place found) (drop place found)) ≡ all → out ≡ all
first_end text found place out all ends is =
    sym (append-nil out)
    ∙ ap (λ (fs : List Found). out ++ flat_map text (firsts_after (take place found) fs)) (sym (drop_of_length-le found ends)) ∙ is

-- ---- the regions of a group

-- one more of them is shown, unless so many are
shown : (text : Found → List ℕ) (most : ℕ) (group : List Found) (f : Found) (b : Bool) → nat_lt (length group) most ≡ b
    → flat_map text (take most (group ++ f ∷ [])) ≡ flat_map text (take most group) ++ (if b then text f else [])
shown text most group f true e =
    let few = ltb-true (length group) most e in
    let one_more : length (group ++ f ∷ []) ≡ length group + 1 = length-append group (f ∷ []) in
    let all : take most (group ++ f ∷ []) ≡ group ++ f ∷ [] = take_all most (group ++ f ∷ []) (omega (arith, few, one_more)) in
    let before : take most group ≡ group = take_all most group (omega (arith, few)) in
    ap (flat_map text) all ∙ flat_map-append text group (f ∷ [])
    ∙ ap (λ (xs : List ℕ). flat_map text group ++ xs) (append-nil (text f))
    ∙ ap (λ (fs : List Found). flat_map text fs ++ text f) (sym before)
shown text most group f false e =
    let enough = ltb-false (length group) most e in
    ap (flat_map text) (take-append-le most group (f ∷ []) enough) ∙ sym (append-nil (flat_map text (take most group)))

pub member_step : (text : Found → List ℕ) (like : Found → Bool) (most : ℕ) (found : List Found) (place : ℕ) (d : Found) (m : Bool) (count : ℕ)
    (before out new : List ℕ) → place < length found → like (get_or found place d) ≡ m → count ≡ length (filter like (take place found))
    → out ≡ before ++ flat_map text (take most (filter like (take place found)))
    → new ≡ out ++ (if (m && nat_lt count most) then text (get_or found place d) else [])
    → new ≡ before ++ flat_map text (take most (filter like (take (place + 1) found)))
member_step text like most found place d true count before out new within is counted e grown =
    let f = get_or found place d in
    let group = filter like (take place found) in
    let more : filter like (take (place + 1) found) ≡ group ++ f ∷ [] =
    filter_more like found place d within ∙ ap (λ b. group ++ (if b then f ∷ [] else [])) is in
    let line = if nat_lt (length group) most then text f else [] in
    grown ∙ ap (λ n. out ++ (if nat_lt n most then text f else [])) counted
    ∙ ap (λ (xs : List ℕ). xs ++ line) e
    ∙ append_assoc before (flat_map text (take most group)) line
    ∙ ap (λ (xs : List ℕ). before ++ xs) (sym (shown text most group f (nat_lt (length group) most) refl))
    ∙ ap (λ (fs : List Found). before ++ flat_map text (take most fs)) (sym more)
member_step text like most found place d false count before out new within is counted e grown =
    let f = get_or found place d in
    let group = filter like (take place found) in
    let same : filter like (take (place + 1) found) ≡ group =
    filter_more like found place d within ∙ ap (λ b. group ++ (if b then f ∷ [] else [])) is ∙ append-nil group in
    grown ∙ append-nil out ∙ e ∙ ap (λ (fs : List Found). before ++ flat_map text (take most fs)) (sym same)

-- and one more is counted
pub member_count : (like : Found → Bool) (found : List Found) (place : ℕ) (d : Found) (m : Bool) (count more : ℕ) → place < length found
    → like (get_or found place d) ≡ m → count ≡ length (filter like (take place found)) → more ≡ count + (if m then 1 else 0)
    → more ≡ length (filter like (take (place + 1) found))
member_count like found place d m count more within is counted e =
    e ∙ ap (λ n. n + (if m then 1 else 0)) counted
    ∙ ap (λ b. length (filter like (take place found)) + (if b then 1 else 0)) (sym is)
    ∙ sym (length-filter_more like found place d within)

pub member_bound : (m : Bool) (place count more : ℕ) → count ≤ place → more ≡ count + (if m then 1 else 0) → more ≤ place + 1
member_bound true place count more few e = omega (arith, few, e)
member_bound false place count more few e = omega (arith, few, e)
