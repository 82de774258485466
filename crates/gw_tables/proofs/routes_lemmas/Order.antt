-- What distinct networks are put in order to.
use Rattle.std.proofs.Common.{◌≡◌, ◌∙◌, ℕ, true, false, not, List, [], ◌∷◌, ◌++◌, nat_eq, sym, ap, subst, append_assoc, append-nil, IsTrue}
use Rattle.std.proofs.lemmas.Bool.{and_parts, or_parts, not-true}
use Rattle.std.specs.List.{list_any, IsDistinct, AllByRecursion}
use Rattle.std.specs.Map.{keys_of}
use Rattle.std.specs.Cmp.{nat_eq_equiv}
use Rattle.indexmap.specs.IndexMap.{insert_entry, insert_all}
use Rattle.indexmap.proofs.MapLemmas.{absent_before, absent_from_lookup, insert_entry-absent}
use Rattle.gw_tables.specs.routes.Table.{Routed, are_distinct}

none_equal : (n : ℕ) (nets : List ℕ) → list_any (nat_eq n) nets ≡ false → AllByRecursion (λ m. nat_eq n m ≡ false) nets
none_equal n [] h = tt
none_equal n (m ∷ nets) h =
    let parts = or_parts (nat_eq n m) (list_any (nat_eq n) nets) h in
    (parts.0, none_equal n nets parts.1)

distinct : (nets : List ℕ) → are_distinct nets ≡ true → IsDistinct nat_eq nets
unfolding IsDistinct
distinct [] h = tt
distinct (n ∷ nets) h =
    let parts = and_parts (not (list_any (nat_eq n) nets)) (are_distinct nets) h in
    (none_equal n nets (not-true _ parts.0), distinct nets parts.1)

behind : (front nets : List ℕ) → are_distinct (front ++ nets) ≡ true → are_distinct nets ≡ true
behind [] nets h = h
behind (n ∷ front) nets h =
    behind front nets (and_parts (not (list_any (nat_eq n) (front ++ nets))) (are_distinct (front ++ nets)) h).1

joined : (front routes : Routed) → IsDistinct nat_eq (keys_of (front ++ routes)) → insert_all nat_eq front routes ≡ front ++ routes
joined front [] d = sym (append-nil front)
joined front (e ∷ routes) d =
    let last : insert_entry nat_eq front e.0 e.1 ≡ front ++ e ∷ [] =
    insert_entry-absent nat_eq e.0 e.1 front (absent_from_lookup (nat_eq e.0) front (absent_before nat_eq_equiv front routes e d)) in
    let regrouped : (front ++ e ∷ []) ++ routes ≡ front ++ e ∷ routes = append_assoc front (e ∷ []) routes in
    ap (λ es. insert_all nat_eq es routes) last
    ∙ joined (front ++ e ∷ []) routes (subst (λ es. IsDistinct nat_eq (keys_of es)) (sym regrouped) d)
    ∙ regrouped

-- distinct networks that are inserted one after the other keep their order
pub in_turn : (direct : List ℕ) (routes : Routed) → IsTrue (are_distinct (direct ++ keys_of routes)) → insert_all nat_eq [] routes ≡ routes
in_turn direct routes h = joined [] routes (distinct (keys_of routes) (behind direct (keys_of routes) h))
