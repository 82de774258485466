-- What the definitions of a history and of a way come to.
use Rattle.std.proofs.Common.{◌≡◌, ◌∙◌, ℕ, Bool, true, false, cond, ◌||◌, List, [], ◌∷◌, ◌++◌, append-nil, append_assoc, Option, Some, None, is_some, if◌then◌else◌, nat_eq, refl, sym, ap, subst, true≢false, position, IsTrue, ◌==◌}
use Rattle.std.specs.List.{list_any}
use Rattle.std.specs.Map.{lookup}
use Rattle.std.specs.Option.{option_map_or}
use Rattle.indexmap.specs.IndexMap.{insert_entry}
use Rattle.gw_addr.specs.Station.{is_network}
use Rattle.gw_tables.specs.declared.routes.route.Route.{Route}
use Rattle.gw_tables.specs.declared.routes.route.Way.TheVariants.{Router, Everywhere, Unknown}
use Rattle.gw_tables.specs.declared.routes.route.TheConstants.{EVERYWHERE}
use Rattle.gw_tables.specs.routes.Table.{Routed, table_of, route_of, is_fixed, direct_way, network_way, way}
use Rattle.gw_tables.specs.routes.History.{History, with_network, networks_learned, learned_after}
use Rattle.gw_tables.proofs.routes_lemmas.Learning.{equal_of, learned_step}

-- ---- which networks are learned

any-last : (m n : ℕ) (nets : List ℕ) → list_any (nat_eq m) (nets ++ n ∷ []) ≡ nat_eq m n || list_any (nat_eq m) nets
any-last m n [] = refl
any-last m n (x ∷ nets) = ap (λ b. nat_eq m x || b) (any-last m n nets) ∙ swapped (nat_eq m x) (nat_eq m n) (list_any (nat_eq m) nets)
  where
    swapped : (a b c : Bool) → a || (b || c) ≡ b || (a || c)
    swapped true true c = refl
    swapped true false c = refl
    swapped false b c = refl

any-with_network : (m n : ℕ) (nets : List ℕ) → list_any (nat_eq m) (with_network nets n) ≡ nat_eq m n || list_any (nat_eq m) nets
any-with_network m n nets = by (list_any (nat_eq n) nets) refl (nat_eq m n) refl
  where
    by : (a : Bool) → list_any (nat_eq n) nets ≡ a → (b : Bool) → nat_eq m n ≡ b
        → list_any (nat_eq m) (if a then nets else nets ++ n ∷ []) ≡ b || list_any (nat_eq m) nets
    by true e true q = subst (λ k. list_any (nat_eq k) nets ≡ true) (sym (equal_of m n q)) e
    by true e false q = refl
    by false e b q = any-last m n nets ∙ ap (λ x. x || list_any (nat_eq m) nets) q

pub named_are_learned : (h : History) (m : ℕ) → list_any (nat_eq m) (networks_learned h) ≡ is_some (route_of h m)
unfolding networks_learned
named_are_learned [] m = refl
named_are_learned (l ∷ h) m =
    any-with_network m l.0 (networks_learned h) ∙ ap (λ b. nat_eq m l.0 || b) (named_are_learned h m) ∙ by (nat_eq m l.0)
  where
    by : (b : Bool) → b || is_some (route_of h m) ≡ is_some (cond b (Some l.1) (route_of h m))
    by true = refl
    by false = refl

pub places_are_kept : (later h : History) → (others : List ℕ) × (networks_learned (later ++ h) ≡ networks_learned h ++ others)
unfolding networks_learned
places_are_kept [] h = ([], sym (append-nil (networks_learned h)))
places_are_kept (l ∷ later) h =
    let kept = places_are_kept later h in
    let grown = by kept.0 (list_any (nat_eq l.0) (networks_learned h ++ kept.0)) in
    (grown.0, ap (λ nets. with_network nets l.0) kept.1 ∙ grown.1)
  where
    by : (more : List ℕ) (b : Bool) → (others : List ℕ) × ((if b then networks_learned h ++ more else (networks_learned h ++ more) ++ l.0 ∷ []) ≡ networks_learned h ++ others)
    by more true = (more, refl)
    by more false = (more ++ l.0 ∷ [], append_assoc (networks_learned h) more (l.0 ∷ []))

-- ---- which route a learned network has

lookup-insert_entry : (es : Routed) (n : ℕ) (r : Route) (m : ℕ)
    → lookup (nat_eq m) (insert_entry nat_eq es n r) ≡ cond (nat_eq m n) (Some r) (lookup (nat_eq m) es)
lookup-insert_entry [] n r m = refl
lookup-insert_entry (e ∷ es) n r m = by (nat_eq n e.0) refl (lookup-insert_entry es n r m)
  where
    crossed : (a b : Bool) → (a ≡ true → b ≡ true → true ≡ false) → (x y : Option Route)
        → cond a x (cond b (Some r) y) ≡ cond b (Some r) (cond a x y)
    crossed true true no_both x y = absurd (true≢false (no_both refl refl))
    crossed true false no_both x y = refl
    crossed false true no_both x y = refl
    crossed false false no_both x y = refl

    over : (a : Bool) (x y : Option Route) → cond a (Some r) y ≡ cond a (Some r) (cond a x y)
    over true x y = refl
    over false x y = refl

    by : (b : Bool) → nat_eq n e.0 ≡ b
        → lookup (nat_eq m) (insert_entry nat_eq es n r) ≡ cond (nat_eq m n) (Some r) (lookup (nat_eq m) es)
        → lookup (nat_eq m) (if b then (e.0, r) ∷ es else e ∷ insert_entry nat_eq es n r)
        ≡ cond (nat_eq m n) (Some r) (cond (nat_eq m e.0) (Some e.1) (lookup (nat_eq m) es))
    by true q ih =
        over (nat_eq m e.0) (Some e.1) (lookup (nat_eq m) es)
        ∙ ap (λ k. cond (nat_eq m k) (Some r) (cond (nat_eq m e.0) (Some e.1) (lookup (nat_eq m) es))) (sym (equal_of n e.0 q))
    by false q ih =
        ap (cond (nat_eq m e.0) (Some e.1)) ih
        ∙ crossed (nat_eq m e.0) (nat_eq m n)
        (λ a b. sym (ap (λ k. nat_eq k e.0) (sym (equal_of m n b)) ∙ a) ∙ q)
        (Some e.1) (lookup (nat_eq m) es)

pub last_learning_holds : (h : History) (m : ℕ) → route_of (learned_after h) m ≡ route_of h m
unfolding learned_after networks_learned
last_learning_holds [] m = refl
last_learning_holds (l ∷ h) m =
    ap (λ rows. lookup (nat_eq m) rows) (learned_step h l.0 l.1)
    ∙ lookup-insert_entry (learned_after h) l.0 l.1 m
    ∙ ap (cond (nat_eq m l.0) (Some l.1)) (last_learning_holds h m)

-- ---- fixed ways

fixed_network : (direct : List ℕ) (configured learned : Routed) (n : ℕ) → is_fixed (table_of direct configured []) n ≡ true
    → network_way (table_of direct configured learned) n ≡ network_way (table_of direct configured []) n
fixed_network direct configured learned n h = by (position (nat_eq n) direct) (route_of configured n) h
  where
    by : (place : Option ℕ) (route : Option Route) → is_some place || is_some route ≡ true
        → option_map_or (direct_way direct) place (option_map_or Router route (option_map_or Router (route_of learned n) Unknown))
        ≡ option_map_or (direct_way direct) place (option_map_or Router route (option_map_or Router (route_of [] n) Unknown))
    by (Some place) route h = refl
    by None (Some route) h = refl
    by None None h = absurd (true≢false (sym h))

pub fixed_ways_stay : (direct : List ℕ) (configured learned : Routed) (n : ℕ) → IsTrue (is_fixed (table_of direct configured []) n)
    → way (table_of direct configured learned) n ≡ way (table_of direct configured []) n
fixed_ways_stay direct configured learned n h = by (n == EVERYWHERE) (is_network n)
  where
    by : (a b : Bool)
        → (if a then Everywhere else option_map_or (network_way (table_of direct configured learned)) (if b then Some n else None) Unknown)
        ≡ (if a then Everywhere else option_map_or (network_way (table_of direct configured [])) (if b then Some n else None) Unknown)
    by true b = refl
    by false true = fixed_network direct configured learned n h
    by false false = refl
