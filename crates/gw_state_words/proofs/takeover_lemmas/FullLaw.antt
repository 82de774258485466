-- Where a route is said to find no room, 512 networks have a route.
use Rattle.std.proofs.Common.{◌≡◌, ◌∙◌, refl, sym, ap, subst, arith, ℕ, ◌+◌, ◌≤◌, Bool, true, false, true≢false, cond}
use Rattle.std.proofs.Common.{not, ◌&&◌, ◌||◌, nat_eq, nat_lt, List, [], ◌∷◌, ◌++◌, length, map, is_some, Option}
use Rattle.std.proofs.Common.{Some, None}
use Rattle.std.specs.Prelude.{find, if◌then◌else◌, position}
use Rattle.std.specs.Cmp.{nat_eq_equiv}
use Rattle.std.specs.List.{list_any, position_or_len}
use Rattle.std.specs.Map.{lookup}
use Rattle.std.specs.Option.{option_map_or}
use Rattle.std.proofs.lemmas.Bool.{eqb-true, ltb-false, ltb-true, or_parts}
use Rattle.std.proofs.lemmas.List.Folds.{list_any-append}
use Rattle.gw_configuration.specs.Configuration.{Configuration}
use Rattle.gw_configuration.specs.declared.port.Port.{Port as ConfiguredPort}
use Rattle.gw_configuration.specs.declared.route.Route.{Route as ConfiguredRoute}
use Rattle.gw_tables.proofs.routes_lemmas.Room.{length-insert_entry}
use Rattle.gw_tables.specs.declared.routes.route.Route.{Route}
use Rattle.gw_tables.specs.routes.Table.{Routed, Table, grants, is_fixed, is_learned, learned_by, routes_held, table_of}
use Rattle.gw_tables.specs.routes.Table.{with_granted, with_learned}
use Rattle.gw_relay.specs.Initial.{first_table, routed_of}
use Rattle.gw_state.specs.Carried.{routes_carried}
use Rattle.gw_state_words.specs.declared.takeover.finding.RouteFate.TheVariants as routes
use Rattle.gw_state_words.specs.takeover.Findings.{fate_beside, is_own, is_routed, is_same_route, refusal, routes_kept}
use Rattle.gw_state_words.specs.takeover.Laws.{FullTablesAreFull}

-- ---- learning

-- the learned routes with one more
abbrev inserted : Routed → ℕ → Route → Routed
inserted es n r = (with_learned (table_of [] [] es) n r).learned

learned_now : (es : Routed) (n : ℕ) (r : Route) → is_some (lookup (nat_eq n) (inserted es n r)) ≡ true
learned_now [] n r = ap (λ (b : Bool). is_some (cond b (Some r) None)) (nat_eq_equiv.refl n)
learned_now (e ∷ es) n r = by (nat_eq n e.0) refl (learned_now es n r)
  where
    by : (b : Bool) → nat_eq n e.0 ≡ b → is_some (lookup (nat_eq n) (inserted es n r)) ≡ true
        → is_some (lookup (nat_eq n) (if b then (e.0, r) ∷ es else e ∷ inserted es n r)) ≡ true
    by true q ih = ap (λ (x : Bool). is_some (cond x (Some r) (lookup (nat_eq n) es))) q
    by false q ih = ap (λ (x : Bool). is_some (cond x (Some e.1) (lookup (nat_eq n) (inserted es n r)))) q ∙ ih

-- a network that is learned stays learned
still_learned : (es : Routed) (n : ℕ) (r : Route) (m : ℕ) → is_some (lookup (nat_eq m) es) ≡ true
    → is_some (lookup (nat_eq m) (inserted es n r)) ≡ true
still_learned [] n r m h = absurd (true≢false (sym h))
still_learned (e ∷ es) n r m h = by (nat_eq n e.0) (nat_eq m e.0) refl h (still_learned es n r m)
  where
    by : (b c : Bool) → nat_eq m e.0 ≡ c → is_some (cond c (Some e.1) (lookup (nat_eq m) es)) ≡ true
        → (is_some (lookup (nat_eq m) es) ≡ true → is_some (lookup (nat_eq m) (inserted es n r)) ≡ true)
        → is_some (lookup (nat_eq m) (if b then (e.0, r) ∷ es else e ∷ inserted es n r)) ≡ true
    by true true q h rest = ap (λ x. is_some (cond x (Some r) (lookup (nat_eq m) es))) q
    by true false q h rest = ap (λ x. is_some (cond x (Some r) (lookup (nat_eq m) es))) q ∙ h
    by false true q h rest = ap (λ x. is_some (cond x (Some e.1) (lookup (nat_eq m) (inserted es n r)))) q
    by false false q h rest = ap (λ x. is_some (cond x (Some e.1) (lookup (nat_eq m) (inserted es n r)))) q ∙ rest h

stays_learned : (ls : Routed) (t : Table) (m : ℕ) → is_learned t m ≡ true → is_learned (learned_by t ls) m ≡ true
stays_learned [] t m h = h
stays_learned (l ∷ ls) t m h = stays_learned ls (with_granted t l.0 l.1) m (by (grants t l.0))
  where
    by : (b : Bool) → is_learned (if b then with_learned t l.0 l.1 else t) m ≡ true
    by true = still_learned t.learned l.0 l.1 m h
    by false = h

no_fewer : (t : Table) (n : ℕ) (r : Route) → routes_held t ≤ routes_held (with_learned t n r)
no_fewer t n r = by (is_learned t n) (length-insert_entry t.learned n r)
  where
    by : (b : Bool) → length (inserted t.learned n r) ≡ length t.learned + (if b then 0 else 1)
        → routes_held t ≤ routes_held (with_learned t n r)
    by true e = omega (arith, e)
    by false e = omega (arith, e)

stays_full : (ls : Routed) (t : Table) → 512 ≤ routes_held t → 512 ≤ routes_held (learned_by t ls)
stays_full [] t full = full
stays_full (l ∷ ls) t full = stays_full ls (with_granted t l.0 l.1) (by (grants t l.0))
  where
    by : (b : Bool) → 512 ≤ routes_held (if b then with_learned t l.0 l.1 else t)
    by true = let more = no_fewer t l.0 l.1 in omega (arith, full, more)
    by false = full

stays_free : (t : Table) (n : ℕ) (r : Route) (m : ℕ) → is_fixed t m ≡ false → is_fixed (with_granted t n r) m ≡ false
stays_free t n r m free = by (grants t n)
  where
    by : (b : Bool) → is_fixed (if b then with_learned t n r else t) m ≡ false
    by true = free
    by false = free

no_room : (fixed learned : Bool) (held : ℕ) → (not fixed && (learned || nat_lt held 512)) ≡ false → fixed ≡ false → 512 ≤ held
no_room true learned held e f = absurd (true≢false f)
no_room false true held e f = absurd (true≢false e)
no_room false false held e f = let most = ltb-false held 512 e in omega (arith, most)

-- the first of the list: it was learned, or found the table full
at_first : (l : ℕ × Route) (ls : Routed) (t : Table) (m : ℕ) (b : Bool) → m ≡ l.0 → grants t l.0 ≡ b → is_fixed t m ≡ false
    → is_learned (learned_by t (l ∷ ls)) m ≡ false → 512 ≤ routes_held (learned_by t (l ∷ ls))
at_first l ls t m true q e free none =
    let now : is_learned (with_granted t l.0 l.1) l.0 ≡ true =
    ap (λ (b : Bool). is_learned (if b then with_learned t l.0 l.1 else t) l.0) e ∙ learned_now t.learned l.0 l.1 in
    let still : is_learned (learned_by t (l ∷ ls)) m ≡ true =
    ap (λ (n : ℕ). is_learned (learned_by t (l ∷ ls)) n) q ∙ stays_learned ls (with_granted t l.0 l.1) l.0 now in
    absurd (true≢false (sym still ∙ none))
at_first l ls t m false q e free none =
    let held = no_room (is_fixed t l.0) (is_learned t l.0) (routes_held t) e (ap (is_fixed t) (sym q) ∙ free) in
    let same : with_granted t l.0 l.1 ≡ t = ap (λ (b : Bool). if b then with_learned t l.0 l.1 else t) e in
    stays_full ls (with_granted t l.0 l.1) (subst (λ (u : Table). 512 ≤ routes_held u) (sym same) held)

-- a network that is in the list and wasn't learned found the table full
pub full : (ls : Routed) (t : Table) (m : ℕ) → is_fixed t m ≡ false → list_any (λ e. nat_eq m e.0) ls ≡ true
    → is_learned (learned_by t ls) m ≡ false → 512 ≤ routes_held (learned_by t ls)
full [] t m free here none = absurd (true≢false (sym here))
full (l ∷ ls) t m free here none =
    by (nat_eq m l.0) refl here (λ h. full ls (with_granted t l.0 l.1) m (stays_free t l.0 l.1 m free) h none)
  where
    by : (b : Bool) → nat_eq m l.0 ≡ b → (b || list_any (λ e. nat_eq m e.0) ls) ≡ true
        → (list_any (λ e. nat_eq m e.0) ls ≡ true → 512 ≤ routes_held (learned_by t (l ∷ ls)))
        → 512 ≤ routes_held (learned_by t (l ∷ ls))
    by true q h later = at_first l ls t m (grants t l.0) (eqb-true m l.0 q) refl free none
    by false q h later = later h

-- ---- what is fixed

not_found : (p : ℕ → Bool) (xs : List ℕ) → list_any p xs ≡ false → position_or_len p xs ≡ length xs
not_found p [] e = refl
not_found p (x ∷ xs) e =
    let parts = or_parts (p x) (list_any p xs) e in
    let one_more : 1 + length xs ≡ length (x ∷ xs) = omega arith in
    ap (λ (b : Bool). cond (not b) (1 + position_or_len p xs) 0) parts.0 ∙ ap (λ (n : ℕ). 1 + n) (not_found p xs parts.1)
    ∙ one_more

below : (n : ℕ) (b : Bool) → nat_lt n n ≡ b → is_some (cond b (Some n) None) ≡ false
below n true q = let less = ltb-true n n q in absurd (omega (arith, less))
below n false q = refl

no_position : (p : ℕ → Bool) (xs : List ℕ) → list_any p xs ≡ false → is_some (position p xs) ≡ false
no_position p xs e =
    ap (λ (n : ℕ). is_some (cond (nat_lt n (length xs)) (Some n) None)) (not_found p xs e)
    ∙ below (length xs) (nat_lt (length xs) (length xs)) refl

of_ports : (n : ℕ) (ports : List ConfiguredPort)
    → list_any (nat_eq n) (map (λ p. p.network) ports) ≡ list_any (λ p. nat_eq n p.network) ports
of_ports n [] = refl
of_ports n (p ∷ ports) = ap (λ (b : Bool). nat_eq n p.network || b) (of_ports n ports)

of_routes : (n : ℕ) (rs : List ConfiguredRoute) → list_any (λ r. nat_eq n r.network) rs ≡ false
    → is_some (lookup (nat_eq n) (map routed_of rs)) ≡ false
of_routes n [] e = refl
of_routes n (r ∷ rs) e =
    let parts = or_parts (nat_eq n r.network) (list_any (λ x. nat_eq n x.network) rs) e in
    ap (λ (b : Bool). is_some (cond b (Some (routed_of r).1) (lookup (nat_eq n) (map routed_of rs)))) parts.0 ∙ of_routes n rs parts.1

or_from : (a b : Bool) → a ≡ false → b ≡ false → (a || b) ≡ false
or_from false false e f = refl
or_from true b e f = absurd (true≢false e)
or_from false true e f = absurd (true≢false f)

is_free : (c : Configuration) (n : ℕ) → is_own c n ≡ false → is_routed c n ≡ false → is_fixed (first_table c) n ≡ false
is_free c n own routed =
    let parts = or_parts (list_any (λ p. nat_eq n p.network) c.ports) (nat_eq n c.device.network) own in
    let direct = map (λ (p : ConfiguredPort). p.network) c.ports in
    let nowhere : list_any (nat_eq n) (direct ++ c.device.network ∷ []) ≡ false =
    list_any-append (nat_eq n) direct (c.device.network ∷ [])
    ∙ or_from _ _ (of_ports n c.ports ∙ parts.0) (or_from _ _ parts.1 refl) in
    or_from _ _ (no_position (nat_eq n) (direct ++ c.device.network ∷ []) nowhere) (of_routes n c.routes routed)

not_kept : (n : ℕ) (es : Routed) → find (λ e. nat_eq n e.0) es ≡ None → is_some (lookup (nat_eq n) es) ≡ false
not_kept n [] e = refl
not_kept n (x ∷ es) e = by (nat_eq n x.0) refl e (not_kept n es)
  where
    by : (b : Bool) → nat_eq n x.0 ≡ b → (if b then Some x else find (λ k. nat_eq n k.0) es) ≡ None
        → (find (λ k. nat_eq n k.0) es ≡ None → is_some (lookup (nat_eq n) es) ≡ false)
        → is_some (lookup (nat_eq n) (x ∷ es)) ≡ false
    by true q f later = absurd cc
    by false q f later = ap (λ (b : Bool). is_some (cond b (Some x.1) (lookup (nat_eq n) es))) q ∙ later f

-- ---- the reason

because : (own routed : Bool)
    → (if own then routes.Own else if routed then routes.Configured else routes.Full) ≡ routes.Full
    → (own ≡ false) × (routed ≡ false)
because true routed e = absurd cc
because false true e = absurd cc
because false false e = (refl, refl)

beside_not : (b : Bool) → (if b then routes.TakenOver else routes.Replaced) ≡ routes.Full → ⊥
beside_not true e = absurd cc
beside_not false e = absurd cc

pub full_tables_are_full : FullTablesAreFull
full_tables_are_full c s route here said = by (find (λ e. nat_eq route.0 e.0) (routes_kept c s)) refl said
  where
    by : (o : Option (ℕ × Route)) → find (λ e. nat_eq route.0 e.0) (routes_kept c s) ≡ o
        → option_map_or (fate_beside route.1) o (refusal c route.0) ≡ routes.Full
        → 512 ≤ routes_held (learned_by (first_table c) (routes_carried c.ports s))
    by None e f =
        let parts = because (is_own c route.0) (is_routed c route.0) f in
        full (routes_carried c.ports s) (first_table c) route.0 (is_free c route.0 parts.0 parts.1) here
        (not_kept route.0 (routes_kept c s) e)
    by (Some k) e f = absurd (beside_not (is_same_route k.1 route.1) f)
