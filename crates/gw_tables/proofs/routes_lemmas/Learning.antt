-- What one more learning does to the routes that a history leaves.
use Rattle.std.proofs.Common.{◌≡◌, ◌∙◌, ℕ, Bool, true, false, cond, ◌||◌, List, [], ◌∷◌, ◌++◌, Option, Some, None, is_some, if◌then◌else◌, nat_eq, refl, sym, ap, subst, true≢false, filter_map}
use Rattle.std.specs.Cmp.{nat_eq_equiv}
use Rattle.std.specs.List.{list_any, IsDistinct, AllByRecursion, cons_option}
use Rattle.std.specs.Option.{option_map}
use Rattle.std.proofs.lemmas.Bool.Decides.{Decides-eqb}
use Rattle.std.proofs.lemmas.Map.Keys.{IsDistinct-push, IsDistinct-head, IsDistinct-tail}
use Rattle.indexmap.specs.IndexMap.{insert_entry}
use Rattle.gw_tables.specs.declared.routes.route.Route.{Route}
use Rattle.gw_tables.specs.routes.Table.{Table, Routed, table_of, route_of, grants, with_learned, with_granted, with_each, learned_by}
use Rattle.gw_tables.specs.routes.History.{History, with_network, networks_learned, last_learning, learned_after, IsStateAfter, history_with, history_by}

pub own : (n : ℕ) → nat_eq n n ≡ true
own n = (Decides-eqb n n).1 refl

pub equal_of : (n m : ℕ) → nat_eq n m ≡ true → n ≡ m
equal_of n m e = (Decides-eqb n m).0 e

module _ (h : History) (n : ℕ) (r : Route) where
  other : (m : ℕ) → nat_eq n m ≡ false → last_learning ((n, r) ∷ h) m ≡ last_learning h m
  other m e = ap (λ b. option_map (λ route. (m, route)) (cond b (Some r) (route_of h m))) (nat_eq_equiv.symm m n ∙ e)

  newest : (m : ℕ) → nat_eq n m ≡ true → last_learning ((n, r) ∷ h) m ≡ Some (m, r)
  newest m e = ap (λ b. option_map (λ route. (m, route)) (cond b (Some r) (route_of h m))) (nat_eq_equiv.symm m n ∙ e)

  -- the learning of one network changes no other's route
  others : (nets : List ℕ) → AllByRecursion (λ m. nat_eq n m ≡ false) nets
      → filter_map (last_learning ((n, r) ∷ h)) nets ≡ filter_map (last_learning h) nets
  others [] a = refl
  others (m ∷ nets) a = λ j. cons_option (other m a.0 j) (others nets a.1 j)

  there : (nets : List ℕ) (m : ℕ) → nat_eq n m ≡ true → with_network (m ∷ nets) n ≡ m ∷ nets
  there nets m e = ap (λ b. if b || list_any (nat_eq n) nets then m ∷ nets else m ∷ nets ++ n ∷ []) e

  further : (nets : List ℕ) (m : ℕ) → nat_eq n m ≡ false → with_network (m ∷ nets) n ≡ m ∷ with_network nets n
  further nets m e = ap (λ b. if b || list_any (nat_eq n) nets then m ∷ nets else m ∷ nets ++ n ∷ []) e ∙ by (list_any (nat_eq n) nets)
    where
      by : (b : Bool) → (if b then m ∷ nets else m ∷ nets ++ n ∷ []) ≡ m ∷ (if b then nets else nets ++ n ∷ [])
      by true = refl
      by false = refl

  -- among networks that are each there once and each with a route, the one that is learned takes the new route
  put : (nets : List ℕ) → IsDistinct nat_eq nets → AllByRecursion (λ m. is_some (route_of h m) ≡ true) nets
      → filter_map (last_learning ((n, r) ∷ h)) (with_network nets n) ≡ insert_entry nat_eq (filter_map (last_learning h) nets) n r
  put [] d a = ap (λ o. cons_option o []) (newest n (own n))
  put (m ∷ nets) d a = by (nat_eq n m) refl (route_of h m) refl (put nets (IsDistinct-tail nat_eq m nets d) a.1)
    where
      rest : List (ℕ × Route)
      rest = filter_map (last_learning h) nets

      learned : (route : Route) → route_of h m ≡ Some route → last_learning h m ≡ Some (m, route)
      learned route s = ap (option_map (λ x. (m, x))) s

      by : (b : Bool) → nat_eq n m ≡ b → (o : Option Route) → route_of h m ≡ o
          → filter_map (last_learning ((n, r) ∷ h)) (with_network nets n) ≡ insert_entry nat_eq (filter_map (last_learning h) nets) n r
          → filter_map (last_learning ((n, r) ∷ h)) (with_network (m ∷ nets) n) ≡ insert_entry nat_eq (filter_map (last_learning h) (m ∷ nets)) n r
      by b e None s further_on = absurd (true≢false (sym a.0 ∙ ap is_some s))
      by true e (Some route) s further_on =
          let apart : AllByRecursion (λ x. nat_eq n x ≡ false) nets =
          subst (λ k. AllByRecursion (λ x. nat_eq k x ≡ false) nets) (sym (equal_of n m e)) (IsDistinct-head nat_eq m nets d) in
          ap (filter_map (last_learning ((n, r) ∷ h))) (there nets m e)
          ∙ (λ j. cons_option (newest m e j) (others nets apart j))
          ∙ sym (ap (λ o. insert_entry nat_eq (cons_option o (filter_map (last_learning h) nets)) n r) (learned route s)
          ∙ ap (λ b. if b then (m, r) ∷ filter_map (last_learning h) nets else (m, route) ∷ insert_entry nat_eq (filter_map (last_learning h) nets) n r) e)
      by false e (Some route) s further_on =
          ap (filter_map (last_learning ((n, r) ∷ h))) (further nets m e)
          ∙ (λ j. cons_option ((other m e ∙ learned route s) j) (further_on j))
          ∙ sym (ap (λ o. insert_entry nat_eq (cons_option o (filter_map (last_learning h) nets)) n r) (learned route s)
          ∙ ap (λ b. if b then (m, r) ∷ filter_map (last_learning h) nets else (m, route) ∷ insert_entry nat_eq (filter_map (last_learning h) nets) n r) e)

-- the networks of a history are each there once
pub learned_once : (h : History) → IsDistinct nat_eq (networks_learned h)
unfolding networks_learned IsDistinct
learned_once [] = tt
learned_once (l ∷ h) = by (list_any (nat_eq l.0) (networks_learned h)) refl (learned_once h)
  where
    by : (b : Bool) → list_any (nat_eq l.0) (networks_learned h) ≡ b → IsDistinct nat_eq (networks_learned h) → IsDistinct nat_eq (if b then networks_learned h else networks_learned h ++ l.0 ∷ [])
    by true e d = d
    by false e d = IsDistinct-push nat_eq_equiv (networks_learned h) l.0 d e

-- each network of a history has a route there
named : (h : History) → AllByRecursion (λ m. is_some (route_of h m) ≡ true) (networks_learned h)
unfolding networks_learned
named [] = tt
named (l ∷ h) = by (list_any (nat_eq l.0) (networks_learned h)) (named h)
  where
    still : (b : Bool) (o : Option Route) → is_some o ≡ true → is_some (cond b (Some l.1) o) ≡ true
    still true o e = refl
    still false o e = e

    each : (nets : List ℕ) → AllByRecursion (λ m. is_some (route_of h m) ≡ true) nets → AllByRecursion (λ m. is_some (route_of (l ∷ h) m) ≡ true) nets
    each [] a = tt
    each (m ∷ nets) a = (still (nat_eq m l.0) (route_of h m) a.0, each nets a.1)

    last : (nets : List ℕ) → AllByRecursion (λ m. is_some (route_of (l ∷ h) m) ≡ true) nets → AllByRecursion (λ m. is_some (route_of (l ∷ h) m) ≡ true) (nets ++ l.0 ∷ [])
    last [] a = (ap (λ b. is_some (cond b (Some l.1) (route_of h l.0))) (own l.0), tt)
    last (m ∷ nets) a = (a.0, last nets a.1)

    by : (b : Bool) → AllByRecursion (λ m. is_some (route_of h m) ≡ true) (networks_learned h)
        → AllByRecursion (λ m. is_some (route_of (l ∷ h) m) ≡ true) (if b then networks_learned h else networks_learned h ++ l.0 ∷ [])
    by true a = each (networks_learned h) a
    by false a = last (networks_learned h) (each (networks_learned h) a)

-- one more learning puts its network where the step on rows puts it
pub learned_step : (h : History) (n : ℕ) (r : Route) → learned_after ((n, r) ∷ h) ≡ insert_entry nat_eq (learned_after h) n r
unfolding networks_learned learned_after
learned_step h n r = put h n r (networks_learned h) (learned_once h) (named h)

pub after_learning : (t u : Table) (direct : List ℕ) (configured : Routed) (h : History) (n : ℕ) (r : Route)
    → u ≡ with_learned t n r → IsStateAfter t direct configured h → IsStateAfter u direct configured ((n, r) ∷ h)
after_learning t u direct configured h n r e s =
    e ∙ ap (λ w. with_learned w n r) s ∙ ap (table_of direct configured) (sym (learned_step h n r))

pub after_each : (nets : List ℕ) (t u : Table) (direct : List ℕ) (configured : Routed) (h : History) (r : Route)
    → u ≡ with_each t nets r → IsStateAfter t direct configured h → IsStateAfter u direct configured (history_with t nets r h)
unfolding history_with
after_each [] t u direct configured h r e s = e ∙ s
after_each (n ∷ nets) t u direct configured h r e s =
    after_each nets (with_granted t n r) u direct configured (if grants t n then (n, r) ∷ h else h) r e (by (grants t n))
  where
    by : (b : Bool) → IsStateAfter (if b then with_learned t n r else t) direct configured (if b then (n, r) ∷ h else h)
    by true = after_learning t (with_learned t n r) direct configured h n r refl s
    by false = s

pub after_by : (learnings : Routed) (t u : Table) (direct : List ℕ) (configured : Routed) (h : History)
    → u ≡ learned_by t learnings → IsStateAfter t direct configured h → IsStateAfter u direct configured (history_by t learnings h)
unfolding history_by
after_by [] t u direct configured h e s = e ∙ s
after_by (l ∷ learnings) t u direct configured h e s =
    after_by learnings (with_granted t l.0 l.1) u direct configured (if grants t l.0 then l ∷ h else h) e (by (grants t l.0))
  where
    by : (b : Bool) → IsStateAfter (if b then with_learned t l.0 l.1 else t) direct configured (if b then l ∷ h else h)
    by true = after_learning t (with_learned t l.0 l.1) direct configured h l.0 l.1 refl s
    by false = s
