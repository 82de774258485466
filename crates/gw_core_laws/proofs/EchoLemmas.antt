-- Announcements that come back are of networks that the table knows, and so nothing is announced of them.
use Rattle.std.proofs.Common.{◌≡◌, ◌∙◌, refl, sym, ap, subst, true≢false, ℕ, Bool, true, false, not, ◌&&◌, ◌||◌, List, [], ◌∷◌, ◌++◌, filter, nat_eq, Option, Some, None}
use Rattle.std.specs.Prelude.{if◌then◌else◌, length, ◌==◌}
use Rattle.std.specs.List.{list_any}
use Rattle.std.specs.Map.{keys_of}
use Rattle.std.specs.Option.{option_map}
use Rattle.std.proofs.lemmas.Bool.{and_parts, not-true}
use Rattle.std.proofs.lemmas.List.Folds.{list_any-append}
use Rattle.gw_rules.specs.RuleList.{allows}
use Rattle.gw_rules.specs.declared.rule.Rule.{Rule}
use Rattle.gw_tables.specs.declared.routes.route.Route.{Route}
use Rattle.gw_tables.specs.routes.Table.{Table, is_fixed, is_learned, is_new, new_networks, route_by, with_each}
use Rattle.gw_tables.proofs.routes_lemmas.Learning.{own}
use Rattle.gw_tables.proofs.routes_lemmas.News.{go_last, new_named, new_unknown}
use Rattle.gw_relay.specs.Manage.{announced_but, first_learned, is_i_am_router, keep_allowed, learn_ask, manage_change, named_networks, onward_sends}
use Rattle.gw_relay.specs.Message.{Message}
use Rattle.gw_relay.specs.Neighbours.{all_first_learned}
use Rattle.gw_relay.specs.Sends.{Sending}
use Rattle.gw_relay.specs.State.{Commit, Move, Relay, moved, moved_by}
use Rattle.gw_relay.specs.declared.change.Change.{Change}
use Rattle.gw_relay.specs.declared.change.Change.TheVariants.{Learnings}
use Rattle.gw_relay.proofs.NeighbourLemmas.{announcements_end}
use Rattle.gw_core_laws.specs.Neighbours.{TwoGatewaysStop, taught}
use Rattle.gw_core_laws.proofs.OwnLemmas.{among}

or_left : (a b : Bool) → a ≡ true → (a || b) ≡ true
or_left true b e = refl
or_left false b e = cc

or_right : (a b : Bool) → b ≡ true → (a || b) ≡ true
or_right true b e = refl
or_right false b e = e

kept_is_there : (p : ℕ → Bool) (xs : List ℕ) (n : ℕ) → list_any (nat_eq n) (filter p xs) ≡ true → list_any (nat_eq n) xs ≡ true
kept_is_there p [] n e = e
kept_is_there p (x ∷ xs) n e = by (p x) (nat_eq n x) refl e (kept_is_there p xs n)
  where
    by : (b c : Bool) → nat_eq n x ≡ c → list_any (nat_eq n) (if b then x ∷ filter p xs else filter p xs) ≡ true
        → (list_any (nat_eq n) (filter p xs) ≡ true → list_any (nat_eq n) xs ≡ true) → (nat_eq n x || list_any (nat_eq n) xs) ≡ true
    by true true q h rest = ap (λ (d : Bool). d || list_any (nat_eq n) xs) q
    by true false q h rest = or_right (nat_eq n x) _ (rest (sym (ap (λ (d : Bool). d || list_any (nat_eq n) (filter p xs)) q) ∙ h))
    by false c q h rest = or_right (nat_eq n x) _ (rest h)

-- what is learned for the first time was named
first_named : (rules : List Rule) (relay : Relay) (m : Message) (n : ℕ) → list_any (nat_eq n) (first_learned rules relay m) ≡ true
    → list_any (nat_eq n) (named_networks m) ≡ true
first_named rules relay m n e =
    kept_is_there (λ k. allows rules (learn_ask relay.format m k)) (named_networks m) n
    (new_named relay.routes (keep_allowed rules relay.format m (named_networks m)) (route_by m.here.port.number m.link) n e)

-- a relay knows a network, which it never forgets
still_known : (moves : List Move) (relay : Relay) (n : ℕ) → list_any (nat_eq n) (keys_of relay.routes.learned) ≡ true
    → list_any (nat_eq n) (keys_of (moved_by moves relay).routes.learned) ≡ true
still_known moves relay n e =
    ap (list_any (nat_eq n)) (announcements_end moves relay)
    ∙ list_any-append (nat_eq n) (keys_of relay.routes.learned) (all_first_learned moves relay) ∙ or_left _ _ e

taught_by : (b : Bool) (rules : List Rule) (relay : Relay) (m : Message) (n : ℕ) → b ≡ true → list_any (nat_eq n) (first_learned rules relay m) ≡ true
    → list_any (nat_eq n) (keys_of (moved (option_map Commit (if b then Some (Learnings m.here.port.number m.link
    (keep_allowed rules relay.format m (named_networks m))) else None)) relay).routes.learned) ≡ true
taught_by false rules relay m n is e = cc
taught_by true rules relay m n is e =
    let networks = keep_allowed rules relay.format m (named_networks m) in
    let route = route_by m.here.port.number m.link in
    ap (list_any (nat_eq n)) (go_last relay.routes route networks)
    ∙ list_any-append (nat_eq n) (keys_of relay.routes.learned) (new_networks relay.routes networks route) ∙ or_right _ _ e

-- a list of which nothing is new
nothing_in : (xs : List ℕ) → ((n : ℕ) → list_any (nat_eq n) xs ≡ true → ⊥) → xs ≡ []
nothing_in [] h = refl
nothing_in (x ∷ xs) h = absurd (h x (ap (λ (b : Bool). b || list_any (nat_eq x) xs) (own x)))

silent_by : (a b : Bool) (number : ℕ) (networks : List ℕ) (relay : Relay) → networks ≡ []
    → (if a && b then announced_but number relay.ports networks else []) ≡ []
silent_by a b number networks relay none = ap (λ (nets : List ℕ). if a && b then announced_but number relay.ports nets else []) none ∙ by (a && b)
  where
    by : (c : Bool) → ◌≡◌ {A = List Sending} (if c then [] else []) []
    by true = refl
    by false = refl

pub two_gateways_stop : TwoGatewaysStop
unfolding onward_sends
two_gateways_stop one_rules other_rules one other heard onward back since router named again =
    let later = moved_by since (taught one_rules one heard) in
    silent_by later.announce (is_i_am_router back.npdu) back.here.port.number (first_learned one_rules later back) later
    (nothing_in (first_learned one_rules later back) (λ n e.
    let of_other = first_named other_rules other onward n (ap (list_any (nat_eq n)) (sym again) ∙ first_named one_rules later back n e) in
    let of_one : list_any (nat_eq n) (first_learned one_rules one heard) ≡ true = ap (list_any (nat_eq n)) (sym named) ∙ of_other in
    let known = still_known since (taught one_rules one heard) n (taught_by (is_i_am_router heard.npdu) one_rules one heard n router of_one) in
    let new = new_unknown later.routes (keep_allowed one_rules later.format back (named_networks back)) (route_by back.here.port.number back.link) n e in
    let unlearned = not-true _ (and_parts (not (is_fixed later.routes n)) (not (is_learned later.routes n)) new).1 in
    true≢false (sym known ∙ sym (among n later.routes.learned) ∙ unlearned)))
