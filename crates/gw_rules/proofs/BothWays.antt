-- What the two rules match that go with a rule.
use Rattle.std.proofs.Common.{◌≡◌, ℕ, ◌≤◌, Bool, true, false, List, [], ◌∷◌, ◌++◌, length, ◌↔◌, Option, Some, None, ◌==◌, ◌&&◌, ◌||◌, arith, refl, sym, ◌∙◌, ap, codes, nat_le}
use Rattle.std.specs.Prelude.{if◌then◌else◌}
use Rattle.std.specs.List.{list_any}
use Rattle.std.specs.Option.{option_map_or}
use Rattle.std.proofs.Math.Bool.{and-true}
use Rattle.std.proofs.lemmas.Bool.{and_parts, and_from, eq-eqb, eqb-true, leb-true, le-leb, ne_eqb}
use Rattle.std.proofs.lemmas.List.Folds.{list_any-append}
use Rattle.gw_rules.specs.Ask.{Ask}
use Rattle.gw_rules.specs.BothWays.{answers, askers, back_of, is_answer, is_on_way, judged, judges, matches_stations, matches_way, mirrored, only, requests, routes, routing, way_of, way_ranges, way_services}
use Rattle.gw_rules.specs.declared.operation.Operation.{Operation}
use Rattle.gw_rules.specs.declared.operation.Operation.TheVariants.{Read, Route, Write}
use Rattle.gw_rules.specs.declared.range.Range.{Range}
use Rattle.gw_rules.specs.declared.rule.Rule.{Rule}
use Rattle.gw_rules.specs.Operation.{operation_number}
use Rattle.gw_rules.specs.Range.{admits, holds}
use Rattle.gw_rules.specs.Fields.{value_of}
use Rattle.gw_rules.specs.Rule.{each_field, matches}

-- two truths that come one with the other are the same
same_truth : (a b : Bool) → (a ≡ true → b ≡ true) → (b ≡ true → a ≡ true) → a ≡ b
same_truth true b f g = sym (f refl)
same_truth false true f g = g refl
same_truth false false f g = refl

-- the range of one number holds that number alone
holds_only : (n k : ℕ) → holds n (only k) ≡ (n == k)
holds_only n k =
    same_truth (holds n (only k)) (n == k)
    (λ t. let parts = and_parts (nat_le k n) (nat_le n k) t in equal n k (leb-true k n parts.0) (leb-true n k parts.1))
    (λ t. let same : n ≡ k = eqb-true n k t in and_from (nat_le k n) (nat_le n k) (le-leb k n (omega (arith, same))) (le-leb n k (omega (arith, same))))
  where
    equal : (n k : ℕ) → k ≤ n → n ≤ k → (n == k) ≡ true
    equal n k low high = let same : n ≡ k = omega (arith, low, high) in eq-eqb n k same

-- a range behind others
any_behind : (n : ℕ) (ranges : List Range) (range : Range) → list_any (holds n) (ranges ++ range ∷ []) ≡ (list_any (holds n) ranges || holds n range)
any_behind n ranges range = list_any-append (holds n) ranges (range ∷ []) ∙ ap (λ b. list_any (holds n) ranges || b) (or_false (holds n range))
  where
    or_false : (b : Bool) → (b || false) ≡ b
    or_false true = refl
    or_false false = refl

-- ranges with one behind them admit what one of them holds
admits_some : (ranges : List Range) (range : Range) (value : Option ℕ) → admits (ranges ++ range ∷ []) value ≡ option_map_or (λ n. list_any (holds n) (ranges ++ range ∷ [])) value false
admits_some [] range value = refl
admits_some (first ∷ ranges) range value =
    let there : (length (first ∷ (ranges ++ range ∷ [])) == 0) ≡ false = ne_eqb (length (first ∷ (ranges ++ range ∷ []))) 0 (λ e. omega arith) in
    ap (λ b. b || option_map_or (λ n. list_any (holds n) (first ∷ (ranges ++ range ∷ []))) value false) there

-- what a value passes that passes the same tests
value_alike : (value : Option ℕ) (test other : ℕ → Bool) → ((n : ℕ) → test n ≡ other n) → option_map_or test value false ≡ option_map_or other value false
value_alike None test other same = refl
value_alike (Some n) test other same = same n

-- the operation to route
routes_only : (value : Option ℕ) → admits routing value ≡ option_map_or (λ n. n == operation_number Route) value false
routes_only value =
    admits_some [] (only (operation_number Route)) value
    ∙ value_alike value (λ n. list_any (holds n) routing) (λ n. n == operation_number Route)
    (λ n. any_behind n [] (only (operation_number Route)) ∙ holds_only n (operation_number Route))

-- ---- the services

service_on_way : (n : ℕ) (operation : Operation) (service : ℕ) (rule : Rule) → list_any (holds n) (judged operation service rule) ≡ (judges operation service rule && n == service)
service_on_way n operation service rule = go (judges operation service rule)
  where
    go : (b : Bool) → list_any (holds n) (if b then only service ∷ [] else []) ≡ (b && n == service)
    go true = any_behind n [] (only service) ∙ holds_only n service
    go false = refl

or_moves : (a b c d e : Bool) → ((((a || b) || c) || d) || e) ≡ (a || (b || (c || (d || e))))
or_moves true b c d e = refl
or_moves false true c d e = refl
or_moves false false c d e = or_three c d e
  where
    or_three : (c d e : Bool) → ((c || d) || e) ≡ (c || (d || e))
    or_three true d e = refl
    or_three false d e = refl

-- the services of the way are those that are on it
on_way : (rule : Rule) (n : ℕ) → list_any (holds n) (way_services rule) ≡ is_on_way rule n
on_way rule n =
    let read = judged Read 12 rule in
    let multiple = judged Read 14 rule in
    let write = judged Write 15 rule in
    any_behind n (requests rule ++ only 1028 ∷ []) (only 1031)
    ∙ rw (any_behind n (requests rule) (only 1028), list_any-append (holds n) (read ++ multiple) write, list_any-append (holds n) read multiple, service_on_way n Read 12 rule, service_on_way n Read 14 rule, service_on_way n Write 15 rule, holds_only n 1028, holds_only n 1031)
    (or_moves (judges Read 12 rule && n == 12) (judges Read 14 rule && n == 14) (judges Write 15 rule && n == 15) (n == 1028) (n == 1031))

services_on_way : (rule : Rule) (value : Option ℕ) → admits (way_services rule) value ≡ option_map_or (is_on_way rule) value false
services_on_way rule value =
    admits_some (requests rule ++ only 1028 ∷ []) (only 1031) value
    ∙ value_alike value (λ n. list_any (holds n) (way_services rule)) (is_on_way rule) (on_way rule)

services_of_answers : (value : Option ℕ) → admits answers value ≡ option_map_or is_answer value false
services_of_answers value =
    admits_some [] (record { low = 1026; high = 1031 }) value
    ∙ value_alike value (λ n. list_any (holds n) answers) is_answer (λ n. any_behind n [] (record { low = 1026; high = 1031 }))

-- ---- the order of what is asked

way_moves : (op port net key to svc by at : Bool) → (op && (port && (net && (key && (to && (svc && (by && (at && true)))))))) ≡ ((op && svc) && (port && (net && (key && (to && (by && at))))))
way_moves false port net key to svc by at = refl
way_moves true false net key to true by at = refl
way_moves true false net key to false by at = refl
way_moves true true false key to true by at = refl
way_moves true true false key to false by at = refl
way_moves true true true false to true by at = refl
way_moves true true true false to false by at = refl
way_moves true true true true false true by at = refl
way_moves true true true true false false by at = refl
way_moves true true true true true false by at = refl
way_moves true true true true true true by at = ap (λ b. by && b) (and-true at)

back_moves : (op net key to svc at : Bool) → (op && (net && (key && (to && (svc && (at && true)))))) ≡ ((op && svc) && (to && (at && (net && key))))
back_moves false net key to svc at = refl
back_moves true false key to true at = nothing to at
  where
    nothing : (to at : Bool) → false ≡ (to && (at && false))
    nothing false at = refl
    nothing true false = refl
    nothing true true = refl
back_moves true false key to false at = refl
back_moves true true false to true at = nothing to at
  where
    nothing : (to at : Bool) → false ≡ (to && (at && false))
    nothing false at = refl
    nothing true false = refl
    nothing true true = refl
back_moves true true false to false at = refl
back_moves true true true false true at = refl
back_moves true true true false false at = refl
back_moves true true true true true at = refl
back_moves true true true true false at = refl

-- ---- what the two rules match

some_way : (rule : Rule) (way : Rule) → way_of rule ≡ Some way → way.ranges ≡ way_ranges (way_services rule) rule
some_way rule way e = go (length (requests rule) == 0) e
  where
    go : (b : Bool) → (if b then None else Some (record { name = rule.name ++ codes "-way"; allow = true; quiet = false; ranges = way_ranges (way_services rule) rule })) ≡ Some way → way.ranges ≡ way_ranges (way_services rule) rule
    go true e = absurd (cc)
    go false e = cc

pub way_matches : (rule way : Rule) (ask : Ask) → way_of rule ≡ Some way → matches way ask ≡ (routes (is_on_way rule) ask && matches_way rule ask)
unfolding matches
way_matches rule way ask is =
    ap (λ ranges. each_field (λ field. admits (value_of field ranges) (value_of field ask))) (some_way rule way is)
    ∙ (way_moves (admits routing ask.operation) (admits rule.ranges.port ask.port) (admits rule.ranges.source_network ask.source_network) (admits rule.ranges.source_key ask.source_key) (admits rule.ranges.destination_network ask.destination_network) (admits (way_services rule) ask.service) (admits rule.ranges.sender ask.sender) (admits rule.ranges.station ask.station)
    ∙ ap (λ (b : Bool). b && matches_way rule ask) (ap (λ op. op && admits (way_services rule) ask.service) (routes_only ask.operation) ∙ ap (λ svc. option_map_or (λ n. n == operation_number Route) ask.operation false && svc) (services_on_way rule ask.service)))

pub back_matches : (rule : Rule) (ask : Ask) → matches (back_of rule) ask ≡ (routes is_answer ask && matches_stations rule (mirrored ask))
unfolding matches
back_matches rule ask =
    back_moves (admits routing ask.operation) (admits rule.ranges.destination_network ask.source_network) (admits rule.ranges.station ask.source_key) (admits rule.ranges.source_network ask.destination_network) (admits answers ask.service) (admits (askers rule) ask.station)
    ∙ ap (λ (b : Bool). b && matches_stations rule (mirrored ask)) (ap (λ op. op && admits answers ask.service) (routes_only ask.operation) ∙ ap (λ svc. option_map_or (λ n. n == operation_number Route) ask.operation false && svc) (services_of_answers ask.service))

-- what there is where there are services
abbrev way_from : List Range → Rule → Option Rule
way_from services way = if length services == 0 then None else Some way

-- the services of three requests, as each is judged
abbrev services : Bool → Bool → Bool → List Range
services a b c = ((if a then only 12 ∷ [] else []) ++ (if b then only 14 ∷ [] else [])) ++ (if c then only 15 ∷ [] else [])

some_none : (way : Rule) → Some way ≡ None → ⊥
some_none way e = absurd (cc)

true_false : true ≡ false → ⊥
true_false e = absurd (cc)

none_from : (way : Rule) (a b c : Bool) → (way_from (services a b c) way ≡ None) ↔ ((a ≡ false) × (b ≡ false) × (c ≡ false))
none_from way true true true = (λ e. absurd (some_none way e), λ h. absurd (true_false h.0))
none_from way true true false = (λ e. absurd (some_none way e), λ h. absurd (true_false h.0))
none_from way true false true = (λ e. absurd (some_none way e), λ h. absurd (true_false h.0))
none_from way true false false = (λ e. absurd (some_none way e), λ h. absurd (true_false h.0))
none_from way false true true = (λ e. absurd (some_none way e), λ h. absurd (true_false h.1))
none_from way false true false = (λ e. absurd (some_none way e), λ h. absurd (true_false h.1))
none_from way false false true = (λ e. absurd (some_none way e), λ h. absurd (true_false h.2))
none_from way false false false = (λ e. (refl, refl, refl), λ h. refl)

-- there is none exactly where the rule judges no request
pub no_way : (rule : Rule) → (way_of rule ≡ None) ↔ ((judges Read 12 rule ≡ false) × (judges Read 14 rule ≡ false) × (judges Write 15 rule ≡ false))
no_way rule =
    none_from (record { name = rule.name ++ codes "-way"; allow = true; quiet = false; ranges = way_ranges (way_services rule) rule })
    (judges Read 12 rule) (judges Read 14 rule) (judges Write 15 rule)
