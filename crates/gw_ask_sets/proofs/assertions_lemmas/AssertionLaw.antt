-- The conditions of which an ask that an assertion means meets one.
use Rattle.std.proofs.Common.{◌≡◌, ◌∙◌, inl, inr, sym, ap, refl, ℕ, Bool, true, false, ◌&&◌, ◌||◌, ◌==◌, List, [], ◌∷◌, ◌++◌, length, map, nat_eq, nat_le, Option, Some, None, arith}
use Rattle.std.specs.Prelude.{◌≤◌, not, if◌then◌else◌, is_some}
use Rattle.std.specs.List.{list_any}
use Rattle.std.specs.Option.{option_map_or}
use Rattle.std.proofs.lemmas.List.{nil_from_length}
use Rattle.std.proofs.lemmas.List.Folds.{list_any-append}
use Rattle.std.proofs.lemmas.Bool.{and_from, and_parts, eq-eqb, eqb-true, eqb-false, le-leb, leb-true, or_cases}
use Rattle.gw_rules.specs.Ask.{Ask}
use Rattle.gw_rules.specs.Operation.{operation_number}
use Rattle.gw_rules.specs.Range.{admits, holds}
use Rattle.gw_rules.specs.declared.operation.Operation.{Operation}
use Rattle.gw_rules.specs.declared.operation.Operation.TheVariants.{Cast, Route}
use Rattle.gw_rules.specs.declared.range.Range.{Range}
use Rattle.gw_configuration.specs.Assertion.{is_for, is_meant_by, is_of_service, is_passed, meets_but_object, meets_but_operation}
use Rattle.gw_configuration.specs.declared.assertion.Assertion.{Assertion}
use Rattle.gw_ask_sets.specs.assertions.internal.Conditions.{is_met, is_one_met, named_services, operation_condition, passing_condition}
use Rattle.gw_ask_sets.specs.declared.assertions.condition.Condition.{Condition}
use Rattle.gw_ask_sets.specs.regions.Ranges.{between, shared}
use Rattle.gw_ask_sets.proofs.assertions_lemmas.NumberLaw.{any_one, only_admits}
use Rattle.gw_ask_sets.proofs.regions_lemmas.RangeLaw.{and_all, or_none, same, shared_law}
use Rattle.gw_ask_sets.proofs.regions_lemmas.ValueLaw.{not_empty, some_admits}

-- a field that an ask may not lack
never : (a unnamed : Bool) → (a || (unnamed && false)) ≡ a
never a true = or_none a
never a false = or_none a

-- ---- an ask for an operation

pub operation_met : (a : Assertion) (operation : Operation) (ask : Ask)
    → is_met (operation_condition a operation) ask
    ≡ (is_for operation ask && meets_but_operation a ask)
operation_met a operation ask =
    ap (λ b. b && meets_but_operation a ask)
    (never (admits (between (operation_number operation) (operation_number operation) ∷ []) ask.operation) a.unnamed
    ∙ only_admits (operation_number operation) ask.operation)

-- ---- a message that is passed on

two : (m : ℕ) → (nat_le 1 m && nat_le m 2) ≡ ((m == 2) || (m == 1))
two m =
    same (nat_le 1 m && nat_le m 2) ((m == 2) || (m == 1))
    (λ e. let parts = and_parts (nat_le 1 m) (nat_le m 2) e in by (leb-true 1 m parts.0) (leb-true m 2 parts.1) (m == 2) refl)
    (λ e. elim (or_cases (m == 2) (m == 1) e) [
      | inl second ↦ let is = eqb-true m 2 second in and_from (nat_le 1 m) (nat_le m 2) (le-leb 1 m (omega arith)) (le-leb m 2 (omega arith))
      | inr first ↦ let is = eqb-true m 1 first in and_from (nat_le 1 m) (nat_le m 2) (le-leb 1 m (omega arith)) (le-leb m 2 (omega arith))
    ])
  where
    by : 1 ≤ m → m ≤ 2 → (b : Bool) → (m == 2) ≡ b → (b || (m == 1)) ≡ true
    by low high true e = refl
    by low high false e = let other = eqb-false m 2 e in eq-eqb m 1 (omega arith)

passed_met : (unnamed : Bool) (ask : Ask)
    → (admits (between (operation_number Cast) (operation_number Route) ∷ []) ask.operation || (unnamed && false)) ≡ is_passed ask
passed_met unnamed ask = never (admits (between (operation_number Cast) (operation_number Route) ∷ []) ask.operation) unnamed ∙ by ask.operation
  where
    by : (x : Option ℕ) → admits (between (operation_number Cast) (operation_number Route) ∷ []) x
        ≡ (option_map_or (λ number. number == operation_number Route) x false || option_map_or (λ number. number == operation_number Cast) x false)
    by None = refl
    by (Some m) = or_none (nat_le 1 m && nat_le m 2) ∙ two m

-- of the services that are named
abbrev single : List ℕ → List Range
single services = map (λ service. between service service) services

named_by : (services : List ℕ) (named : List Range) (x : Option ℕ)
    → option_map_or (λ number. list_any (holds number) (if length named == 0 then single services else shared (single services) named)) x false
    ≡ (option_map_or (λ number. list_any (nat_eq number) services) x false && admits named x)
named_by services [] None = refl
named_by services [] (Some n) = any_one n services ∙ sym (and_all (list_any (nat_eq n) services))
named_by services (r ∷ rs) None = refl
named_by services (r ∷ rs) (Some n) =
    ap (λ b. list_any (holds n) (if b then single services else shared (single services) (r ∷ rs))) (not_empty r rs)
    ∙ shared_law n (single services) (r ∷ rs) ∙ ap (λ b. b && list_any (holds n) (r ∷ rs)) (any_one n services)
    ∙ ap (λ b. list_any (nat_eq n) services && b) (sym (some_admits r rs (Some n)))

some_met : (list : List Range) (x : Option ℕ) → (length list == 0) ≡ false → admits list x ≡ option_map_or (λ number. list_any (holds number) list) x false
some_met list x e = ap (λ b. b || option_map_or (λ number. list_any (holds number) list) x false) e

service_met : (a : Assertion) (services : List ℕ) (ask : Ask) → (length (named_services a services) == 0) ≡ false
    → (admits (named_services a services) ask.service || (a.unnamed && false))
    ≡ (is_of_service services ask && (admits a.ranges.service ask.service || (a.unnamed && false)))
service_met a services ask some =
    never (admits (named_services a services) ask.service) a.unnamed ∙ some_met (named_services a services) ask.service some
    ∙ named_by services a.ranges.service ask.service
    ∙ ap (λ b. is_of_service services ask && b) (sym (never (admits a.ranges.service ask.service) a.unnamed))

moved : (p a b c d s e r : Bool) → (p && (a && (b && (c && (d && ((s && e) && r)))))) ≡ (p && (s && (a && (b && (c && (d && (e && r)))))))
moved false a b c d s e r = refl
moved true false b c d true e r = refl
moved true false b c d false e r = refl
moved true true false c d true e r = refl
moved true true false c d false e r = refl
moved true true true false d true e r = refl
moved true true true false d false e r = refl
moved true true true true false true e r = refl
moved true true true true false false e r = refl
moved true true true true true true e r = refl
moved true true true true true false e r = refl

abbrev met_at : Assertion → List Range → Option ℕ → Bool
met_at a ranges value = admits ranges value || (a.unnamed && false)

abbrev station_met : Assertion → Ask → Bool
station_met a ask = admits a.ranges.station ask.station || (a.unnamed && not (is_some ask.station))

pub passing_met : (a : Assertion) (services : List ℕ) (ask : Ask) → (length (named_services a services) == 0) ≡ false
    → is_met (passing_condition a (named_services a services)) ask
    ≡ (is_passed ask && (is_of_service services ask && meets_but_object a ask))
passing_met a services ask some =
    let port = met_at a a.ranges.port ask.port in
    let net = met_at a a.ranges.source_network ask.source_network in
    let key = met_at a a.ranges.source_key ask.source_key in
    let bound = met_at a a.ranges.destination_network ask.destination_network in
    let rest = met_at a a.ranges.sender ask.sender && (station_met a ask && true) in
    let served = met_at a a.ranges.service ask.service in
    ap (λ b. b && (port && (net && (key && (bound && (met_at a (named_services a services) ask.service && rest)))))) (passed_met a.unnamed ask)
    ∙ ap (λ b. is_passed ask && (port && (net && (key && (bound && (b && rest)))))) (service_met a services ask some)
    ∙ moved (is_passed ask) port net key bound (is_of_service services ask) served rest

-- where none of the services is named, no such ask is meant
pub passing_none : (a : Assertion) (services : List ℕ) (ask : Ask) → named_services a services ≡ []
    → (is_passed ask && (is_of_service services ask && meets_but_object a ask)) ≡ false
passing_none a services ask none =
    let port = met_at a a.ranges.port ask.port in
    let net = met_at a a.ranges.source_network ask.source_network in
    let key = met_at a a.ranges.source_key ask.source_key in
    let bound = met_at a a.ranges.destination_network ask.destination_network in
    let rest = met_at a a.ranges.sender ask.sender && (station_met a ask && true) in
    let served = met_at a a.ranges.service ask.service in
    sym (moved (is_passed ask) port net key bound (is_of_service services ask) served rest)
    ∙ ap (λ b. is_passed ask && (port && (net && (key && (bound && (b && rest)))))) (
    ap (λ b. is_of_service services ask && b) (never (admits a.ranges.service ask.service) a.unnamed)
    ∙ sym (named_by services a.ranges.service ask.service)
    ∙ ap (λ (list : List Range). option_map_or (λ number. list_any (holds number) list) ask.service false) none ∙ nothing ask.service
    )
    ∙ fails (is_passed ask) port net key bound
  where
    nothing : (x : Option ℕ) → option_map_or (λ number. list_any (holds number) []) x false ≡ false
    nothing None = refl
    nothing (Some n) = refl

    fails : (p a b c d : Bool) → (p && (a && (b && (c && (d && false))))) ≡ false
    fails false a b c d = refl
    fails true false b c d = refl
    fails true true false c d = refl
    fails true true true false d = refl
    fails true true true true false = refl
    fails true true true true true = refl

-- ---- conditions behind others

pub conditions_none : (out : List Condition) (b : Bool) (ask : Ask) → b ≡ false → is_one_met out ask ≡ (is_one_met out ask || b)
conditions_none out b ask none = sym (or_none (is_one_met out ask)) ∙ ap (λ c. is_one_met out ask || c) (sym none)

pub conditions_one : (out new : List Condition) (made : Condition) (b : Bool) (ask : Ask) → new ≡ out ++ made ∷ [] → is_met made ask ≡ b
    → is_one_met new ask ≡ (is_one_met out ask || b)
conditions_one out new made b ask grown is =
    ap (λ (cs : List Condition). is_one_met cs ask) grown ∙ list_any-append (λ c. is_met c ask) out (made ∷ [])
    ∙ ap (λ c. is_one_met out ask || c) (or_none (is_met made ask) ∙ is)

-- of what is asked for, where none of the services is named
pub any_named : (a : Assertion) (operation : Operation) (services : List ℕ) (named : List Range) (out new : List Condition) (made : Condition)
    → new ≡ out ++ made ∷ [] → made ≡ operation_condition a operation → named ≡ named_services a services → (length named == 0) ≡ true
    → (ask : Ask) → is_one_met new ask ≡ (is_one_met out ask || is_meant_by operation services a ask)
any_named a operation services named out new made grown is names none ask =
    conditions_one out new made (is_meant_by operation services a ask) ask grown
    (ap (λ (c : Condition). is_met c ask) is ∙ operation_met a operation ask
    ∙ sym (or_none (is_for operation ask && meets_but_operation a ask))
    ∙ ap (λ b. (is_for operation ask && meets_but_operation a ask) || b)
    (sym (passing_none a services ask (sym names ∙ nil_from_length named (eqb-true (length named) 0 none)))))

-- and where some is
pub any_passing : (a : Assertion) (operation : Operation) (services : List ℕ) (named : List Range) (out new last : List Condition) (made passing : Condition)
    → new ≡ out ++ made ∷ [] → made ≡ operation_condition a operation → named ≡ named_services a services → (length named == 0) ≡ false
    → last ≡ new ++ passing ∷ [] → passing ≡ passing_condition a named
    → (ask : Ask) → is_one_met last ask ≡ (is_one_met out ask || is_meant_by operation services a ask)
any_passing a operation services named out new last made passing grown is names some grown_more passes ask =
    let asked = is_for operation ask && meets_but_operation a ask in
    let passed = is_passed ask && (is_of_service services ask && meets_but_object a ask) in
    conditions_one new last passing passed ask grown_more
    (ap (λ (c : Condition). is_met c ask) (passes ∙ ap (passing_condition a) names)
    ∙ passing_met a services ask (ap (λ (rs : List Range). length rs == 0) (sym names) ∙ some))
    ∙ ap (λ b. b || passed) (conditions_one out new made asked ask grown (ap (λ (c : Condition). is_met c ask) is ∙ operation_met a operation ask))
    ∙ by (is_one_met out ask) asked passed
  where
    by : (a b c : Bool) → ((a || b) || c) ≡ (a || (b || c))
    by true b c = refl
    by false b c = refl
