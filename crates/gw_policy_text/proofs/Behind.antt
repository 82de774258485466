-- Reading the rules of a list one after the other, each judged with those before it, as a loop does.
use Rattle.std.proofs.Common.{◌≡◌, ◌≢◌, ℕ, zero, suc, ◌+◌, ◌<◌, ◌≤◌, List, [], ◌∷◌, ◌++◌, length, get_or, drop, map, Option, Some, None, Ok, Err, refl, sym, ap, ◌∙◌, arith}
use Rattle.std.specs.Option.{option_map}
use Rattle.toml.specs.Data.{Data}
use Rattle.toml.specs.View.{view}
use Rattle.toml.specs.declared.value.Value.{Value}
use Rattle.gw_rules.specs.declared.format.Format.{Format}
use Rattle.gw_policy_text.specs.declared.written.Written.{Written}
use Rattle.gw_configuration.specs.declared.fault.ConfigFault.TheVariants.{Memory}
use Rattle.gw_configuration.specs.declared.located.Located.{Located as Lent}
use Rattle.gw_configuration.specs.Located.{located_view}
use Rattle.gw_policy_text.specs.Policy.{crowd, rule_in, rules_behind, rules_of}
use Rattle.gw_policy_text.proofs.EachAt.{drop_all, left}

-- what is still read after the rules that a loop has read up to a place gives the whole
abbrev pub IsReadBehind : Format → List Data → List Value → ℕ → List Written → Type 0
IsReadBehind format sets values place before =
    rules_behind format sets before place (map view (drop place values)) ≡ rules_behind format sets [] 0 (map view values)

pub goes_on_behind : (format : Format) (sets : List Data) (values : List Value) (place : ℕ) (before : List Written) (value : Value) (rule : Written) → place < length values → value ≡ get_or values place value
    → rule_in format sets place (view value) ≡ Ok rule → crowd format place (rules_of (before ++ rule ∷ [])) ≡ None
    → IsReadBehind format sets values place before → IsReadBehind format sets values (place + 1) (before ++ rule ∷ [])
goes_on_behind format sets values place before value rule h is e few so_far =
    let here : rules_behind format sets before place (map view (drop place values)) ≡ rules_behind format sets (before ++ rule ∷ []) (place + 1) (map view (drop (place + 1) values)) =
    ap (rules_behind format sets before place) (left values place value h is) ∙ rw (e, few) refl in
    sym here ∙ so_far

pub stops_behind : (format : Format) (sets : List Data) (values : List Value) (place : ℕ) (before : List Written) (value : Value) (located : Lent) → place < length values → value ≡ get_or values place value
    → (located.fault ≢ Memory → rule_in format sets place (view value) ≡ Err (located_view located))
    → IsReadBehind format sets values place before → located.fault ≢ Memory → rules_behind format sets [] 0 (map view values) ≡ Err (located_view located)
stops_behind format sets values place before value located h is e so_far other =
    let here : rules_behind format sets before place (map view (drop place values)) ≡ Err (located_view located) =
    ap (rules_behind format sets before place) (left values place value h is) ∙ rw (e other) refl in
    sym so_far ∙ here

pub crowded_behind : (format : Format) (sets : List Data) (values : List Value) (place : ℕ) (before : List Written) (value : Value) (rule : Written) (located : Lent) → place < length values → value ≡ get_or values place value
    → rule_in format sets place (view value) ≡ Ok rule → crowd format place (rules_of (before ++ rule ∷ [])) ≡ Some (located_view located)
    → IsReadBehind format sets values place before → rules_behind format sets [] 0 (map view values) ≡ Err (located_view located)
crowded_behind format sets values place before value rule located h is e many so_far =
    let here : rules_behind format sets before place (map view (drop place values)) ≡ Err (located_view located) =
    ap (rules_behind format sets before place) (left values place value h is) ∙ rw (e, many) refl in
    sym so_far ∙ here

pub ends_behind : (format : Format) (sets : List Data) (values : List Value) (place : ℕ) (before : List Written) → length values ≤ place
    → IsReadBehind format sets values place before → rules_behind format sets [] 0 (map view values) ≡ Ok before
ends_behind format sets values place before h so_far =
    let nothing : drop place values ≡ [] = drop_all place values h in
    sym so_far ∙ ap (λ (vs : List Value). rules_behind format sets before place (map view vs)) nothing
