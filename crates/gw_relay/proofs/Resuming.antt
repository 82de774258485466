-- Ports with the tables at their places.
use Rattle.std.proofs.Common.{◌≡◌, ◌∙◌, ◌⊎◌, inl, inr, ap, refl, sym, ℕ, ◌+◌, List, [], ◌∷◌, ◌++◌, length, append_assoc, append-nil, arith}
use Rattle.gw_tables.specs.declared.bdt_fdt.tables.PortTables.{PortTables}
use Rattle.gw_configuration.specs.declared.port.Port.{Port as ConfiguredPort}
use Rattle.gw_relay.specs.Initial.{port_state_with, port_states_with}
use Rattle.gw_relay.specs.declared.port.PortState.{PortState}

-- without ports or without tables there are no states
none_left : (number : ℕ) (ports : List ConfiguredPort) (tables : List PortTables) → (length ports ≡ 0) ⊎ (length tables ≡ 0)
    → port_states_with number ports tables ≡ []
none_left number [] tables e = refl
none_left number (p ∷ ports) [] e = refl
none_left number (p ∷ ports) (t ∷ tables) (inl e) = absurd (omega (arith, e))
none_left number (p ∷ ports) (t ∷ tables) (inr e) = absurd (omega (arith, e))

pub all_made : (xs whole : List PortState) (ports : List ConfiguredPort) (tables : List PortTables)
    → (length ports ≡ 0) ⊎ (length tables ≡ 0) → xs ++ port_states_with (length xs + 1) ports tables ≡ whole → xs ≡ whole
all_made xs whole ports tables e all =
    sym (append-nil xs) ∙ ap (λ ys. xs ++ ys) (sym (none_left (length xs + 1) ports tables e)) ∙ all

pub length_one : (xs : List PortState) (x : PortState) → length (xs ++ x ∷ []) ≡ length xs + 1
length_one [] x = refl
length_one (y ∷ xs) x = omega (arith, length_one xs x)

-- one state more is made, and the first port and its tables aren't left any more
pub one_more : (xs ys whole : List PortState) (p : ConfiguredPort) (t : PortTables) (ports left : List ConfiguredPort)
    (tables others : List PortTables) → ys ≡ xs ++ port_state_with (length xs + 1) p t ∷ [] → ports ≡ p ∷ left → tables ≡ t ∷ others
    → xs ++ port_states_with (length xs + 1) ports tables ≡ whole → ys ++ port_states_with (length ys + 1) left others ≡ whole
one_more xs ys whole p t ports left tables others made first second all =
    let state : PortState = port_state_with (length xs + 1) p t in
    let more : length ys + 1 ≡ length xs + 1 + 1 = ap (λ n. n + 1) (ap length made ∙ length_one xs state) in
    ap (λ zs. zs ++ port_states_with (length ys + 1) left others) made
    ∙ append_assoc xs (state ∷ []) (port_states_with (length ys + 1) left others)
    ∙ ap (λ n. xs ++ state ∷ port_states_with n left others) more
    ∙ sym (λ j. xs ++ port_states_with (length xs + 1) (first j) (second j))
    ∙ all
