-- What is found twice is what appears twice.
use Rattle.std.proofs.Common.{◌≡◌, ℕ, ◌+◌, ◌||◌, Bool, false, List, [], ◌∷◌, Option, Some, None, refl, sym, ap, ◌∙◌, nat_eq}
use Rattle.std.specs.Prelude.{is_some, length}
use Rattle.std.specs.Cmp.Lexicographic.{pointwise}
use Rattle.std.specs.List.{list_any}
use Rattle.std.specs.Option.{option_map}
use Rattle.gw_configuration.specs.declared.port.Port.{Port}
use Rattle.gw_configuration.specs.Configuration.{Configuration}
use Rattle.gw_configuration.specs.Duplicates.{address_twice, assertion_names, assertion_twice, has_duplicates, has_twice, identifier_twice, identifiers, name_twice, names, network_twice, networks, or_else, peer_addresses, peer_twice, peers_twice, port_addresses, repetition, rule_names, rule_twice, second, set_names, set_twice}
use Rattle.gw_configuration.proofs.Twice.{same_numbers, same_texts, second_twice}

mapped : {A B : Type 0} (f : A → B) (o : Option A) → is_some (option_map f o) ≡ is_some o
mapped f (Some x) = refl
mapped f None = refl

either : {A : Type 0} (a b : Option A) → is_some (or_else a b) ≡ (is_some a || is_some b)
either (Some x) b = refl
either None b = refl

number_found : {B : Type 0} (f : ℕ → B) (xs : List ℕ) → is_some (option_map f (second nat_eq xs)) ≡ has_twice nat_eq xs
number_found f xs = mapped f (second nat_eq xs) ∙ second_twice nat_eq same_numbers xs

text_found : {B : Type 0} (f : ℕ → B) (xs : List (List ℕ)) → is_some (option_map f (second (pointwise nat_eq) xs)) ≡ has_twice (pointwise nat_eq) xs
text_found f xs = mapped f (second (pointwise nat_eq) xs) ∙ second_twice (pointwise nat_eq) same_texts xs

peer_found : (n : ℕ) (ports : List Port) → is_some (peers_twice n ports) ≡ list_any (λ port. has_twice nat_eq (peer_addresses port.peers)) ports
peer_found n [] = refl
peer_found n (port ∷ ports) =
    either (option_map (peer_twice n) (second nat_eq (peer_addresses port.peers))) (peers_twice (n + 1) ports)
    ∙ rw (number_found (peer_twice n) (peer_addresses port.peers), peer_found (n + 1) ports) refl

joined : {A : Type 0} (a b : Option A) (p q : Bool) → is_some a ≡ p → is_some b ≡ q → is_some (or_else a b) ≡ (p || q)
joined a b p q e f = either a b ∙ rw (e, f) refl

pub repetition_found : (c : Configuration) → is_some (repetition c) ≡ has_duplicates c
unfolding repetition has_duplicates
repetition_found c =
    joined _ _ _ _ (number_found (network_twice (length c.ports)) (networks c))
    (joined _ _ _ _ (number_found address_twice (port_addresses c.ports))
    (joined _ _ _ _ (peer_found 0 c.ports)
    (joined _ _ _ _ (number_found identifier_twice (identifiers c.objects))
    (joined _ _ _ _ (text_found name_twice (names c.device c.objects))
    (joined _ _ _ _ (text_found set_twice (set_names c.sets))
    (joined _ _ _ _ (text_found (rule_twice c.tables) (rule_names c.rules))
    (text_found assertion_twice (assertion_names c.assertions))))))))

pub none_stands_twice : (c : Configuration) → repetition c ≡ None → has_duplicates c ≡ false
none_stands_twice c none = sym (repetition_found c) ∙ ap is_some none
