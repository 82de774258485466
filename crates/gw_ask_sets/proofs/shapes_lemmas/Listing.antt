-- How the lists of shapes grow.
use Rattle.std.proofs.Common.{◌≡◌, ◌∙◌, ap, sym, ℕ, ◌+◌, ◌<◌, ◌≤◌, add-one, append_assoc, arith, drop, drop-cons, get_or, length, suc, take, List, [], ◌∷◌, ◌++◌}
use Rattle.std.proofs.Math.Seq.{take-suc}
use Rattle.std.proofs.lemmas.Grind.{flat_map-append}
use Rattle.std.proofs.lemmas.List.{append-nil, take_all}
use Rattle.std.specs.List.{flat_map}
use Rattle.gw_configuration.specs.declared.port.Port.{Port}
use Rattle.gw_rules.specs.declared.format.Format.{Format}
use Rattle.gw_ask_sets.specs.shapes.Shape.{Shape}
use Rattle.gw_ask_sets.specs.shapes.Shapes.{entrances_from, foreign_shapes, gaps_between, is_manager, only, own, own_shapes, shapes_within, split}
use Rattle.gw_ask_sets.specs.declared.shapes.shapes.Entrance.{Entrance}
use Rattle.gw_ask_sets.specs.declared.shapes.side.Side.{Side}

pub two_appended : (out a b x y : List Shape) → x ≡ out ++ a → y ≡ x ++ b → y ≡ out ++ (a ++ b)
two_appended out a b x y e f = f ∙ ap (λ (xs : List Shape). xs ++ b) e ∙ append_assoc out a b

pub three_appended : (out a b c x y z : List Shape) → x ≡ out ++ a → y ≡ x ++ b → z ≡ y ++ c → z ≡ out ++ (a ++ (b ++ c))
three_appended out a b c x y z e f g = two_appended out a (b ++ c) x z e (two_appended x b c y z f g)

pub four_appended : (out a b c d x y z w : List Shape) → x ≡ out ++ a → y ≡ x ++ b → z ≡ y ++ c → w ≡ z ++ d → w ≡ out ++ (a ++ (b ++ (c ++ d)))
four_appended out a b c d x y z w e f g h = two_appended out a (b ++ (c ++ d)) x w e (three_appended x b c d y z w f g h)

step_on : (out new all a rest tail : List Shape) → new ≡ out ++ a → tail ≡ a ++ rest → out ++ tail ≡ all → new ++ rest ≡ all
step_on out new all a rest tail e f is =
    ap (λ (xs : List Shape). xs ++ rest) e ∙ append_assoc out a rest ∙ ap (λ (xs : List Shape). out ++ xs) (sym f) ∙ is

-- the shapes of one gap more
pub gap_step : (format : Format) (device place : ℕ) (ways : List Entrance) (networks : List Side) (d : Side) (out new all : List Shape) → place < length networks
    → new ≡ out ++ foreign_shapes format device ways (get_or networks place d)
    → out ++ flat_map (foreign_shapes format device ways) (drop place networks) ≡ all
    → new ++ flat_map (foreign_shapes format device ways) (drop (place + 1) networks) ≡ all
gap_step format device place ways networks d out new all within grown is =
    let make = foreign_shapes format device ways in
    let next : drop place networks ≡ get_or networks place d ∷ drop (place + 1) networks =
    drop-cons networks place d within ∙ ap (λ n. get_or networks place d ∷ drop n networks) (sym (add-one place)) in
    step_on out new all (make (get_or networks place d)) (flat_map make (drop (place + 1) networks)) (flat_map make (drop place networks))
    grown (ap (flat_map make) next) is

abbrev owned : Format → ℕ → ℕ → Port → List Shape
owned format device number p = shapes_within format device (own format number p.network (is_manager p))

port_next : (ports : List Port) (place : ℕ) (p : Port) → place < length ports → p ≡ get_or ports place p → drop place ports ≡ p ∷ drop (place + 1) ports
port_next ports place p within there =
    drop-cons ports place p within ∙ ap (λ q. q ∷ drop (suc place) ports) (sym there) ∙ ap (λ n. p ∷ drop n ports) (sym (add-one place))

-- the shapes of one port more
pub port_step : (format : Format) (device place : ℕ) (ports : List Port) (p : Port) (out new all : List Shape) → place < length ports
    → p ≡ get_or ports place p
    → new ≡ out ++ shapes_within format device (own format (place + 1) p.network (is_manager p))
    → out ++ own_shapes format device (1 + place) (drop place ports) ≡ all
    → new ++ own_shapes format device (1 + (place + 1)) (drop (place + 1) ports) ≡ all
port_step format device place ports p out new all within there grown is =
    let next = port_next ports place p within there in
    let same : 1 + place ≡ place + 1 = omega arith in
    let later : 1 + place + 1 ≡ 1 + (place + 1) = omega arith in
    step_on out new all (owned format device (place + 1) p) (own_shapes format device (1 + (place + 1)) (drop (place + 1) ports))
    (own_shapes format device (1 + place) (drop place ports)) grown
    (ap (own_shapes format device (1 + place)) next
    ∙ ap (λ n. owned format device n p ++ own_shapes format device (1 + place + 1) (drop (place + 1) ports)) same
    ∙ ap (λ n. owned format device (place + 1) p ++ own_shapes format device n (drop (place + 1) ports)) later)
    is

abbrev entrance : ℕ → Port → Entrance
entrance number p = record { port = only number; manages = is_manager p }

-- one entrance more
pub entrance_step : (place : ℕ) (ports : List Port) (p : Port) (out new all : List Entrance) → place < length ports
    → p ≡ get_or ports place p → new ≡ out ++ entrance (place + 1) p ∷ []
    → out ++ entrances_from (1 + place) (drop place ports) ≡ all
    → new ++ entrances_from (1 + (place + 1)) (drop (place + 1) ports) ≡ all
entrance_step place ports p out new all within there grown is =
    let rest = drop (place + 1) ports in
    let next = port_next ports place p within there in
    let same : 1 + place ≡ place + 1 = omega arith in
    let later : 1 + place + 1 ≡ 1 + (place + 1) = omega arith in
    ap (λ (xs : List Entrance). xs ++ entrances_from (1 + (place + 1)) rest) grown
    ∙ append_assoc out (entrance (place + 1) p ∷ []) (entrances_from (1 + (place + 1)) rest)
    ∙ ap (λ (xs : List Entrance). out ++ xs) (sym (ap (entrances_from (1 + place)) next
    ∙ ap (λ n. entrance n p ∷ entrances_from (1 + place + 1) rest) same
    ∙ ap (λ n. entrance (place + 1) p ∷ entrances_from n rest) later))
    ∙ is

-- the gaps between the ports that are left, where those of one more are made
pub between_step : (sides made : List Side) (ports : List Port) (place : ℕ) (p : Port) → place < length ports → p ≡ get_or ports place p
    → made ≡ flat_map (split p.network) sides → gaps_between made (drop (place + 1) ports) ≡ gaps_between sides (drop place ports)
between_step sides made ports place p within there is =
    ap (λ (xs : List Side). gaps_between xs (drop (place + 1) ports)) is ∙ sym (ap (gaps_between sides) (port_next ports place p within there))

-- what is made of one item more
pub flat_step : {A B : Type 0} (make : A → List B) (items : List A) (place : ℕ) (d : A) (before out new : List B) → place < length items
    → out ≡ before ++ flat_map make (take place items) → new ≡ out ++ make (get_or items place d)
    → new ≡ before ++ flat_map make (take (place + 1) items)
flat_step {A = A} {B = B} make items place d before out new within is grown =
    let one = get_or items place d in
    let next : take (place + 1) items ≡ take place items ++ one ∷ [] = ap (λ n. take n items) (add-one place) ∙ take-suc items place d within in
    let made : flat_map make (take (place + 1) items) ≡ flat_map make (take place items) ++ make one =
    ap (flat_map make) next ∙ flat_map-append make (take place items) (one ∷ [])
    ∙ ap (λ (xs : List B). flat_map make (take place items) ++ xs) (append-nil (make one)) in
    grown ∙ ap (λ (xs : List B). xs ++ make one) is ∙ append_assoc before (flat_map make (take place items)) (make one)
    ∙ ap (λ (xs : List B). before ++ xs) (sym made)

pub flat_end : {A B : Type 0} (make : A → List B) (items : List A) (place : ℕ) (before out : List B) → length items ≤ place
    → out ≡ before ++ flat_map make (take place items) → out ≡ before ++ flat_map make items
flat_end {B = B} make items place before out ends is = is ∙ ap (λ (xs : List _). before ++ flat_map make xs) (take_all place items ends)
