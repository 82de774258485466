-- Asks to enter and to claim lie in the shapes of which `explain` says who may raise them.
use Rattle.std.proofs.Common.{◌≡◌, ◌≢◌, ◌⊎◌, ◌∙◌, inl, inr, sym, ap, refl, subst, ℕ, zero, suc, ◌+◌, ◌-◌, ◌≤◌, ◌<◌, Bool, true, false, List, [], ◌∷◌, ◌++◌, length, nat_le, nat_lt, Option, Some, None, arith, slice_get}
use Rattle.std.specs.Prelude.{◌&&◌, if◌then◌else◌, IsTrue}
use Rattle.std.specs.List.{flat_map, list_all}
use Rattle.std.specs.Option.{option_to_list}
use Rattle.std.proofs.lemmas.Bool.{and_from, and_parts, leb-true, ltb-true}
use Rattle.gw_configuration.specs.Configuration.{Configuration}
use Rattle.gw_configuration.specs.declared.port.Port.{Port as ConfiguredPort}
use Rattle.gw_rules.specs.Ask.{Ask, IsFor}
use Rattle.gw_rules.specs.Range.{holds}
use Rattle.gw_rules.specs.RuleList.{allows}
use Rattle.gw_rules.proofs.EachAsk.{each_weaker}
use Rattle.gw_rules.specs.declared.field.FieldName.TheVariants as fields
use Rattle.gw_rules.specs.declared.format.Format.{Format}
use Rattle.gw_rules.specs.declared.format.Format.TheVariants.{One, Two, Three}
use Rattle.gw_rules.specs.declared.operation.Operation.TheVariants as operations
use Rattle.gw_core.specs.Asks.{asks}
use Rattle.gw_policy_review.specs.permissions.Questions.{claiming, entering}
use Rattle.gw_policy_review.proofs.permissions_lemmas.Allowing.{each_ask_is_allowed, no_ask_is_allowed}
use Rattle.gw_ask_sets.specs.shapes.Pieces.{above, below, numbers}
use Rattle.gw_ask_sets.specs.shapes.Shape.{IsWithin, LiesIn, LiesInOne, Shape}
use Rattle.gw_ask_sets.specs.shapes.Shapes.{any_entrance, broadcast_shapes, cast_shapes, claim_shapes, entrances, entrances_from, enter_shapes, foreign, foreign_shapes, frame_shapes, gaps, gaps_between, is_manager, message_shapes, near_shapes, network, nothing, only, own, own_shapes, plain, request_shapes, shapes, shapes_by, shapes_from, shapes_of, shapes_within, split, table_shapes}
use Rattle.gw_ask_sets.specs.declared.shapes.shapes.Entrance.{Entrance}
use Rattle.gw_ask_sets.specs.declared.shapes.shapes.Origin.{Origin}
use Rattle.gw_ask_sets.specs.declared.shapes.side.Side.{Side}
use Rattle.gw_ask_sets.proofs.shapes_lemmas.Lying.{in_range, lies_by}
use Rattle.gw_verdicts.specs.Strangers.{ClaimsAreAsked, EntersBy, EveryStrangerEnters, HasPort, NobodyClaims, NoStrangerEnters, StrangersAreAsked}
use Rattle.gw_verdicts.proofs.ShapeLaw.{asks_lie_in_shapes}

-- ---- in one of several lists

split_one : (xs ys : List Shape) (ask : Ask) → LiesInOne (xs ++ ys) ask → LiesInOne xs ask ⊎ LiesInOne ys ask
split_one [] ys ask lies = inr lies
split_one (x ∷ xs) ys ask (inl here) = inl (inl here)
split_one (x ∷ xs) ys ask (inr later) = elim (split_one xs ys ask later) [
  | inl front ↦ inl (inr front)
  | inr rest ↦ inr rest
]

-- one of the items
abbrev IsOne : {A : Type 0} → A → List A → Type 0
IsOne item [] = ⊥
IsOne item (x ∷ xs) = (item ≡ x) ⊎ IsOne item xs

record Among (A : Type 0) (make : A → List Shape) (items : List A) (ask : Ask) : Type 0 where
  item : A
  one : IsOne item items
  lies : LiesInOne (make item) ask

among : {A : Type 0} (make : A → List Shape) (items : List A) (ask : Ask) → LiesInOne (flat_map make items) ask → Among A make items ask
among make [] ask lies = absurd lies
among {A = A} make (x ∷ xs) ask lies = elim (split_one (make x) (flat_map make xs) ask lies) [
  | inl here ↦ record { item = x; one = inl refl; lies = here }
  | inr later ↦ let found = among make xs ask later in record { item = found.item; one = inr found.one; lies = found.lies }
]

-- ---- shapes of other operations

-- the operations of a shape have numbers below those to enter and to claim
abbrev is_other : Shape → Bool
is_other shape = nat_le shape.operation.range.high 11

others_alone : (xs : List Shape) (ask : Ask) (e : ℕ) → list_all is_other xs ≡ true → 12 ≤ e → ask.operation ≡ Some e → LiesInOne xs ask → ⊥
others_alone [] ask e all late is lies = lies
others_alone (x ∷ xs) ask e all late is (inl here) =
    let both = and_parts (is_other x) (list_all is_other xs) all in
    let within : IsWithin x.operation (Some e) = subst (IsWithin x.operation) is (here fields.Operation) in
    let high = (in_range x.operation e within).1 in
    let low = leb-true x.operation.range.high 11 both.0 in
    absurd (omega (arith, late, high, low))
others_alone (x ∷ xs) ask e all late is (inr later) =
    others_alone xs ask e (and_parts (is_other x) (list_all is_other xs) all).1 late is later

all_both : (test : Shape → Bool) (xs ys : List Shape) → list_all test xs ≡ true → list_all test ys ≡ true → list_all test (xs ++ ys) ≡ true
all_both test [] ys first second = second
all_both test (x ∷ xs) ys first second =
    let both = and_parts (test x) (list_all test xs) first in
    and_from (test x) (list_all test (xs ++ ys)) both.0 (all_both test xs ys both.1 second)

tables_other : (from : Origin) → list_all is_other (table_shapes Three from) ≡ true
tables_other from = by from.manages
  where
    by : (b : Bool) → list_all is_other (if b then frame_shapes Three from else []) ≡ true
    by true = refl
    by false = refl

casts_other : (from : Origin) → list_all is_other (cast_shapes Three from) ≡ true
casts_other from = by from.manages
  where
    by : (b : Bool) → list_all is_other (if b then broadcast_shapes Three from else []) ≡ true
    by true = refl
    by false = refl

from_other : (device : ℕ) (from : Origin) → list_all is_other (shapes_from Three device from) ≡ true
from_other device from =
    all_both is_other (cast_shapes Three from) (message_shapes Three device from ++ request_shapes Three from) (casts_other from)
    (all_both is_other (message_shapes Three device from) (request_shapes Three from) refl refl)

near_other : (device : ℕ) (from : Origin) → list_all is_other (near_shapes from ++ shapes_from Three device from) ≡ true
near_other device from = all_both is_other (near_shapes from) (shapes_from Three device from) refl (from_other device from)

-- ---- the number of the operation

same_number : (k e : ℕ) (ask : Ask) → IsWithin (only k) ask.operation → ask.operation ≡ Some e → k ≡ e
same_number k e ask within is =
    let there : IsWithin (only k) (Some e) = subst (IsWithin (only k)) is within in
    let low = there.0 in
    let high = there.1 in
    omega (arith, low, high)

-- ---- from the ports' own networks

-- a shape of an ask to enter by one of the ports
abbrev enters_by : ℕ → ConfiguredPort → Shape
enters_by number p = plain (own Three number p.network (is_manager p)) operations.Enter nothing

-- what lies in the shapes of a port's own network, of asks to enter
own_enter : (device : ℕ) (from : Origin) (ask : Ask) → IsFor operations.Enter ask → LiesInOne (shapes_within Three device from) ask
    → LiesIn (plain from operations.Enter nothing) ask
own_enter device from ask is lies = elim (split_one (table_shapes Three from) (enter_shapes Three from ++ (near_shapes from ++ shapes_from Three device from)) ask lies) [
  | inl table ↦ absurd (others_alone (table_shapes Three from) ask 12 (tables_other from) (omega arith) is table)
  | inr rest ↦ elim (split_one (enter_shapes Three from) (near_shapes from ++ shapes_from Three device from) ask rest) [
    | inl enter ↦ elim enter [
      | inl here ↦ here
      | inr never ↦ absurd never
    ]
    | inr near ↦ absurd (others_alone (near_shapes from ++ shapes_from Three device from) ask 12 (near_other device from) (omega arith) is near)
  ]
]

own_claim_none : (device : ℕ) (from : Origin) (ask : Ask) → IsFor operations.Claim ask → LiesInOne (shapes_within Three device from) ask → ⊥
own_claim_none device from ask is lies = elim (split_one (table_shapes Three from) (enter_shapes Three from ++ (near_shapes from ++ shapes_from Three device from)) ask lies) [
  | inl table ↦ others_alone (table_shapes Three from) ask 13 (tables_other from) (omega arith) is table
  | inr rest ↦ elim (split_one (enter_shapes Three from) (near_shapes from ++ shapes_from Three device from) ask rest) [
    | inl enter ↦ elim enter [
      | inl here ↦ let same = same_number 12 13 ask (here fields.Operation) is in absurd (omega (arith, same))
      | inr never ↦ never
    ]
    | inr near ↦ others_alone (near_shapes from ++ shapes_from Three device from) ask 13 (near_other device from) (omega arith) is near
  ]
]

-- the port at a place, by which the ask enters
record Entered (number : ℕ) (ports : List ConfiguredPort) (ask : Ask) : Type 0 where
  place : ℕ
  port : ConfiguredPort
  there : slice_get ports place ≡ Some port
  lies : LiesIn (enters_by (number + place) port) ask

entered : (device number : ℕ) (ports : List ConfiguredPort) (ask : Ask) → IsFor operations.Enter ask
    → LiesInOne (own_shapes Three device number ports) ask → Entered number ports ask
entered device number [] ask is lies = absurd lies
entered device number (p ∷ ports) ask is lies =
    elim (split_one (shapes_within Three device (own Three number p.network (is_manager p))) (own_shapes Three device (number + 1) ports) ask lies) [
      | inl here ↦
          let at : number ≡ number + 0 = omega arith in
          record {
            place = 0;
            port = p;
            there = refl;
            lies = subst (λ (n : ℕ). LiesIn (enters_by n p) ask) at (own_enter device (own Three number p.network (is_manager p)) ask is here);
          }
      | inr later ↦
          let found = entered device (number + 1) ports ask is later in
          let at : number + 1 + found.place ≡ number + suc found.place = omega arith in
          record {
            place = suc found.place;
            port = found.port;
            there = found.there;
            lies = subst (λ (n : ℕ). LiesIn (enters_by n found.port) ask) at found.lies;
          }
    ]

own_claims_none : (device number : ℕ) (ports : List ConfiguredPort) (ask : Ask) → IsFor operations.Claim ask
    → LiesInOne (own_shapes Three device number ports) ask → ⊥
own_claims_none device number [] ask is lies = lies
own_claims_none device number (p ∷ ports) ask is lies =
    elim (split_one (shapes_within Three device (own Three number p.network (is_manager p))) (own_shapes Three device (number + 1) ports) ask lies) [
      | inl here ↦ own_claim_none device (own Three number p.network (is_manager p)) ask is here
      | inr later ↦ own_claims_none device (number + 1) ports ask is later
    ]

-- ---- from other networks

-- what lies in the shapes of other networks, of asks to claim
record Claimed (device : ℕ) (ports : List ConfiguredPort) (ask : Ask) : Type 0 where
  side : Side
  is_gap : IsOne side (gaps device ports)
  way : Entrance
  is_way : IsOne way (entrances ports)
  lies : LiesInOne (shapes_by Three device side way) ask

beyond : (device : ℕ) (ports : List ConfiguredPort) (ask : Ask)
    → LiesInOne (flat_map (foreign_shapes Three device (entrances ports)) (gaps device ports)) ask → Claimed device ports ask
beyond device ports ask lies =
    let by_side = among (foreign_shapes Three device (entrances ports)) (gaps device ports) ask lies in
    let by_way = among (shapes_by Three device by_side.item) (entrances ports) ask by_side.lies in
    record { side = by_side.item; is_gap = by_side.one; way = by_way.item; is_way = by_way.one; lies = by_way.lies }

beyond_claim : (device : ℕ) (side : Side) (way : Entrance) (ask : Ask) → IsFor operations.Claim ask → LiesInOne (shapes_by Three device side way) ask
    → LiesIn (plain (foreign Three way side) operations.Claim nothing) ask
beyond_claim device side way ask is lies =
    let from = foreign Three way side in
    elim (split_one (claim_shapes Three from) (shapes_from Three device from) ask lies) [
      | inl claim ↦ elim claim [
        | inl here ↦ here
        | inr never ↦ absurd never
      ]
      | inr others ↦ absurd (others_alone (shapes_from Three device from) ask 13 (from_other device from) (omega arith) is others)
    ]

beyond_enter_none : (device : ℕ) (side : Side) (way : Entrance) (ask : Ask) → IsFor operations.Enter ask → LiesInOne (shapes_by Three device side way) ask → ⊥
beyond_enter_none device side way ask is lies =
    let from = foreign Three way side in
    elim (split_one (claim_shapes Three from) (shapes_from Three device from) ask lies) [
      | inl claim ↦ elim claim [
        | inl here ↦ let same = same_number 13 12 ask (here fields.Operation) is in absurd (omega (arith, same))
        | inr never ↦ never
      ]
      | inr others ↦ others_alone (shapes_from Three device from) ask 12 (from_other device from) (omega arith) is others
    ]

-- ---- the sides of other networks are of networks

record IsNet (side : Side) : Type 0 where
  absent : side.absent ≡ false
  low : 1 ≤ side.range.low
  high : side.range.high ≤ 65534

abbrev AreNets : List Side → Type 0
AreNets [] = Unit {0}
AreNets (side ∷ sides) = IsNet side × AreNets sides

nets_both : (xs ys : List Side) → AreNets xs → AreNets ys → AreNets (xs ++ ys)
nets_both [] ys first second = second
nets_both (x ∷ xs) ys first second = (first.0, nets_both xs ys first.1 second)

split_nets : (hole : ℕ) (side : Side) → IsNet side → AreNets (split hole side)
split_nets hole side is = by (holds hole side.range) refl
  where
    under : (b : Bool) → nat_lt side.range.low hole ≡ b → hole ≤ side.range.high
        → AreNets (option_to_list (if b then Some (numbers side.range.low (hole - 1)) else None))
    under true e within =
        let small = is.high in
        (record { absent = refl; low = is.low; high = omega (arith, within, small) }, tt)
    under false e within = tt

    over : (b : Bool) → nat_lt hole side.range.high ≡ b
        → AreNets (option_to_list (if b then Some (numbers (hole + 1) side.range.high) else None))
    over true e = (record { absent = refl; low = omega arith; high = is.high }, tt)
    over false e = tt

    by : (b : Bool) → holds hole side.range ≡ b
        → AreNets (if b then option_to_list (below side (only hole)) ++ option_to_list (above side (only hole)) else side ∷ [])
    by true e =
        let both = and_parts (nat_le side.range.low hole) (nat_le hole side.range.high) e in
        let within = leb-true hole side.range.high both.1 in
        nets_both (option_to_list (below side (only hole))) (option_to_list (above side (only hole)))
        (under (nat_lt side.range.low hole) refl within) (over (nat_lt hole side.range.high) refl)
    by false e = (is, tt)

split_all_nets : (hole : ℕ) (sides : List Side) → AreNets sides → AreNets (flat_map (split hole) sides)
split_all_nets hole [] are = tt
split_all_nets hole (side ∷ sides) are =
    nets_both (split hole side) (flat_map (split hole) sides) (split_nets hole side are.0) (split_all_nets hole sides are.1)

between_nets : (sides : List Side) (ports : List ConfiguredPort) → AreNets sides → AreNets (gaps_between sides ports)
between_nets sides [] are = are
between_nets sides (p ∷ ports) are = between_nets (flat_map (split p.network) sides) ports (split_all_nets p.network sides are)

gaps_nets : (device : ℕ) (ports : List ConfiguredPort) → AreNets (gaps device ports)
gaps_nets device ports =
    between_nets (flat_map (split device) (network ∷ [])) ports
    (split_all_nets device (network ∷ []) (record { absent = refl; low = omega arith; high = omega arith }, tt))

net_of : (side : Side) (sides : List Side) → IsOne side sides → AreNets sides → IsNet side
net_of side [] one are = absurd one
net_of side (x ∷ xs) (inl is) are = subst IsNet (sym is) are.0
net_of side (x ∷ xs) (inr later) are = net_of side xs later are.1

net_within : (side : Side) (value : Option ℕ) → IsNet side → IsWithin side value → IsWithin network value
net_within side None is within = let bad : false ≡ true = subst IsTrue is.absent within in absurd cc
net_within side (Some n) is within =
    let low = is.low in
    let high = is.high in
    let from = (in_range side n within).0 in
    let to = (in_range side n within).1 in
    (omega (arith, low, from), omega (arith, high, to))

-- ---- the ways by which they come are ports

record IsWay (ports : ℕ) (way : Entrance) : Type 0 where
  absent : way.port.absent ≡ false
  low : 1 ≤ way.port.range.low
  high : way.port.range.high ≤ ports

way_from : (number most : ℕ) (ports : List ConfiguredPort) (way : Entrance) → 1 ≤ number → number + length ports ≤ most + 1
    → IsOne way (entrances_from number ports) → IsWay most way
way_from number most [] way low high one = absurd one
way_from number most (p ∷ ports) way low high (inl is) =
    subst (IsWay most) (sym is) (record { absent = refl; low = low; high = omega (arith, high) })
way_from number most (p ∷ ports) way low high (inr later) = way_from (number + 1) most ports way (omega arith) (omega (arith, high)) later

way_of : (ports : List ConfiguredPort) (way : Entrance) → IsOne way (entrances ports) → IsWay (length ports) way
way_of ports way one = by (list_all is_manager ports) one
  where
    by : (b : Bool) → IsOne way (if b then any_entrance ports ∷ [] else entrances_from 1 ports) → IsWay (length ports) way
    by true (inl is) = subst (IsWay (length ports)) (sym is) (record { absent = refl; low = omega arith; high = omega arith })
    by true (inr never) = absurd never
    by false later = way_from 1 (length ports) ports way (omega arith) (omega arith) later

way_within : (ports : ℕ) (way : Entrance) (value : Option ℕ) → IsWay ports way → IsWithin way.port value → IsWithin (numbers 1 ports) value
way_within ports way None is within = let bad : false ≡ true = subst IsTrue is.absent within in absurd cc
way_within ports way (Some n) is within =
    let low = is.low in
    let high = is.high in
    let from = (in_range way.port n within).0 in
    let to = (in_range way.port n within).1 in
    (omega (arith, low, from), omega (arith, high, to))

-- ---- the laws

in_entering : (c : Configuration) (number : ℕ) (port : ConfiguredPort) (ask : Ask) → HasPort c number port
    → EntersBy number ask → Entered 1 c.ports ask → LiesIn (entering number port.network) ask
in_entering c number port ask there by found =
    let at : IsWithin (only (1 + found.place)) (Some number) = subst (IsWithin (only (1 + found.place))) by.by (found.lies fields.Port) in
    let low = at.0 in
    let high = at.1 in
    let same : 1 + found.place ≡ number = omega (arith, low, high) in
    let place : found.place ≡ number - 1 = omega (arith, same) in
    let some : Some found.port ≡ Some port = sym found.there ∙ ap (slice_get c.ports) place ∙ there in
    let is : found.port ≡ port = one_port found.port port some in
    let lies : LiesIn (enters_by number found.port) ask = subst (λ (n : ℕ). LiesIn (enters_by n found.port) ask) same found.lies in
    subst (λ (p : ConfiguredPort). LiesIn (entering number p.network) ask) is lies
  where
    one_port : (x y : ConfiguredPort) → Some x ≡ Some y → x ≡ y
    one_port x y e = cc

enter_lies : (c : Configuration) (number : ℕ) (port : ConfiguredPort) (ask : Ask) → HasPort c number port → EntersBy number ask
    → LiesInOne (shapes_of Three c.device.network c.ports) ask → LiesIn (entering number port.network) ask
enter_lies c number port ask there by lies =
    elim (split_one (own_shapes Three c.device.network 1 c.ports) (flat_map (foreign_shapes Three c.device.network (entrances c.ports)) (gaps c.device.network c.ports)) ask lies) [
      | inl near ↦ in_entering c number port ask there by (entered c.device.network 1 c.ports ask by.enters near)
      | inr far ↦
          let found = beyond c.device.network c.ports ask far in
          absurd (beyond_enter_none c.device.network found.side found.way ask by.enters found.lies)
    ]

claim_lies : (c : Configuration) (ask : Ask) → IsFor operations.Claim ask
    → LiesInOne (shapes_of Three c.device.network c.ports) ask → LiesIn (claiming (length c.ports)) ask
claim_lies c ask is lies =
    elim (split_one (own_shapes Three c.device.network 1 c.ports) (flat_map (foreign_shapes Three c.device.network (entrances c.ports)) (gaps c.device.network c.ports)) ask lies) [
      | inl near ↦ absurd (own_claims_none c.device.network 1 c.ports ask is near)
      | inr far ↦
          let found = beyond c.device.network c.ports ask far in
          let here = beyond_claim c.device.network found.side found.way ask is found.lies in
          let net = net_of found.side (gaps c.device.network c.ports) found.is_gap (gaps_nets c.device.network c.ports) in
          let way = way_of c.ports found.way found.is_way in
          lies_by (claiming (length c.ports)) ask (here fields.Operation)
          (way_within (length c.ports) found.way ask.port way (here fields.Port))
          (net_within found.side ask.source_network net (here fields.SourceNetwork))
          (here fields.SourceKey) (here fields.DestinationNetwork) (here fields.Service) (here fields.ObjectType) (here fields.Instance)
          (here fields.Property) (here fields.Priority) (here fields.Sender) (here fields.Station)
    ]

in_three : (c : Configuration) (ask : Ask) → c.format ≡ Three → LiesInOne (shapes c) ask → LiesInOne (shapes_of Three c.device.network c.ports) ask
in_three c ask three lies = subst (λ (format : Format). LiesInOne (shapes_of format c.device.network c.ports) ask) three lies

pub strangers_are_asked : StrangersAreAsked
strangers_are_asked c number port three counted there numbered w under e carried =
    each_weaker (LiesInOne (shapes c)) (λ ask. EntersBy number ask → LiesIn (entering number port.network) ask)
    (λ ask lies by. enter_lies c number port ask there by (in_three c ask three lies)) (asks w e) (asks_lie_in_shapes c numbered w under e carried)

pub no_stranger_enters : NoStrangerEnters
no_stranger_enters c number port three counted there none numbered w under e carried =
    each_weaker (LiesInOne (shapes c)) (λ ask. EntersBy number ask → allows c.rules ask ≡ false)
    (λ ask lies by. no_ask_is_allowed (entering number port.network) c.rules ask none
    (enter_lies c number port ask there by (in_three c ask three lies))) (asks w e) (asks_lie_in_shapes c numbered w under e carried)

pub every_stranger_enters : EveryStrangerEnters
every_stranger_enters c number port by rule three counted there has may all numbered w under e carried =
    each_weaker (LiesInOne (shapes c)) (λ ask. EntersBy number ask → allows c.rules ask ≡ true)
    (λ ask lies enters. (each_ask_is_allowed (entering number port.network) c.rules by rule ask has may all
    (enter_lies c number port ask there enters (in_three c ask three lies))).1) (asks w e) (asks_lie_in_shapes c numbered w under e carried)

pub claims_are_asked : ClaimsAreAsked
claims_are_asked c three numbered w under e carried =
    each_weaker (LiesInOne (shapes c)) (λ ask. IsFor operations.Claim ask → LiesIn (claiming (length c.ports)) ask)
    (λ ask lies is. claim_lies c ask is (in_three c ask three lies)) (asks w e) (asks_lie_in_shapes c numbered w under e carried)

pub nobody_claims : NobodyClaims
nobody_claims c three none numbered w under e carried =
    each_weaker (LiesInOne (shapes c)) (λ ask. IsFor operations.Claim ask → allows c.rules ask ≡ false)
    (λ ask lies is. no_ask_is_allowed (claiming (length c.ports)) c.rules ask none (claim_lies c ask is (in_three c ask three lies)))
    (asks w e) (asks_lie_in_shapes c numbered w under e carried)
