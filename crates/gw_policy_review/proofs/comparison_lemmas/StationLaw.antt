-- What is said of stations as subnets.
use Rattle.std.proofs.Common.{◌≡◌, ◌∙◌, sym, ap, refl, subst, Bool, true, false, ◌&&◌, ◌==◌, List, [], ◌∷◌, Option, Some, None, drop, nat_le}
use Rattle.std.specs.Prelude.{◌%◌, find, if◌then◌else◌, not}
use Rattle.std.specs.Int.{from_be_bytes, to_be_bytes, w32, w64}
use Rattle.std.specs.List.{list_any}
use Rattle.std.specs.Option.{option_map_or}
use Rattle.std.proofs.lemmas.Bool.{and_parts, both_ways, eqb-true, leb-true}
use Rattle.std.proofs.lemmas.Option.{cond_some}
use Rattle.gw_addr.proofs.Reading.{AreOctets-drop, AreOctets-take, wide32, wide64}
use Rattle.gw_configuration.specs.Subnet.{IsSubnet, Subnet, keys_of, size_of}
use Rattle.gw_rules.specs.Range.{holds}
use Rattle.gw_rules.specs.declared.range.Range.{Range}
use Rattle.gw_ask_sets.proofs.regions_lemmas.RangeLaw.{without_law}
use Rattle.gw_policy_review.specs.comparison.Laws.{RestIsMeant, SubnetIsRange}
use Rattle.gw_policy_review.specs.comparison.Words.{host_of, is_same_range, is_subnet, numbers_of, prefixes, rest_of, subnet_from}

-- ---- subnets

-- what is found passes the test
found : {A : Type 0} (test : A → Bool) (xs : List A) (x : A) → find test xs ≡ Some x → test x ≡ true
found test [] x e = absurd cc
found test (y ∷ ys) x e = by (test y) refl e (found test ys x)
  where
    by : (b : Bool) → test y ≡ b → find test (y ∷ ys) ≡ Some x → (find test ys ≡ Some x → test x ≡ true) → test x ≡ true
    by true t f later =
        let one : Some y ≡ Some x = sym (ap (λ c. if c then Some y else find test ys) t) ∙ f in
        let same : y ≡ x = cc in
        ap test (sym same) ∙ t
    by false t f later = later (sym (ap (λ c. if c then Some y else find test ys) t) ∙ f)

-- ranges of the same ends are one
one_range : (a b : Range) → is_same_range a b ≡ true → a ≡ b
one_range a b e =
    let parts = and_parts (a.low == b.low) (a.high == b.high) e in
    let low = eqb-true a.low b.low parts.0 in
    let high = eqb-true a.high b.high parts.1 in
    rw (low, high) refl

pub subnet_is_range : SubnetIsRange
subnet_is_range range prefix e = by (subnet_from range prefix) refl (found (is_subnet range) prefixes prefix e)
  where
    by : (o : Option Subnet) → subnet_from range prefix ≡ o → is_subnet range prefix ≡ true
        → (s : Subnet) × IsSubnet s × (s.prefix ≡ prefix) × (keys_of s ≡ range) × (subnet_from range prefix ≡ Some s)
    by None is there = absurd (both_ways false refl (sym (ap (λ (o : Option Subnet). option_map_or (λ s. is_same_range (keys_of s) range) o false) is) ∙ there))
    by (Some s) is there =
        let octets = host_of range.low in
        let network = from_be_bytes w32 octets in
        let c = cond_some (nat_le prefix 32 && (network % size_of prefix == 0)) (record { network = network; prefix = prefix }) s is in
        let p = and_parts (nat_le prefix 32) (network % size_of prefix == 0) c.0 in
        let fits = AreOctets-take 4 (drop 2 (to_be_bytes w64 range.low)) (AreOctets-drop 2 (to_be_bytes w64 range.low) (wide64.octets range.low)) in
        let good : IsSubnet (record { network = network; prefix = prefix }) =
        record { short = leb-true prefix 32 p.0; network = wide32.below octets fits; zeros = eqb-true _ 0 p.1 } in (
          s,
          subst IsSubnet c.1 good,
          sym (ap (λ (t : Subnet). t.prefix) c.1),
          one_range (keys_of s) range (sym (ap (λ (o : Option Subnet). option_map_or (λ s. is_same_range (keys_of s) range) o false) is) ∙ there),
          is,
        )

-- ---- the rest

pub rest_is_meant : RestIsMeant
rest_is_meant field values number may =
    turned (list_any (holds number) values.ranges) (list_any (holds number) (rest_of field values.ranges))
    (without_law number (numbers_of field) values.ranges ∙ ap (λ b. b && not (list_any (holds number) values.ranges)) may)
  where
    turned : (a b : Bool) → b ≡ not a → a ≡ not b
    turned true b e = sym (ap not e)
    turned false b e = sym (ap not e)
