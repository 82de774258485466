-- Subnets are read exactly as they are written.
use Rattle.std.proofs.Common.{◌≡◌, ℕ, ◌+◌, ◌-◌, ◌*◌, ◌/◌, ◌%◌, ◌^◌, ◌<◌, ◌≤◌, ◌&&◌, Bool, true, false, cond, List, [], ◌∷◌, ◌++◌, length, get_or, Option, Some, None, Bor, refl, sym, ap, ◌∙◌, arith, nat_eq}
use Rattle.std.specs.Prelude.{nat_le, MatchOption}
use Rattle.std.specs.Char.{IsAsciiDigit}
use Rattle.std.specs.Fmt.{decimal}
use Rattle.std.specs.Int.{from_be_bytes, to_be_bytes, w32}
use Rattle.std.specs.Option.{option_and_then}
use Rattle.std.proofs.lemmas.Bool.{and_parts, eq-eqb, ne_eqb, leb-false, leb-true, le-leb}
use Rattle.std.proofs.lemmas.Fmt.{decimal_digit}
use Rattle.std.proofs.lemmas.Option.{cond_some}
use Rattle.std.proofs.lemmas.Str.Pattern.{IsSplitOnceResult, split_after}
use Rattle.gw_addr.proofs.Lacking.{lacks_append, lacks_cons, not_in_decimal}
use Rattle.gw_addr.proofs.Reading.{wide32}
use Rattle.gw_addr.proofs.Written.{two_digits}
use Rattle.gw_addr.specs.declared.mask.Mask.{Mask}
use Rattle.gw_addr.specs.Mask.{IsMask, mask_text}
use Rattle.gw_addr.specs.Reading.{AreOctets}
use Rattle.gw_addr.specs.Text.{Lacks, four_text}
use Rattle.gw_configuration.specs.Subnet.{IsSubnet, Subnet, size_of, subnet_of, subnet_text}
use Rattle.gw_configuration.specs.internal.Prefix.{digit_of, prefix_of, two_digits_of}

-- digits

digit_found : (octet n : ℕ) → digit_of octet ≡ Some n → (octet ≡ 48 + n) × (n < 10)
digit_found octet n e =
    let c = cond_some (nat_le 48 octet && nat_le octet 57) (octet - 48) n e in
    let p = and_parts (nat_le 48 octet) (nat_le octet 57) c.0 in
    let low : 48 ≤ octet = leb-true 48 octet p.0 in
    let high : octet ≤ 57 = leb-true octet 57 p.1 in
    let is : octet - 48 ≡ n = c.1 in
    (omega arith, omega arith)

digit_again : (n : ℕ) → n < 10 → digit_of (48 + n) ≡ Some n
digit_again n small =
    let low : nat_le 48 (48 + n) ≡ true = le-leb 48 (48 + n) (omega arith) in
    let high : nat_le (48 + n) 57 ≡ true = le-leb (48 + n) 57 (omega arith) in
    let is : 48 + n - 48 ≡ n = omega arith in
    rw (low, high) (ap (λ (k : ℕ). Some k) is)

pub prefix_found : (text : List ℕ) (n : ℕ) → prefix_of text ≡ Some n → text ≡ decimal n
prefix_found [] n e = absurd cc
prefix_found (d ∷ []) n e =
    let f = digit_found d n e in
    ap (λ (k : ℕ). k ∷ []) f.0 ∙ sym (decimal_digit n f.1)
prefix_found (t ∷ d ∷ []) n e = on (digit_of t) refl (digit_of d) refl e
  where
    tens : (a b : ℕ) (z : Bool) → t ≡ 48 + a → d ≡ 48 + b → a < 10 → b < 10 → nat_eq a 0 ≡ z → cond z None (Some (10 * a + b)) ≡ Some n → t ∷ d ∷ [] ≡ decimal n
    tens a b true et ed sa sb z h = absurd cc
    tens a b false et ed sa sb z h =
        let is : 10 * a + b ≡ n = cc in
        let some : a ≡ 0 → ⊥ = λ e. absurd (cc (z, eq-eqb a 0 e)) in
        let shown = two_digits n (omega (arith, some)) (omega arith) in
        let first : 48 + n / 10 ≡ t = omega arith in
        let second : 48 + n % 10 ≡ d = omega arith in
        sym (shown ∙ rw (first, second) refl)

    on : (x : Option ℕ) → digit_of t ≡ x → (y : Option ℕ) → digit_of d ≡ y → option_and_then (λ a. option_and_then (two_digits_of a) y) x ≡ Some n → t ∷ d ∷ [] ≡ decimal n
    on None ex y ey h = absurd cc
    on (Some a) ex None ey h = absurd cc
    on (Some a) ex (Some b) ey h =
        let f = digit_found t a ex in
        let g = digit_found d b ey in
        tens a b (nat_eq a 0) f.0 g.0 f.1 g.1 refl h
prefix_found (t ∷ d ∷ x ∷ text) n e = absurd cc

-- the number below 10, or of two digits
pub prefix_again : (n : ℕ) → n < 100 → prefix_of (decimal n) ≡ Some n
prefix_again n small = on (nat_le n 9) refl
  where
    on : (b : Bool) → nat_le n 9 ≡ b → prefix_of (decimal n) ≡ Some n
    on true e =
        let few : n < 10 = omega (arith, leb-true n 9 e) in
        ap prefix_of (decimal_digit n few) ∙ digit_again n few
    on false e =
        let many : 10 ≤ n = omega (arith, leb-false n 9 e) in
        let first = digit_again (n / 10) (omega arith) in
        let second = digit_again (n % 10) (omega arith) in
        let some : nat_eq (n / 10) 0 ≡ false = ne_eqb (n / 10) 0 (omega arith) in
        let is : 10 * (n / 10) + n % 10 ≡ n = omega arith in
        ap prefix_of (two_digits n many small) ∙ rw (first, second, some) (ap (λ (k : ℕ). Some k) is)

-- the text before the slash

slash : ¬ (IsAsciiDigit 47)
slash h = absurd (omega arith)

part_lacks : (n : ℕ) (rest : List ℕ) → n < 2 ^ 64 → Lacks 47 rest → Lacks 47 (decimal n ++ 46 ∷ rest)
part_lacks n rest small lacks = lacks_append 47 (decimal n) (46 ∷ rest) (not_in_decimal n 47 small slash) (lacks_cons 47 46 rest (λ e. absurd cc) lacks)

pub mask_lacks : (m : Mask) → IsMask m → Lacks 47 (mask_text m)
unfolding four_text
mask_lacks m is =
    let small : (i : ℕ) → get_or m.octets i 0 < 2 ^ 64 = λ i. omega (arith, is.octets i) in
    let fourth = not_in_decimal (get_or m.octets 3 0) 47 (small 3) slash in
    let third = part_lacks (get_or m.octets 2 0) (decimal (get_or m.octets 3 0)) (small 2) fourth in
    let second = part_lacks (get_or m.octets 1 0) (decimal (get_or m.octets 2 0) ++ 46 ∷ decimal (get_or m.octets 3 0)) (small 1) third in
    part_lacks (get_or m.octets 0 0) (decimal (get_or m.octets 1 0) ++ 46 ∷ (decimal (get_or m.octets 2 0) ++ 46 ∷ decimal (get_or m.octets 3 0))) (small 0) second

-- what comes before the first slash of a subnet's text, and after it
pub halves : (text : List ℕ) (r : Option (Bor (List ℕ) × Bor (List ℕ))) → IsSplitOnceResult 47 text r → (m : Mask) (n : ℕ) → IsMask m → text ≡ mask_text m ++ 47 ∷ decimal n
    → MatchOption r ⊥ (λ x. (x.0.now ≡ mask_text m) × (x.1.now ≡ decimal n))
halves text r split m n is e = split_after 47 text (mask_text m) (decimal n) r split (omega arith) e (mask_lacks m is)

-- subnets

abbrev pub network_mask : Subnet → Mask
network_mask s = record { octets = to_be_bytes w32 s.network }

pub is_network_mask : (s : Subnet) → IsMask (network_mask s)
is_network_mask s = record { four = wide32.len s.network; octets = wide32.octets s.network }

pub subnet_again : (s : Subnet) → IsSubnet s → subnet_of (to_be_bytes w32 s.network) s.prefix ≡ Some s
subnet_again s is =
    let same = wide32.again s.network is.network in
    let short : nat_le s.prefix 32 ≡ true = le-leb s.prefix 32 is.short in
    let zeros : nat_eq (s.network % size_of s.prefix) 0 ≡ true = eq-eqb _ 0 is.zeros in
    rw (same, short, zeros) refl

pub subnet_found : (octets : List ℕ) (prefix : ℕ) (s : Subnet) → length octets ≡ 4 → AreOctets octets → subnet_of octets prefix ≡ Some s → four_text octets ++ 47 ∷ decimal prefix ≡ subnet_text s
subnet_found octets prefix s four fits e =
    let network = from_be_bytes w32 octets in
    let c = cond_some (nat_le prefix 32 && nat_eq (network % size_of prefix) 0) (record { network = network; prefix = prefix }) s e in
    let back = wide32.back octets four fits in
    let first : network ≡ s.network = ap (λ (t : Subnet). t.network) c.1 in
    let second : prefix ≡ s.prefix = ap (λ (t : Subnet). t.prefix) c.1 in
    rw (← first, ← second, back) refl
