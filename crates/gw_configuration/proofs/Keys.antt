-- The keys of a subnet's addresses.
use Rattle.std.proofs.Common.{◌≡◌, ℕ, ◌+◌, ◌-◌, ◌*◌, ◌/◌, ◌%◌, ◌^◌, ◌<◌, ◌≤◌, ◌&&◌, Bool, true, false, List, [], ◌∷◌, ◌++◌, length, refl, sym, ap, subst, ◌∙◌, arith, nat_eq}
use Rattle.std.specs.Prelude.{nat_le}
use Rattle.std.specs.Int.{from_be_bytes, to_be_bytes, w16, w32}
use Rattle.std.proofs.Math.Nat.{lt_of_mul-lt-mul_left, mod-lt, mul_comm}
use Rattle.std.proofs.lemmas.Bool.{and_parts, eqb-true, eq-eqb, leb-true, le-leb}
use Rattle.std.proofs.lemmas.Nat.{div-add-mod', div-mul-add, mul-le, pow-add, pow_pos}
use Rattle.gw_addr.specs.Address.{IsAddress, big_endian, octets_of}
use Rattle.gw_addr.specs.declared.bip.BipAddr.{BipAddr}
use Rattle.gw_rules.specs.Range.{holds}
use Rattle.gw_configuration.specs.Subnet.{IsSubnet, Subnet, keys_of, size_of, subnet_holds}

same : (a b : Bool) → (a ≡ true → b ≡ true) → (b ≡ true → a ≡ true) → a ≡ b
same true b there back = sym (there refl)
same false true there back = back refl
same false false there back = refl

both : (a b : Bool) → a ≡ true → b ≡ true → (a && b) ≡ true
both true true e f = refl
both true false e f = f
both false b e f = e

-- the key of an address, by its IPv4 address and its port
key_parts : (ip : List ℕ) (udp : ℕ) → length ip ≡ 4 → udp < 2 ^ 16 → big_endian (ip ++ to_be_bytes w16 udp) ≡ from_be_bytes w32 ip * 65536 + udp
key_parts [] udp len small = absurd (omega arith)
key_parts (a ∷ []) udp len small = absurd (omega arith)
key_parts (a ∷ b ∷ []) udp len small = absurd (omega arith)
key_parts (a ∷ b ∷ c ∷ []) udp len small = absurd (omega arith)
key_parts (a ∷ b ∷ c ∷ d ∷ []) udp len small = omega arith
key_parts (a ∷ b ∷ c ∷ d ∷ e ∷ ip) udp len small = absurd (omega arith)

-- a number that is so many whole sizes
whole : (size n : ℕ) → n % size ≡ 0 → n ≡ n / size * size
whole size n zeros = omega (arith, div-add-mod' n size)

-- numbers of the same quotient are those from the first of it on, so many
quotient_to : (size n ip : ℕ) → 0 < size → n % size ≡ 0 → ip / size ≡ n / size → (n ≤ ip) × (ip < n + size)
quotient_to size n ip some zeros e =
    let first = whole size n zeros in
    let parts : n / size * size + ip % size ≡ ip = subst (λ q. q * size + ip % size ≡ ip) e (div-add-mod' ip size) in
    let small = mod-lt ip some in
    (omega arith, omega arith)

quotient_from : (size n ip : ℕ) → n % size ≡ 0 → n ≤ ip → ip < n + size → ip / size ≡ n / size
quotient_from size n ip zeros low high =
    let first = whole size n zeros in
    let parts : ip ≡ n / size * size + (ip - n) = omega arith in
    ap (λ k. k / size) parts ∙ div-mul-add (n / size) size (ip - n) (omega arith)

under : (size q p : ℕ) → q * size < p * size → q < p
under size q p h = lt_of_mul-lt-mul_left size (rw (mul_comm size q, mul_comm size p) h)

-- a subnet ends where the IPv4 addresses do, or before
pub ends : (s : Subnet) → IsSubnet s → s.network + size_of s.prefix ≤ 2 ^ 32
ends s is =
    let size = size_of s.prefix in
    let bits : 32 ≡ s.prefix + (32 - s.prefix) = omega (arith, is.short) in
    let parts : 2 ^ 32 ≡ 2 ^ s.prefix * size = ap (λ (k : ℕ). 2 ^ k) bits ∙ pow-add 2 s.prefix (32 - s.prefix) in
    let q = s.network / size in
    let first : s.network ≡ q * size = whole size s.network is.zeros in
    let within : q * size < 2 ^ s.prefix * size = subst (λ k. k < 2 ^ s.prefix * size) first (subst (λ k. s.network < k) parts is.network) in
    let below : q < 2 ^ s.prefix = under size q (2 ^ s.prefix) within in
    let fits : (q + 1) * size ≤ 2 ^ s.prefix * size = mul-le (q + 1) size (2 ^ s.prefix) size (omega arith) (omega arith) in
    omega arith

pub last_key : (network prefix : ℕ) → prefix ≤ 32 → network < 2 ^ 32 → network % size_of prefix ≡ 0 → (network + size_of prefix) * 65536 - 1 < 2 ^ 48
last_key network prefix short below zeros =
    let fits = ends (record { network = network; prefix = prefix }) (record { short = short; network = below; zeros = zeros }) in
    omega arith

pub holds_key : (s : Subnet) (a : BipAddr) → IsSubnet s → IsAddress a → subnet_holds s a ≡ holds (big_endian (octets_of a)) (keys_of s)
unfolding subnet_holds
holds_key s a is_s is_a =
    let size = size_of s.prefix in
    let some : 0 < size = pow_pos (32 - s.prefix) in
    let ip = from_be_bytes w32 a.ip in
    let key = big_endian (octets_of a) in
    let parts : key ≡ ip * 65536 + a.udp = key_parts a.ip a.udp is_a.four is_a.udp in
    let udp = is_a.udp in
    same (nat_eq (ip / size) (s.network / size)) (nat_le (s.network * 65536) key && nat_le key ((s.network + size) * 65536 - 1))
    (λ e. let h = quotient_to size s.network ip some is_s.zeros (eqb-true (ip / size) (s.network / size) e) in
    let low = h.0 in
    let high = h.1 in
    both (nat_le (s.network * 65536) key) (nat_le key ((s.network + size) * 65536 - 1)) (le-leb _ _ (omega arith)) (le-leb _ _ (omega arith)))
    (λ e. let p = and_parts (nat_le (s.network * 65536) key) (nat_le key ((s.network + size) * 65536 - 1)) e in
    let low : s.network * 65536 ≤ key = leb-true _ _ p.0 in
    let high : key ≤ (s.network + size) * 65536 - 1 = leb-true _ _ p.1 in
    eq-eqb _ _ (quotient_from size s.network ip is_s.zeros (omega arith) (omega arith)))
