-- An address is the four octets and the port that it is made of, and is one to one with its octets, its key and its text.
use Rattle.std.proofs.Common.{◌≡◌, ℕ, ◌+◌, ◌*◌, ◌^◌, ◌<◌, ◌≤◌, List, [], ◌∷◌, ◌++◌, length, get_or, take, drop, false, ltb, Result, Ok, refl, sym, ap, ap₂, ◌∙◌, append_assoc, append-nil, arith}
use Rattle.std.proofs.Math.Seq.{take-add}
use Rattle.std.proofs.lemmas.Bool.{ltb-false, le-ltb}
use Rattle.std.proofs.lemmas.List.{take_at, drop_at, drop-take, take-take, take-append-drop, length-append, length-take, length-drop}
use Rattle.std.proofs.lemmas.Fmt.{decimal_injective}
use Rattle.std.specs.Char.{IsAsciiDigit}
use Rattle.std.specs.Fmt.{decimal}
use Rattle.std.specs.Int.{w16, from_be_bytes, to_be_bytes}
use Rattle.gw_addr.specs.declared.bip.BipAddr.{BipAddr}
use Rattle.gw_addr.specs.declared.fault.OctetsFault.{OctetsFault}
use Rattle.gw_addr.specs.Address.{IsAddress, octets_of, address_of, address_in, address_at, big_endian, text_of}
use Rattle.gw_addr.specs.Reading.{AreOctets, Takes}
use Rattle.gw_addr.proofs.Reading.{AreOctets-take, AreOctets-drop, AreOctets-append, guard_ok, wide16, ok_is}
use Rattle.gw_addr.proofs.Lacking.{same_split, not_in_decimal}

four_items : (xs : List ℕ) → length xs ≡ 4 → get_or xs 0 0 ∷ get_or xs 1 0 ∷ get_or xs 2 0 ∷ get_or xs 3 0 ∷ [] ≡ xs
four_items [] e = absurd (omega arith)
four_items (a ∷ []) e = absurd (omega arith)
four_items (a ∷ b ∷ []) e = absurd (omega arith)
four_items (a ∷ b ∷ c ∷ []) e = absurd (omega arith)
four_items (a ∷ b ∷ c ∷ d ∷ []) e = refl
four_items (a ∷ b ∷ c ∷ d ∷ f ∷ xs) e = absurd (omega arith)

-- the address of those octets and that port
abbrev address : List ℕ → ℕ → BipAddr
address ip udp = record { ip = ip; udp = udp }

pub address_of_parts : (a : BipAddr) → IsAddress a → (w x y z udp : ℕ) → w ≡ get_or a.ip 0 0 → x ≡ get_or a.ip 1 0 → y ≡ get_or a.ip 2 0 → z ≡ get_or a.ip 3 0 → udp ≡ a.udp → record { ip = w ∷ x ∷ y ∷ z ∷ []; udp = udp } ≡ a
address_of_parts a is w x y z udp e0 e1 e2 e3 e4 =
    let items : w ∷ x ∷ y ∷ z ∷ [] ≡ a.ip = rw (e0, e1, e2, e3) (four_items a.ip is.four) in
    ap (λ (ip : List ℕ). address ip udp) items ∙ ap (λ (u : ℕ). address a.ip u) e4

-- a list of six is its cells
of_six : (P : List ℕ → Type 0) → ((a b c d e f : ℕ) → P (a ∷ b ∷ c ∷ d ∷ e ∷ f ∷ [])) → (six : List ℕ) → length six ≡ 6 → P six
of_six P each [] len = absurd (omega arith)
of_six P each (a ∷ []) len = absurd (omega arith)
of_six P each (a ∷ b ∷ []) len = absurd (omega arith)
of_six P each (a ∷ b ∷ c ∷ []) len = absurd (omega arith)
of_six P each (a ∷ b ∷ c ∷ d ∷ []) len = absurd (omega arith)
of_six P each (a ∷ b ∷ c ∷ d ∷ e ∷ []) len = absurd (omega arith)
of_six P each (a ∷ b ∷ c ∷ d ∷ e ∷ f ∷ []) len = each a b c d e f
of_six P each (a ∷ b ∷ c ∷ d ∷ e ∷ f ∷ g ∷ rest) len = absurd (omega arith)

-- six octets in their order
pub six_items : (six : List ℕ) → length six ≡ 6 → get_or six 0 0 ∷ get_or six 1 0 ∷ get_or six 2 0 ∷ get_or six 3 0 ∷ get_or six 4 0 ∷ get_or six 5 0 ∷ [] ≡ six
six_items six len =
    of_six (λ (s : List ℕ). get_or s 0 0 ∷ get_or s 1 0 ∷ get_or s 2 0 ∷ get_or s 3 0 ∷ get_or s 4 0 ∷ get_or s 5 0 ∷ [] ≡ s) (λ a b c d e f. refl) six len

-- ---- addresses and their octets

pub length-address : (a : BipAddr) → IsAddress a → length (octets_of a) ≡ 6
length-address a is = omega (arith, length-append a.ip (to_be_bytes w16 a.udp), is.four, wide16.len a.udp)

-- what octets read as is an address
pub address_in-fits : (octets : List ℕ) → 6 ≤ length octets → AreOctets octets → IsAddress (address_in octets)
address_in-fits octets long fits = record {
  four = omega (arith, length-take 4 octets);
  octets = AreOctets-take 4 octets fits;
  udp = wide16.below (take 2 (drop 4 octets)) (AreOctets-take 2 (drop 4 octets) (AreOctets-drop 4 octets fits));
}

-- only the first six octets count
pub address_in-take : (octets : List ℕ) → address_in (take 6 octets) ≡ address_in octets
address_in-take octets =
    let ip : take 4 (take 6 octets) ≡ take 4 octets = take-take 4 6 octets (omega arith) in
    let two : take 2 (drop 4 (take 6 octets)) ≡ take 2 (drop 4 octets) = ap (take 2) (drop-take 4 2 octets) ∙ take-take 2 2 (drop 4 octets) (omega arith) in
    ap₂ address ip (ap (from_be_bytes w16) two)

-- and has those octets
pub address_in-back : (octets : List ℕ) → 6 ≤ length octets → AreOctets octets → octets_of (address_in octets) ≡ take 6 octets
address_in-back octets long fits =
    let two = take 2 (drop 4 octets) in
    let len : length two ≡ 2 = omega (arith, length-take 2 (drop 4 octets), length-drop 4 octets) in
    let port : to_be_bytes w16 (from_be_bytes w16 two) ≡ two = wide16.back two len (AreOctets-take 2 (drop 4 octets) (AreOctets-drop 4 octets fits)) in
    ap (λ (t : List ℕ). take 4 octets ++ t) port ∙ sym (take-add 4 2 octets)

-- an address is read again from its octets, whatever follows them
pub address_in-again : (a : BipAddr) (rest : List ℕ) → IsAddress a → address_in (octets_of a ++ rest) ≡ a
address_in-again a rest is =
    let port = to_be_bytes w16 a.udp in
    let whole : octets_of a ++ rest ≡ a.ip ++ (port ++ rest) = append_assoc a.ip port rest in
    let ip : take 4 (octets_of a ++ rest) ≡ a.ip = ap (take 4) whole ∙ take_at a.ip (port ++ rest) 4 is.four in
    let behind : drop 4 (octets_of a ++ rest) ≡ port ++ rest = ap (drop 4) whole ∙ drop_at a.ip (port ++ rest) 4 is.four in
    let two : take 2 (drop 4 (octets_of a ++ rest)) ≡ port = ap (take 2) behind ∙ take_at port rest 2 (wide16.len a.udp) in
    let udp : from_be_bytes w16 (take 2 (drop 4 (octets_of a ++ rest))) ≡ a.udp = ap (from_be_bytes w16) two ∙ wide16.again a.udp is.udp in
    ap₂ address ip udp

-- an address of no other octets
pub address_in-whole : (a : BipAddr) → IsAddress a → address_in (octets_of a) ≡ a
address_in-whole a is = ap address_in (sym (append-nil (octets_of a))) ∙ address_in-again a [] is

-- what follows the address in octets that begin with it
pub drop_address : (a : BipAddr) (rest : List ℕ) → IsAddress a → drop 6 (octets_of a ++ rest) ≡ rest
drop_address a rest is = drop_at (octets_of a) rest 6 (length-address a is)

-- the address of an address's octets
-- no fault
fine : BipAddr → Result BipAddr OctetsFault
fine a = Ok a

pub address_again_whole : (a : BipAddr) → IsAddress a → address_of (octets_of a) ≡ Ok a
unfolding fine
address_again_whole a is =
    let len = length-address a is in
    rw len (ap (λ (b : BipAddr). fine b) (address_in-whole a is))

pub same_octets : (a b : BipAddr) → IsAddress a → IsAddress b → octets_of a ≡ octets_of b → a ≡ b
same_octets a b is_a is_b e = ok_is {F = OctetsFault} a b (sym (address_again_whole a is_a) ∙ ap address_of e ∙ address_again_whole b is_b)

same_front : (c m n : ℕ) (x y : List ℕ) → m < 2 ^ 64 → n < 2 ^ 64 → ¬ (IsAsciiDigit c) → decimal m ++ c ∷ x ≡ decimal n ++ c ∷ y → (m ≡ n) × (x ≡ y)
same_front c m n x y small_m small_n other e =
    let parts = same_split c (decimal m) (decimal n) x y (not_in_decimal m c small_m other) (not_in_decimal n c small_n other) e in
    (decimal_injective m n small_m small_n parts.0, parts.1)

point : ¬ (IsAsciiDigit 46)
point h = absurd (omega arith)

colon : ¬ (IsAsciiDigit 58)
colon h = absurd (omega arith)

small_octet : (a : BipAddr) → IsAddress a → (i : ℕ) → get_or a.ip i 0 < 2 ^ 64
small_octet a is i = omega (arith, is.octets i)

-- what follows the first three octets
last_two : BipAddr → List ℕ
last_two a = decimal (get_or a.ip 3 0) ++ 58 ∷ decimal a.udp

second_on : BipAddr → List ℕ
second_on a = decimal (get_or a.ip 2 0) ++ 46 ∷ last_two a

pub same_texts : (a b : BipAddr) → IsAddress a → IsAddress b → text_of a ≡ text_of b → a ≡ b
unfolding last_two second_on
same_texts a b is_a is_b e =
    let p = same_front 46 (get_or a.ip 0 0) (get_or b.ip 0 0) (decimal (get_or a.ip 1 0) ++ 46 ∷ second_on a) (decimal (get_or b.ip 1 0) ++ 46 ∷ second_on b) (small_octet a is_a 0) (small_octet b is_b 0) point e in
    let q = same_front 46 (get_or a.ip 1 0) (get_or b.ip 1 0) (second_on a) (second_on b) (small_octet a is_a 1) (small_octet b is_b 1) point p.1 in
    let r = same_front 46 (get_or a.ip 2 0) (get_or b.ip 2 0) (last_two a) (last_two b) (small_octet a is_a 2) (small_octet b is_b 2) point q.1 in
    let s = same_front 58 (get_or a.ip 3 0) (get_or b.ip 3 0) (decimal a.udp) (decimal b.udp) (small_octet a is_a 3) (small_octet b is_b 3) colon r.1 in
    let udp = decimal_injective a.udp b.udp (omega (arith, is_a.udp)) (omega (arith, is_b.udp)) s.1 in
    sym (address_of_parts a is_a (get_or a.ip 0 0) (get_or a.ip 1 0) (get_or a.ip 2 0) (get_or a.ip 3 0) a.udp refl refl refl refl refl)
    ∙ address_of_parts b is_b (get_or a.ip 0 0) (get_or a.ip 1 0) (get_or a.ip 2 0) (get_or a.ip 3 0) a.udp p.0 q.0 r.0 s.0 udp

-- ---- reading an address from the front

pub address_takes : {F : Type 0} (short : F) (octets : List ℕ) (a : BipAddr) (rest : List ℕ) → AreOctets octets → address_at short octets ≡ Ok (a, rest) → Takes octets (octets_of a) rest × IsAddress a
address_takes short octets a rest fits e =
    let g = guard_ok (ltb (length octets) 6) short (address_in octets, drop 6 octets) (a, rest) e in
    let long : 6 ≤ length octets = ltb-false _ _ g.0 in
    let a-is : address_in octets ≡ a = ap (λ (p : BipAddr × List ℕ). p.0) g.1 in
    let rest-is : drop 6 octets ≡ rest = ap (λ (p : BipAddr × List ℕ). p.1) g.1 in
    let back = address_in-back octets long fits in
    (record { parts = rw (← a-is, back, ← rest-is) (sym (take-append-drop 6 octets)); rest_octets = rw (← rest-is) (AreOctets-drop 6 octets fits) }, rw (← a-is) (address_in-fits octets long fits))

pub address_again : {F : Type 0} (short : F) (a : BipAddr) (rest : List ℕ) → IsAddress a → address_at short (octets_of a ++ rest) ≡ Ok (a, rest)
address_again short a rest is =
    let long : ltb (length (octets_of a ++ rest)) 6 ≡ false = le-ltb _ _ (omega (arith, length-append (octets_of a) rest, length-address a is)) in
    rw (long, address_in-again a rest is, drop_address a rest is) refl

-- ---- keys

pub key_below : (six : List ℕ) → length six ≡ 6 → AreOctets six → big_endian six < 2 ^ 48
key_below six len fits =
    of_six (λ (s : List ℕ). AreOctets s → big_endian s < 2 ^ 48) (λ a b c d e f is. omega (arith, is 0, is 1, is 2, is 3, is 4, is 5)) six len fits

-- a place of a number, and what is below it
same_place : (m n x y : ℕ) → x < 2 ^ 40 → y < 2 ^ 40 → m * 2 ^ 40 + x ≡ n * 2 ^ 40 + y → (m ≡ n) × (x ≡ y)
same_place m n x y lt lt' e = (omega arith, omega arith)

-- two lists of six octets that are one number are the same
pub same_key : (xs ys : List ℕ) → length xs ≡ 6 → length ys ≡ 6 → AreOctets xs → AreOctets ys → big_endian xs ≡ big_endian ys → xs ≡ ys
same_key xs ys len len' fits fits' =
    of_six (λ (s : List ℕ). AreOctets s → big_endian s ≡ big_endian ys → s ≡ ys) (λ a b c d e f is.
    of_six (λ (t : List ℕ). AreOctets t → big_endian (a ∷ b ∷ c ∷ d ∷ e ∷ f ∷ []) ≡ big_endian t → a ∷ b ∷ c ∷ d ∷ e ∷ f ∷ [] ≡ t) (λ g h i j k l ist same.
    let e0 : a ≡ g = omega (arith, is 0, is 1, is 2, is 3, is 4, is 5, ist 0, ist 1, ist 2, ist 3, ist 4, ist 5) in
    let e1 : b ≡ h = omega (arith, is 0, is 1, is 2, is 3, is 4, is 5, ist 0, ist 1, ist 2, ist 3, ist 4, ist 5) in
    let e2 : c ≡ i = omega (arith, is 0, is 1, is 2, is 3, is 4, is 5, ist 0, ist 1, ist 2, ist 3, ist 4, ist 5) in
    let e3 : d ≡ j = omega (arith, is 0, is 1, is 2, is 3, is 4, is 5, ist 0, ist 1, ist 2, ist 3, ist 4, ist 5) in
    let e4 : e ≡ k = omega (arith, is 0, is 1, is 2, is 3, is 4, is 5, ist 0, ist 1, ist 2, ist 3, ist 4, ist 5) in
    let e5 : f ≡ l = omega (arith, is 0, is 1, is 2, is 3, is 4, is 5, ist 0, ist 1, ist 2, ist 3, ist 4, ist 5) in
    cc (e0, e1, e2, e3, e4, e5)) ys len' fits') xs len fits

pub octets_fit : (a : BipAddr) → IsAddress a → AreOctets (octets_of a)
octets_fit a is = AreOctets-append a.ip (to_be_bytes w16 a.udp) is.octets (wide16.octets a.udp)

pub same_keys : (a b : BipAddr) → IsAddress a → IsAddress b → big_endian (octets_of a) ≡ big_endian (octets_of b) → a ≡ b
same_keys a b is_a is_b e =
    same_octets a b is_a is_b (same_key (octets_of a) (octets_of b) (length-address a is_a) (length-address b is_b) (octets_fit a is_a) (octets_fit b is_b) e)

pub keys_below : (a : BipAddr) → IsAddress a → big_endian (octets_of a) < 2 ^ 48
keys_below a is = key_below (octets_of a) (length-address a is) (octets_fit a is)
