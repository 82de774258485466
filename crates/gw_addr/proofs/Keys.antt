-- The keys of stations: their octets after how many there are.
use Rattle.std.proofs.Common.{◌≡◌, ℕ, zero, suc, nat_le, ◌+◌, ◌-◌, ◌*◌, ◌^◌, ◌<◌, ◌≤◌, ◌==◌, Bool, true, false, ◌&&◌, List, [], ◌∷◌, ◌++◌, length, take, drop, get_or, replicate, nat_eq, slice_index, slice_index_or, Option, Some, None, refl, sym, ap, ap₂, ◌∙◌, cond, arith}
use Rattle.std.proofs.lemmas.Bool.{eqb-true, le-leb, leb-true, lt-leb}
use Rattle.std.proofs.lemmas.Nat.{be_bytes_8, from_be_bytes-to_be_bytes_8}
use Rattle.std.specs.Int.{w64, from_be_bytes, to_be_bytes}
use Rattle.std.specs.List.{list_all}
use Rattle.gw_addr.specs.Address.{big_endian}
use Rattle.gw_addr.specs.Reading.{AreOctets}
use Rattle.gw_addr.specs.Station.{counted, key48, key_of, octets_keyed, station_at}
use Rattle.gw_addr.proofs.Addresses.{key_below}
use Rattle.gw_addr.proofs.Reading.{AreOctets-drop, both_true, wide64}

pub keyed_1 : (xs octets : List ℕ) → length xs ≡ 1 → octets ≡ 1 ∷ 0 ∷ 0 ∷ 0 ∷ 0 ∷ 0 ∷ 0 ∷ slice_index_or xs 0 0 ∷ [] → Some (from_be_bytes w64 octets) ≡ key_of xs
keyed_1 [] octets len is = absurd (omega arith)
keyed_1 (a ∷ []) octets len is = rw is (ap Some (omega arith))
keyed_1 (a ∷ b ∷ rest) octets len is = absurd (omega arith)

pub keyed_2 : (xs octets : List ℕ) → length xs ≡ 2 → octets ≡ 2 ∷ 0 ∷ 0 ∷ 0 ∷ 0 ∷ 0 ∷ slice_index_or xs 0 0 ∷ slice_index_or xs 1 0 ∷ [] → Some (from_be_bytes w64 octets) ≡ key_of xs
keyed_2 [] octets len is = absurd (omega arith)
keyed_2 (a ∷ []) octets len is = absurd (omega arith)
keyed_2 (a ∷ b ∷ []) octets len is = rw is (ap Some (omega arith))
keyed_2 (a ∷ b ∷ c ∷ rest) octets len is = absurd (omega arith)

pub keyed_3 : (xs octets : List ℕ) → length xs ≡ 3 → octets ≡ 3 ∷ 0 ∷ 0 ∷ 0 ∷ 0 ∷ slice_index_or xs 0 0 ∷ slice_index_or xs 1 0 ∷ slice_index_or xs 2 0 ∷ [] → Some (from_be_bytes w64 octets) ≡ key_of xs
keyed_3 [] octets len is = absurd (omega arith)
keyed_3 (a ∷ []) octets len is = absurd (omega arith)
keyed_3 (a ∷ b ∷ []) octets len is = absurd (omega arith)
keyed_3 (a ∷ b ∷ c ∷ []) octets len is = rw is (ap Some (omega arith))
keyed_3 (a ∷ b ∷ c ∷ d ∷ rest) octets len is = absurd (omega arith)

pub keyed_4 : (xs octets : List ℕ) → length xs ≡ 4 → octets ≡ 4 ∷ 0 ∷ 0 ∷ 0 ∷ slice_index_or xs 0 0 ∷ slice_index_or xs 1 0 ∷ slice_index_or xs 2 0 ∷ slice_index_or xs 3 0 ∷ [] → Some (from_be_bytes w64 octets) ≡ key_of xs
keyed_4 [] octets len is = absurd (omega arith)
keyed_4 (a ∷ []) octets len is = absurd (omega arith)
keyed_4 (a ∷ b ∷ []) octets len is = absurd (omega arith)
keyed_4 (a ∷ b ∷ c ∷ []) octets len is = absurd (omega arith)
keyed_4 (a ∷ b ∷ c ∷ d ∷ []) octets len is = rw is (ap Some (omega arith))
keyed_4 (a ∷ b ∷ c ∷ d ∷ e ∷ rest) octets len is = absurd (omega arith)

pub keyed_5 : (xs octets : List ℕ) → length xs ≡ 5 → octets ≡ 5 ∷ 0 ∷ 0 ∷ slice_index_or xs 0 0 ∷ slice_index_or xs 1 0 ∷ slice_index_or xs 2 0 ∷ slice_index_or xs 3 0 ∷ slice_index_or xs 4 0 ∷ [] → Some (from_be_bytes w64 octets) ≡ key_of xs
keyed_5 [] octets len is = absurd (omega arith)
keyed_5 (a ∷ []) octets len is = absurd (omega arith)
keyed_5 (a ∷ b ∷ []) octets len is = absurd (omega arith)
keyed_5 (a ∷ b ∷ c ∷ []) octets len is = absurd (omega arith)
keyed_5 (a ∷ b ∷ c ∷ d ∷ []) octets len is = absurd (omega arith)
keyed_5 (a ∷ b ∷ c ∷ d ∷ e ∷ []) octets len is = rw is (ap Some (omega arith))
keyed_5 (a ∷ b ∷ c ∷ d ∷ e ∷ f ∷ rest) octets len is = absurd (omega arith)

pub keyed_6 : (xs octets : List ℕ) → length xs ≡ 6 → octets ≡ 0 ∷ 0 ∷ slice_index_or xs 0 0 ∷ slice_index_or xs 1 0 ∷ slice_index_or xs 2 0 ∷ slice_index_or xs 3 0 ∷ slice_index_or xs 4 0 ∷ slice_index_or xs 5 0 ∷ [] → Some (from_be_bytes w64 octets) ≡ key_of xs
keyed_6 [] octets len is = absurd (omega arith)
keyed_6 (a ∷ []) octets len is = absurd (omega arith)
keyed_6 (a ∷ b ∷ []) octets len is = absurd (omega arith)
keyed_6 (a ∷ b ∷ c ∷ []) octets len is = absurd (omega arith)
keyed_6 (a ∷ b ∷ c ∷ d ∷ []) octets len is = absurd (omega arith)
keyed_6 (a ∷ b ∷ c ∷ d ∷ e ∷ []) octets len is = absurd (omega arith)
keyed_6 (a ∷ b ∷ c ∷ d ∷ e ∷ f ∷ []) octets len is = rw is (ap Some (omega arith))
keyed_6 (a ∷ b ∷ c ∷ d ∷ e ∷ f ∷ g ∷ rest) octets len is = absurd (omega arith)

pub keyed_7 : (xs octets : List ℕ) → length xs ≡ 7 → octets ≡ 7 ∷ slice_index_or xs 0 0 ∷ slice_index_or xs 1 0 ∷ slice_index_or xs 2 0 ∷ slice_index_or xs 3 0 ∷ slice_index_or xs 4 0 ∷ slice_index_or xs 5 0 ∷ slice_index_or xs 6 0 ∷ [] → Some (from_be_bytes w64 octets) ≡ key_of xs
keyed_7 [] octets len is = absurd (omega arith)
keyed_7 (a ∷ []) octets len is = absurd (omega arith)
keyed_7 (a ∷ b ∷ []) octets len is = absurd (omega arith)
keyed_7 (a ∷ b ∷ c ∷ []) octets len is = absurd (omega arith)
keyed_7 (a ∷ b ∷ c ∷ d ∷ []) octets len is = absurd (omega arith)
keyed_7 (a ∷ b ∷ c ∷ d ∷ e ∷ []) octets len is = absurd (omega arith)
keyed_7 (a ∷ b ∷ c ∷ d ∷ e ∷ f ∷ []) octets len is = absurd (omega arith)
keyed_7 (a ∷ b ∷ c ∷ d ∷ e ∷ f ∷ g ∷ []) octets len is = rw is (ap Some (omega arith))
keyed_7 (a ∷ b ∷ c ∷ d ∷ e ∷ f ∷ g ∷ h ∷ rest) octets len is = absurd (omega arith)

-- ---- each station has one key, and each key one station

AreOctets-zero : (octets : List ℕ) → AreOctets octets → AreOctets (0 ∷ octets)
AreOctets-zero octets fits zero = omega arith
AreOctets-zero octets fits (suc i) = fits i

AreOctets-count : (count : ℕ) (octets : List ℕ) → count < 256 → AreOctets octets → AreOctets (count ∷ octets)
AreOctets-count count octets lt fits zero = lt
AreOctets-count count octets lt fits (suc i) = fits i

-- what the eight octets of a key say
abbrev at : List ℕ → Option (List ℕ)
at full = octets_keyed (counted (slice_index full 0)) full

at_full : (key : ℕ) (full : List ℕ) → length full ≡ 8 → AreOctets full → from_be_bytes w64 full ≡ key → station_at key ≡ at full
at_full key full len fits is = ap at (be_bytes_8 full key len fits (sym is))

some_is : {A : Type 0} (x y : A) → Some x ≡ Some y → x ≡ y
some_is x y e = cc

no_key_above : (a b c d e f g h : ℕ) (rest : List ℕ) → key_of (a ∷ b ∷ c ∷ d ∷ e ∷ f ∷ g ∷ h ∷ rest) ≡ None
no_key_above a b c d e f g h rest =
    let some : nat_le 1 (length (a ∷ b ∷ c ∷ d ∷ e ∷ f ∷ g ∷ h ∷ rest)) ≡ true = le-leb _ _ (omega arith) in
    let short : nat_le (length (a ∷ b ∷ c ∷ d ∷ e ∷ f ∷ g ∷ h ∷ rest)) 7 ≡ false = lt-leb _ _ (omega arith) in
    rw (some, short) refl

pub station_of_key : (octets : List ℕ) (key : ℕ) → AreOctets octets → key_of octets ≡ Some key → station_at key ≡ Some octets
station_of_key [] key fits is = absurd cc
station_of_key (a ∷ []) key fits is =
    at_full key (1 ∷ 0 ∷ 0 ∷ 0 ∷ 0 ∷ 0 ∷ 0 ∷ a ∷ []) refl (AreOctets-count 1 (0 ∷ 0 ∷ 0 ∷ 0 ∷ 0 ∷ 0 ∷ a ∷ []) (omega arith) (AreOctets-zero (0 ∷ 0 ∷ 0 ∷ 0 ∷ 0 ∷ a ∷ []) (AreOctets-zero (0 ∷ 0 ∷ 0 ∷ 0 ∷ a ∷ []) (AreOctets-zero (0 ∷ 0 ∷ 0 ∷ a ∷ []) (AreOctets-zero (0 ∷ 0 ∷ a ∷ []) (AreOctets-zero (0 ∷ a ∷ []) (AreOctets-zero (a ∷ []) fits))))))) (some_is _ key (keyed_1 (a ∷ []) (1 ∷ 0 ∷ 0 ∷ 0 ∷ 0 ∷ 0 ∷ 0 ∷ a ∷ []) refl refl ∙ is))
station_of_key (a ∷ b ∷ []) key fits is =
    at_full key (2 ∷ 0 ∷ 0 ∷ 0 ∷ 0 ∷ 0 ∷ a ∷ b ∷ []) refl (AreOctets-count 2 (0 ∷ 0 ∷ 0 ∷ 0 ∷ 0 ∷ a ∷ b ∷ []) (omega arith) (AreOctets-zero (0 ∷ 0 ∷ 0 ∷ 0 ∷ a ∷ b ∷ []) (AreOctets-zero (0 ∷ 0 ∷ 0 ∷ a ∷ b ∷ []) (AreOctets-zero (0 ∷ 0 ∷ a ∷ b ∷ []) (AreOctets-zero (0 ∷ a ∷ b ∷ []) (AreOctets-zero (a ∷ b ∷ []) fits)))))) (some_is _ key (keyed_2 (a ∷ b ∷ []) (2 ∷ 0 ∷ 0 ∷ 0 ∷ 0 ∷ 0 ∷ a ∷ b ∷ []) refl refl ∙ is))
station_of_key (a ∷ b ∷ c ∷ []) key fits is =
    at_full key (3 ∷ 0 ∷ 0 ∷ 0 ∷ 0 ∷ a ∷ b ∷ c ∷ []) refl (AreOctets-count 3 (0 ∷ 0 ∷ 0 ∷ 0 ∷ a ∷ b ∷ c ∷ []) (omega arith) (AreOctets-zero (0 ∷ 0 ∷ 0 ∷ a ∷ b ∷ c ∷ []) (AreOctets-zero (0 ∷ 0 ∷ a ∷ b ∷ c ∷ []) (AreOctets-zero (0 ∷ a ∷ b ∷ c ∷ []) (AreOctets-zero (a ∷ b ∷ c ∷ []) fits))))) (some_is _ key (keyed_3 (a ∷ b ∷ c ∷ []) (3 ∷ 0 ∷ 0 ∷ 0 ∷ 0 ∷ a ∷ b ∷ c ∷ []) refl refl ∙ is))
station_of_key (a ∷ b ∷ c ∷ d ∷ []) key fits is =
    at_full key (4 ∷ 0 ∷ 0 ∷ 0 ∷ a ∷ b ∷ c ∷ d ∷ []) refl (AreOctets-count 4 (0 ∷ 0 ∷ 0 ∷ a ∷ b ∷ c ∷ d ∷ []) (omega arith) (AreOctets-zero (0 ∷ 0 ∷ a ∷ b ∷ c ∷ d ∷ []) (AreOctets-zero (0 ∷ a ∷ b ∷ c ∷ d ∷ []) (AreOctets-zero (a ∷ b ∷ c ∷ d ∷ []) fits)))) (some_is _ key (keyed_4 (a ∷ b ∷ c ∷ d ∷ []) (4 ∷ 0 ∷ 0 ∷ 0 ∷ a ∷ b ∷ c ∷ d ∷ []) refl refl ∙ is))
station_of_key (a ∷ b ∷ c ∷ d ∷ e ∷ []) key fits is =
    at_full key (5 ∷ 0 ∷ 0 ∷ a ∷ b ∷ c ∷ d ∷ e ∷ []) refl (AreOctets-count 5 (0 ∷ 0 ∷ a ∷ b ∷ c ∷ d ∷ e ∷ []) (omega arith) (AreOctets-zero (0 ∷ a ∷ b ∷ c ∷ d ∷ e ∷ []) (AreOctets-zero (a ∷ b ∷ c ∷ d ∷ e ∷ []) fits))) (some_is _ key (keyed_5 (a ∷ b ∷ c ∷ d ∷ e ∷ []) (5 ∷ 0 ∷ 0 ∷ a ∷ b ∷ c ∷ d ∷ e ∷ []) refl refl ∙ is))
station_of_key (a ∷ b ∷ c ∷ d ∷ e ∷ f ∷ []) key fits is =
    at_full key (0 ∷ 0 ∷ a ∷ b ∷ c ∷ d ∷ e ∷ f ∷ []) refl (AreOctets-zero (0 ∷ a ∷ b ∷ c ∷ d ∷ e ∷ f ∷ []) (AreOctets-zero (a ∷ b ∷ c ∷ d ∷ e ∷ f ∷ []) fits)) (some_is _ key (keyed_6 (a ∷ b ∷ c ∷ d ∷ e ∷ f ∷ []) (0 ∷ 0 ∷ a ∷ b ∷ c ∷ d ∷ e ∷ f ∷ []) refl refl ∙ is))
station_of_key (a ∷ b ∷ c ∷ d ∷ e ∷ f ∷ g ∷ []) key fits is =
    at_full key (7 ∷ a ∷ b ∷ c ∷ d ∷ e ∷ f ∷ g ∷ []) refl (AreOctets-count 7 (a ∷ b ∷ c ∷ d ∷ e ∷ f ∷ g ∷ []) (omega arith) fits) (some_is _ key (keyed_7 (a ∷ b ∷ c ∷ d ∷ e ∷ f ∷ g ∷ []) (7 ∷ a ∷ b ∷ c ∷ d ∷ e ∷ f ∷ g ∷ []) refl refl ∙ is))
station_of_key (a ∷ b ∷ c ∷ d ∷ e ∷ f ∷ g ∷ h ∷ rest) key fits is = absurd (let no = sym (no_key_above a b c d e f g h rest) ∙ is in cc)

all_zero : (xs : List ℕ) → list_all (λ octet. octet == 0) xs ≡ true → xs ≡ replicate (length xs) 0
all_zero [] is = refl
all_zero (x ∷ xs) is =
    let both = both_true (nat_eq x 0) (list_all (λ octet. octet == 0) xs) is in
    ap₂ (λ (y : ℕ) (ys : List ℕ). y ∷ ys) (eqb-true x 0 both.0) (all_zero xs both.1)

-- a property of the counts of octets is one of each count up to seven
by_count : (P : ℕ → Type 0) → P 0 → P 1 → P 2 → P 3 → P 4 → P 5 → P 6 → P 7 → (n : ℕ) → n ≤ 7 → P n
by_count P p0 p1 p2 p3 p4 p5 p6 p7 zero lt = p0
by_count P p0 p1 p2 p3 p4 p5 p6 p7 (suc zero) lt = p1
by_count P p0 p1 p2 p3 p4 p5 p6 p7 (suc (suc zero)) lt = p2
by_count P p0 p1 p2 p3 p4 p5 p6 p7 (suc (suc (suc zero))) lt = p3
by_count P p0 p1 p2 p3 p4 p5 p6 p7 (suc (suc (suc (suc zero)))) lt = p4
by_count P p0 p1 p2 p3 p4 p5 p6 p7 (suc (suc (suc (suc (suc zero))))) lt = p5
by_count P p0 p1 p2 p3 p4 p5 p6 p7 (suc (suc (suc (suc (suc (suc zero)))))) lt = p6
by_count P p0 p1 p2 p3 p4 p5 p6 p7 (suc (suc (suc (suc (suc (suc (suc zero))))))) lt = p7
by_count P p0 p1 p2 p3 p4 p5 p6 p7 (suc (suc (suc (suc (suc (suc (suc (suc n)))))))) lt = absurd (omega arith)

-- what a condition gave, if it gave some
if_some : {A : Type 0} (b : Bool) (x y : A) → cond b (Some x) None ≡ Some y → (b ≡ true) × (x ≡ y)
if_some true x y is = (refl, cc)
if_some false x y is = absurd cc

abbrev IsKeyed : List ℕ → ℕ → Type 0
IsKeyed octets high = (a b c d e f g : ℕ) → at (high ∷ a ∷ b ∷ c ∷ d ∷ e ∷ f ∷ g ∷ []) ≡ Some octets
    → key_of octets ≡ Some (from_be_bytes w64 (high ∷ a ∷ b ∷ c ∷ d ∷ e ∷ f ∷ g ∷ []))

keyed_high_0 : (octets : List ℕ) → IsKeyed octets 0
keyed_high_0 octets a b c d e f g is =
    let found = if_some (list_all (λ octet. octet == 0) (a ∷ [])) (b ∷ c ∷ d ∷ e ∷ f ∷ g ∷ []) octets is in
    let zeros : a ∷ [] ≡ 0 ∷ [] = all_zero (a ∷ []) found.0 in
    ap key_of (sym found.1)
    ∙ sym (keyed_6 (b ∷ c ∷ d ∷ e ∷ f ∷ g ∷ []) (0 ∷ 0 ∷ b ∷ c ∷ d ∷ e ∷ f ∷ g ∷ []) refl refl)
    ∙ ap (λ (front : List ℕ). Some (from_be_bytes w64 (0 ∷ front ++ b ∷ c ∷ d ∷ e ∷ f ∷ g ∷ []))) (sym zeros)

keyed_high_1 : (octets : List ℕ) → IsKeyed octets 1
keyed_high_1 octets a b c d e f g is =
    let found = if_some (list_all (λ octet. octet == 0) (a ∷ b ∷ c ∷ d ∷ e ∷ f ∷ [])) (g ∷ []) octets is in
    let zeros : a ∷ b ∷ c ∷ d ∷ e ∷ f ∷ [] ≡ 0 ∷ 0 ∷ 0 ∷ 0 ∷ 0 ∷ 0 ∷ [] = all_zero (a ∷ b ∷ c ∷ d ∷ e ∷ f ∷ []) found.0 in
    ap key_of (sym found.1)
    ∙ sym (keyed_1 (g ∷ []) (1 ∷ 0 ∷ 0 ∷ 0 ∷ 0 ∷ 0 ∷ 0 ∷ g ∷ []) refl refl)
    ∙ ap (λ (front : List ℕ). Some (from_be_bytes w64 (1 ∷ front ++ g ∷ []))) (sym zeros)

keyed_high_2 : (octets : List ℕ) → IsKeyed octets 2
keyed_high_2 octets a b c d e f g is =
    let found = if_some (list_all (λ octet. octet == 0) (a ∷ b ∷ c ∷ d ∷ e ∷ [])) (f ∷ g ∷ []) octets is in
    let zeros : a ∷ b ∷ c ∷ d ∷ e ∷ [] ≡ 0 ∷ 0 ∷ 0 ∷ 0 ∷ 0 ∷ [] = all_zero (a ∷ b ∷ c ∷ d ∷ e ∷ []) found.0 in
    ap key_of (sym found.1)
    ∙ sym (keyed_2 (f ∷ g ∷ []) (2 ∷ 0 ∷ 0 ∷ 0 ∷ 0 ∷ 0 ∷ f ∷ g ∷ []) refl refl)
    ∙ ap (λ (front : List ℕ). Some (from_be_bytes w64 (2 ∷ front ++ f ∷ g ∷ []))) (sym zeros)

keyed_high_3 : (octets : List ℕ) → IsKeyed octets 3
keyed_high_3 octets a b c d e f g is =
    let found = if_some (list_all (λ octet. octet == 0) (a ∷ b ∷ c ∷ d ∷ [])) (e ∷ f ∷ g ∷ []) octets is in
    let zeros : a ∷ b ∷ c ∷ d ∷ [] ≡ 0 ∷ 0 ∷ 0 ∷ 0 ∷ [] = all_zero (a ∷ b ∷ c ∷ d ∷ []) found.0 in
    ap key_of (sym found.1)
    ∙ sym (keyed_3 (e ∷ f ∷ g ∷ []) (3 ∷ 0 ∷ 0 ∷ 0 ∷ 0 ∷ e ∷ f ∷ g ∷ []) refl refl)
    ∙ ap (λ (front : List ℕ). Some (from_be_bytes w64 (3 ∷ front ++ e ∷ f ∷ g ∷ []))) (sym zeros)

keyed_high_4 : (octets : List ℕ) → IsKeyed octets 4
keyed_high_4 octets a b c d e f g is =
    let found = if_some (list_all (λ octet. octet == 0) (a ∷ b ∷ c ∷ [])) (d ∷ e ∷ f ∷ g ∷ []) octets is in
    let zeros : a ∷ b ∷ c ∷ [] ≡ 0 ∷ 0 ∷ 0 ∷ [] = all_zero (a ∷ b ∷ c ∷ []) found.0 in
    ap key_of (sym found.1)
    ∙ sym (keyed_4 (d ∷ e ∷ f ∷ g ∷ []) (4 ∷ 0 ∷ 0 ∷ 0 ∷ d ∷ e ∷ f ∷ g ∷ []) refl refl)
    ∙ ap (λ (front : List ℕ). Some (from_be_bytes w64 (4 ∷ front ++ d ∷ e ∷ f ∷ g ∷ []))) (sym zeros)

keyed_high_5 : (octets : List ℕ) → IsKeyed octets 5
keyed_high_5 octets a b c d e f g is =
    let found = if_some (list_all (λ octet. octet == 0) (a ∷ b ∷ [])) (c ∷ d ∷ e ∷ f ∷ g ∷ []) octets is in
    let zeros : a ∷ b ∷ [] ≡ 0 ∷ 0 ∷ [] = all_zero (a ∷ b ∷ []) found.0 in
    ap key_of (sym found.1)
    ∙ sym (keyed_5 (c ∷ d ∷ e ∷ f ∷ g ∷ []) (5 ∷ 0 ∷ 0 ∷ c ∷ d ∷ e ∷ f ∷ g ∷ []) refl refl)
    ∙ ap (λ (front : List ℕ). Some (from_be_bytes w64 (5 ∷ front ++ c ∷ d ∷ e ∷ f ∷ g ∷ []))) (sym zeros)

keyed_high_6 : (octets : List ℕ) → IsKeyed octets 6
keyed_high_6 octets a b c d e f g is = absurd cc

keyed_high_7 : (octets : List ℕ) → IsKeyed octets 7
keyed_high_7 octets a b c d e f g is =
    ap key_of (sym (some_is (a ∷ b ∷ c ∷ d ∷ e ∷ f ∷ g ∷ []) octets is)) ∙ sym (keyed_7 (a ∷ b ∷ c ∷ d ∷ e ∷ f ∷ g ∷ []) (7 ∷ a ∷ b ∷ c ∷ d ∷ e ∷ f ∷ g ∷ []) refl refl)

either_high : (high : ℕ) (is_zero is_six : Bool) → (high == 0) ≡ is_zero → (high == 6) ≡ is_six → counted high ≤ 7 → high ≤ 7
either_high high true is_six e0 e6 most = omega (arith, eqb-true high 0 e0)
either_high high false true e0 e6 most = omega (arith, eqb-true high 6 e6)
either_high high false false e0 e6 most =
    let same : counted high ≡ high = rw (e0, e6) refl in
    omega (arith, same)

-- a key whose octets give a station has a highest octet of at most seven
high_of : (high : ℕ) (tail octets : List ℕ) → at (high ∷ tail) ≡ Some octets → high ≤ 7
high_of high tail octets is =
    let found = if_some _ _ _ is in
    let counts = both_true _ _ (both_true _ _ found.0).0 in
    let most : counted high ≤ 7 = leb-true _ _ counts.1 in
    either_high high (high == 0) (high == 6) refl refl most

pub key_of_station : (octets : List ℕ) (key : ℕ) → key < 2 ^ 64 → station_at key ≡ Some octets → key_of octets ≡ Some key
key_of_station octets key lt is =
    let full = to_be_bytes w64 key in
    let same : full ≡ get_or full 0 0 ∷ get_or full 1 0 ∷ get_or full 2 0 ∷ get_or full 3 0 ∷ get_or full 4 0 ∷ get_or full 5 0 ∷ get_or full 6 0 ∷ get_or full 7 0 ∷ [] = refl in
    let keyed = by_count (IsKeyed octets) (keyed_high_0 octets) (keyed_high_1 octets) (keyed_high_2 octets) (keyed_high_3 octets) (keyed_high_4 octets) (keyed_high_5 octets) (keyed_high_6 octets) (keyed_high_7 octets) (get_or full 0 0) (high_of (get_or full 0 0) (drop 1 full) octets is) in
    keyed (get_or full 1 0) (get_or full 2 0) (get_or full 3 0) (get_or full 4 0) (get_or full 5 0) (get_or full 6 0) (get_or full 7 0) is
    ∙ ap Some (from_be_bytes-to_be_bytes_8 key lt)

-- ---- where the keys of so many octets lie

pub keys_of_six : (octets : List ℕ) (key : ℕ) → key48 octets ≡ Some key → key_of octets ≡ Some key
keys_of_six octets key is =
    let six = if_some (length octets == 6) (big_endian octets) key is in
    let len : length octets ≡ 6 = eqb-true (length octets) 6 six.0 in
    rw len (ap Some (omega (arith, six.1)))

pub keys_of_six_below : (octets : List ℕ) (key : ℕ) → AreOctets octets → key48 octets ≡ Some key → key < 2 ^ 48
keys_of_six_below octets key fits is =
    let six = if_some (length octets == 6) (big_endian octets) key is in
    rw (← six.1) (key_below octets (eqb-true (length octets) 6 six.0) fits)

abbrev LiesAt : List ℕ → ℕ → Type 0
LiesAt octets key = (length octets * 2 ^ 56 ≤ key) × (key < length octets * 2 ^ 56 + 2 ^ 56)

pub keys_of_others : (octets : List ℕ) (key : ℕ) → AreOctets octets → key48 octets ≡ None → key_of octets ≡ Some key → LiesAt octets key
keys_of_others [] key fits none is = absurd cc
keys_of_others (a ∷ []) key fits none is = (omega (arith, some_is _ key is), omega (arith, some_is _ key is, fits 0))
keys_of_others (a ∷ b ∷ []) key fits none is = (omega (arith, some_is _ key is), omega (arith, some_is _ key is, fits 0, fits 1))
keys_of_others (a ∷ b ∷ c ∷ []) key fits none is = (omega (arith, some_is _ key is), omega (arith, some_is _ key is, fits 0, fits 1, fits 2))
keys_of_others (a ∷ b ∷ c ∷ d ∷ []) key fits none is = (omega (arith, some_is _ key is), omega (arith, some_is _ key is, fits 0, fits 1, fits 2, fits 3))
keys_of_others (a ∷ b ∷ c ∷ d ∷ e ∷ []) key fits none is = (omega (arith, some_is _ key is), omega (arith, some_is _ key is, fits 0, fits 1, fits 2, fits 3, fits 4))
keys_of_others (a ∷ b ∷ c ∷ d ∷ e ∷ f ∷ []) key fits none is = absurd cc
keys_of_others (a ∷ b ∷ c ∷ d ∷ e ∷ f ∷ g ∷ []) key fits none is = (omega (arith, some_is _ key is), omega (arith, some_is _ key is, fits 0, fits 1, fits 2, fits 3, fits 4, fits 5, fits 6))
keys_of_others (a ∷ b ∷ c ∷ d ∷ e ∷ f ∷ g ∷ h ∷ rest) key fits none is = absurd (let no = sym (no_key_above a b c d e f g h rest) ∙ is in cc)

pub octets_of_station : (key : ℕ) (octets : List ℕ) → station_at key ≡ Some octets → AreOctets octets
octets_of_station key octets is =
    let full = to_be_bytes w64 key in
    let found = if_some _ _ _ is in
    rw (← found.1) (AreOctets-drop _ full (wide64.octets key))

-- a key below 2 to the power of 48 is that of six octets
pub station_at_small : (key : ℕ) → key < 2 ^ 48 → station_at key ≡ Some (drop 2 (to_be_bytes w64 key))
station_at_small key lt =
    let full = to_be_bytes w64 key in
    let first : get_or full 0 0 ≡ 0 = omega arith in
    let second : get_or full 1 0 ≡ 0 = omega arith in
    ap₂ (λ (a b : ℕ). at (a ∷ b ∷ drop 2 full)) first second
