-- Texts that lack a character, such as the digits of a number.
use Rattle.std.proofs.Common.{◌≡◌, ◌≢◌, ℕ, zero, suc, ◌+◌, ◌^◌, ◌<◌, ◌≤◌, List, [], ◌∷◌, ◌++◌, length, take, drop, get_or, refl, ap, subst, arith}
use Rattle.std.proofs.lemmas.Fmt.{decimal_nonempty, digits_decimal, length-decimal-le}
use Rattle.std.proofs.lemmas.List.{length-append, take_at}
use Rattle.std.proofs.lemmas.Str.Parse.{not_in_digits}
use Rattle.std.specs.Char.{IsAsciiDigit}
use Rattle.std.specs.Fmt.{decimal}
use Rattle.gw_addr.specs.declared.bip.BipAddr.{BipAddr}
use Rattle.gw_addr.specs.Address.{IsAddress, text_of}
use Rattle.gw_addr.specs.Text.{Lacks}
use Rattle.gw_addr.proofs.Decimal.{own}

-- a text lacks what both its parts lack
pub lacks_append : (c : ℕ) (xs ys : List ℕ) → Lacks c xs → Lacks c ys → Lacks c (xs ++ ys)
lacks_append c [] ys hx hy i lt e = hy i lt e
lacks_append c (x ∷ xs) ys hx hy zero lt e = hx 0 (omega arith) e
lacks_append c (x ∷ xs) ys hx hy (suc i) lt e = lacks_append c xs ys (λ j l. hx (suc j) (omega arith)) hy i (omega arith) e

pub lacks_cons : (c x : ℕ) (xs : List ℕ) → x ≢ c → Lacks c xs → Lacks c (x ∷ xs)
lacks_cons c x xs other hx zero lt e = other e
lacks_cons c x xs other hx (suc i) lt e = hx i (omega arith) e

-- a text that has it doesn't lack it
pub has_not_lacks : (c : ℕ) (xs ys : List ℕ) → Lacks c (xs ++ c ∷ ys) → ⊥
has_not_lacks c [] ys lacks = lacks 0 (omega arith) refl
has_not_lacks c (x ∷ xs) ys lacks = has_not_lacks c xs ys (λ i lt. lacks (suc i) (omega arith))

-- up to the first such character, two texts that lack it before are the same
pub same_split : (c : ℕ) (xs ys x y : List ℕ) → Lacks c xs → Lacks c ys → xs ++ c ∷ x ≡ ys ++ c ∷ y → (xs ≡ ys) × (x ≡ y)
same_split c [] [] x y hx hy e = (refl, cc)
same_split c [] (b ∷ ys) x y hx hy e = absurd (hy 0 (omega arith) cc)
same_split c (a ∷ xs) [] x y hx hy e = absurd (hx 0 (omega arith) cc)
same_split c (a ∷ xs) (b ∷ ys) x y hx hy e =
    let tails : xs ++ c ∷ x ≡ ys ++ c ∷ y = cc in
    let head : a ≡ b = cc in
    let rest = same_split c xs ys x y (λ i lt. hx (suc i) (omega arith)) (λ i lt. hy (suc i) (omega arith)) tails in
    (cc (head, rest.0), rest.1)

-- no digit of a number is a separator
pub not_in_decimal : (n c : ℕ) → n < 2 ^ 64 → ¬ (IsAsciiDigit c) → Lacks c (decimal n)
not_in_decimal n c h other = not_in_digits own (decimal n) c (digits_decimal own n h) other

-- a number and a separator, and a text after them that lacks the character
part_lacks : (n separator c : ℕ) (rest : List ℕ) → n < 2 ^ 64 → ¬ (IsAsciiDigit c) → separator ≢ c → Lacks c rest → Lacks c (decimal n ++ separator ∷ rest)
part_lacks n separator c rest small digit other lacks =
    lacks_append c (decimal n) (separator ∷ rest) (not_in_decimal n c small digit) (lacks_cons c separator rest other lacks)

-- the text of an address lacks all but digits, points and a colon
pub address_lacks : (c : ℕ) → ¬ (IsAsciiDigit c) → 46 ≢ c → 58 ≢ c → (a : BipAddr) → IsAddress a → Lacks c (text_of a)
address_lacks c digit point colon a is =
    let small : (i : ℕ) → get_or a.ip i 0 < 2 ^ 64 = λ i. omega (arith, is.octets i) in
    let fifth = not_in_decimal a.udp c (omega (arith, is.udp)) digit in
    let fourth = part_lacks (get_or a.ip 3 0) 58 c (decimal a.udp) (small 3) digit colon fifth in
    let ends = decimal (get_or a.ip 3 0) ++ 58 ∷ decimal a.udp in
    let third = part_lacks (get_or a.ip 2 0) 46 c ends (small 2) digit point fourth in
    let later = decimal (get_or a.ip 2 0) ++ 46 ∷ ends in
    let second = part_lacks (get_or a.ip 1 0) 46 c later (small 1) digit point third in
    part_lacks (get_or a.ip 0 0) 46 c (decimal (get_or a.ip 1 0) ++ 46 ∷ later) (small 0) digit point second

-- what is known of a text that begins with a number below 256 and a separator
pub record BeginsWithOctet (text : List ℕ) (n separator : ℕ) (rest : List ℕ) : Type 0 where
  pub least : 1 ≤ length (decimal n)
  pub most : length (decimal n) ≤ 3
  pub within : length (decimal n) < length text
  pub there : get_or text (length (decimal n)) 0 ≡ separator
  pub first : (k : ℕ) → get_or text k 0 ≡ separator → length (decimal n) ≤ k
  pub front : take (length (decimal n)) text ≡ decimal n
  pub behind : drop (length (decimal n) + 1) text ≡ rest

first_there : (c : ℕ) (xs ys : List ℕ) (k : ℕ) → Lacks c xs → get_or (xs ++ c ∷ ys) k 0 ≡ c → length xs ≤ k
first_there c [] ys k lacks e = omega arith
first_there c (x ∷ xs) ys zero lacks e = absurd (lacks 0 (omega arith) e)
first_there c (x ∷ xs) ys (suc k) lacks e = omega (arith, first_there c xs ys k (λ i lt. lacks (suc i) (omega arith)) e)

stands_there : (c : ℕ) (xs ys : List ℕ) → get_or (xs ++ c ∷ ys) (length xs) 0 ≡ c
stands_there c [] ys = refl
stands_there c (x ∷ xs) ys = stands_there c xs ys

drop_past : (c : ℕ) (xs ys : List ℕ) → drop (length xs + 1) (xs ++ c ∷ ys) ≡ ys
drop_past c [] ys = refl
drop_past c (x ∷ xs) ys =
    let more : suc (length xs) + 1 ≡ suc (length xs + 1) = omega arith in
    rw more (drop_past c xs ys)

pub begins_with_octet : (text : List ℕ) (n separator : ℕ) (rest : List ℕ) → n < 2 ^ 8 → ¬ (IsAsciiDigit separator) → text ≡ decimal n ++ separator ∷ rest → BeginsWithOctet text n separator rest
begins_with_octet text n separator rest small other e =
    let lacks = not_in_decimal n separator (omega arith) other in record {
      least = omega (arith, decimal_nonempty n (omega arith));
      most = length-decimal-le 3 n (omega arith) (omega arith) (omega arith);
      within = omega (arith, ap length e, length-append (decimal n) (separator ∷ rest));
      there = rw e (stands_there separator (decimal n) rest);
      first = λ k is. first_there separator (decimal n) rest k lacks (subst (λ (t : List ℕ). get_or t k 0 ≡ separator) e is);
      front = rw e (take_at (decimal n) (separator ∷ rest) (length (decimal n)) refl);
      behind = rw e (drop_past separator (decimal n) rest);
    }

-- where its separator is
pub not_there : (text : List ℕ) (n separator : ℕ) (rest : List ℕ) (place : ℕ) → BeginsWithOctet text n separator rest → ¬ ((place < length text) × (get_or text place 0 ≡ separator)) → length (decimal n) ≢ place
not_there text n separator rest place begins other e =
    other (omega (arith, begins.within), subst (λ (k : ℕ). get_or text k 0 ≡ separator) e begins.there)
