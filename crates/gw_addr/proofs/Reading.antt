-- The laws of reading from the front: what was read is spelled so, and what is spelled so is read again.
-- A codec above joins two of them for each of its fields: `x_takes` and `x_again`.
use Rattle.std.proofs.Common.{◌≡◌, ◌↔◌, ℕ, zero, suc, ◌+◌, ◌^◌, ◌<◌, ◌≤◌, Bool, true, false, ◌&&◌, cond, ltb, List, [], ◌∷◌, ◌++◌, length, take, drop, Result, Ok, Err, refl, sym, ap, ◌∙◌, append_assoc, arith, inl, inr, ◌⊎◌}
use Rattle.std.specs.Prelude.{IfOk, IsOkAnd}
use Rattle.std.specs.Int.{Width, w16, w32, w64, byte_len, from_be_bytes, to_be_bytes}
use Rattle.std.proofs.lemmas.Bool.{cases_lt, ltb-false, le-ltb}
use Rattle.std.proofs.lemmas.List.{take_at, drop_at, take-append-drop, length-append, length-take, get_or-drop, get_or-take, get_or_past}
use Rattle.std.proofs.lemmas.Nat.{be_bytes_2, be_bytes_4, be_bytes_8, from_be_bytes-to_be_bytes_2, from_be_bytes-to_be_bytes_4, from_be_bytes-to_be_bytes_8}
use Rattle.gw_addr.specs.Reading.{◌>>=◌, Gives, AreOctets, Takes, octet_at, front_at, number_at}

-- ---- octets

pub AreOctets-drop : (n : ℕ) (octets : List ℕ) → AreOctets octets → AreOctets (drop n octets)
AreOctets-drop n octets h i = rw get_or-drop (h (n + i))

pub AreOctets-take : (n : ℕ) (octets : List ℕ) → AreOctets octets → AreOctets (take n octets)
AreOctets-take n octets h i =
    elim (cases_lt i n) [
      | inl lt ↦ rw (get_or-take n octets i 0 lt) (h i)
      | inr le ↦ rw (get_or_past (take n octets) i 0 (omega (arith, length-take n octets))) (omega arith)
    ]

pub AreOctets-rest : (octet : ℕ) (octets : List ℕ) → AreOctets (octet ∷ octets) → AreOctets octets
AreOctets-rest octet octets h i = h (suc i)

pub AreOctets-append : (front rest : List ℕ) → AreOctets front → AreOctets rest → AreOctets (front ++ rest)
AreOctets-append [] rest h k i = k i
AreOctets-append (octet ∷ front) rest h k zero = h 0
AreOctets-append (octet ∷ front) rest h k (suc i) = AreOctets-append front rest (AreOctets-rest octet front h) k i

-- ---- steps and tests

-- the value of a step that did not fail
pub bind_ok : {A B F : Type 0} (r : Result A F) (f : A → Result B F) (y : B) → (r >>= f) ≡ Ok y → (x : A) × (r ≡ Ok x) × (f x ≡ Ok y)
bind_ok (Ok x) f y e = (x, refl, e)
bind_ok (Err d) f y e = absurd cc

-- where the fault of two steps came from
pub bind_err : {A B F : Type 0} (r : Result A F) (f : A → Result B F) (d : F) → (r >>= f) ≡ Err d → (r ≡ Err d) ⊎ ((x : A) × (r ≡ Ok x) × (f x ≡ Err d))
bind_err (Ok x) f d e = inr (x, refl, e)
bind_err (Err b) f d e = inl cc

-- a test that did not fail
pub guard_ok : {A F : Type 0} (b : Bool) (d : F) (x y : A) → cond b (Err d) (Ok x) ≡ Ok y → (b ≡ false) × (x ≡ y)
guard_ok true d x y e = absurd cc
guard_ok false d x y e = (refl, cc)

-- a test that failed
pub guard_err : {A F : Type 0} (b : Bool) (d e : F) (x : A) → cond b (Err d) (Ok x) ≡ Err e → (b ≡ true) × (d ≡ e)
guard_err true d e x h = (refl, cc)
guard_err false d e x h = absurd cc

-- a test before a step that went on
pub pass_ok : {A F : Type 0} (b : Bool) (d : F) (r : Result A F) (y : A) → cond b (Err d) r ≡ Ok y → (b ≡ false) × (r ≡ Ok y)
pass_ok true d r y e = absurd cc
pass_ok false d r y e = (refl, e)

-- two tests that hold together hold each
pub both_true : (a b : Bool) → (a && b) ≡ true → (a ≡ true) × (b ≡ true)
both_true true b e = (refl, e)
both_true false b e = absurd cc

-- which side a choice took
pub chosen : {A : Type 0} (b : Bool) (x y z : A) → cond b x y ≡ z → ((b ≡ true) × (x ≡ z)) ⊎ ((b ≡ false) × (y ≡ z))
chosen true x y z e = inl (refl, e)
chosen false x y z e = inr (refl, e)

abbrev done : {A : Type 0} (F : Type 0) → A → Result A F
done F x = Ok x

pub ok_is : {A F : Type 0} (x y : A) → done F x ≡ done F y → x ≡ y
ok_is x y e = cc

-- a reading gave a value or a fault
pub either : {A F : Type 0} (r : Result A F) → ((x : A) × (r ≡ Ok x)) ⊎ ((e : F) × (r ≡ Err e))
either (Ok x) = inl (x, refl)
either (Err e) = inr (e, refl)

-- ---- what a function returned, from what its reading gives

-- what was found is as each value that the reading gives
pub gives_found : {X Y F : Type 0} (view : X → Y) (r : Result X F) (reading : Result Y F) (P : Y → Type 0) → Gives view r reading → ((y : Y) → reading ≡ Ok y → P y) → IfOk r (λ x. P (view x))
gives_found view (Ok x) reading P given holds = holds (view x) given
gives_found view (Err e) reading P given holds = tt

-- what the reading gives is what was found
pub gives_only : {X Y F : Type 0} (view : X → Y) (r : Result X F) (reading : Result Y F) (y : Y) → Gives view r reading → reading ≡ Ok y → IsOkAnd r (λ x. view x ≡ y)
gives_only {F = F} view (Ok x) reading y given is = ok_is {F = F} (view x) y (sym given ∙ is)
gives_only view (Err e) reading y given is = absurd (let both = sym given ∙ is in cc)

-- a fault is that of the reading
pub gives_fault : {X Y F : Type 0} (view : X → Y) (r : Result X F) (reading : Result Y F) (fault : F) (P : Type 0) → Gives view r reading → ((reading ≡ Err fault) ↔ P) → (r ≡ Err fault) ↔ P
gives_fault view (Ok x) reading fault P given is = (λ e. absurd cc, λ p. absurd (let h = is.1 p in cc))
gives_fault view (Err e) reading fault P given is = (λ q. is.0 cc, λ p. let h = is.1 p in cc)

-- ---- one text and the next

pub Takes-then : (a x b y c : List ℕ) → Takes a x b → Takes b y c → Takes a (x ++ y) c
Takes-then a x b y c p q = record { parts = p.parts ∙ ap (λ (t : List ℕ). x ++ t) q.parts ∙ sym (append_assoc x y c); rest_octets = q.rest_octets }

-- ---- one octet

pub octet_takes : {F : Type 0} (short : F) (octets : List ℕ) (octet : ℕ) (rest : List ℕ) → AreOctets octets → octet_at short octets ≡ Ok (octet, rest) → Takes octets (octet ∷ []) rest × (octet < 256)
octet_takes short [] octet rest fits e = absurd cc
octet_takes short (o ∷ os) octet rest fits e =
    let both = ok_is (o, os) (octet, rest) e in
    let one : o ≡ octet = ap (λ (p : ℕ × List ℕ). p.0) both in
    let others : os ≡ rest = ap (λ (p : ℕ × List ℕ). p.1) both in
    (record { parts = rw (one, others) refl; rest_octets = rw (← others) (AreOctets-rest o os fits) }, rw (← one) (fits 0))

pub octet_again : {F : Type 0} (short : F) (octet : ℕ) (rest : List ℕ) → octet_at short (octet ∷ [] ++ rest) ≡ Ok (octet, rest)
octet_again short octet rest = refl

-- ---- the first octets, so many

pub front_takes : {F : Type 0} (short : F) (count : ℕ) (octets front rest : List ℕ) → AreOctets octets → front_at short count octets ≡ Ok (front, rest) → Takes octets front rest × (length front ≡ count) × AreOctets front
front_takes short count octets front rest fits e =
    let g = guard_ok (ltb (length octets) count) short (take count octets, drop count octets) (front, rest) e in
    let long : count ≤ length octets = ltb-false _ _ g.0 in
    let front_is : take count octets ≡ front = ap (λ (p : List ℕ × List ℕ). p.0) g.1 in
    let rest_is : drop count octets ≡ rest = ap (λ (p : List ℕ × List ℕ). p.1) g.1 in
    (record { parts = rw (← front_is, ← rest_is) (sym (take-append-drop count octets)); rest_octets = rw (← rest_is) (AreOctets-drop count octets fits) }, rw (← front_is) (omega (arith, length-take count octets)), rw (← front_is) (AreOctets-take count octets fits))

pub front_again : {F : Type 0} (short : F) (front rest : List ℕ) → front_at short (length front) (front ++ rest) ≡ Ok (front, rest)
front_again short front rest =
    let long : ltb (length (front ++ rest)) (length front) ≡ false = le-ltb _ _ (omega (arith, length-append front rest)) in
    rw (long, take_at front rest (length front) refl, drop_at front rest (length front) refl) refl

-- ---- numbers of two, four and eight octets

cells_2 : (a b : ℕ) → a < 256 → b < 256 → AreOctets (a ∷ b ∷ [])
cells_2 a b ha hb zero = ha
cells_2 a b ha hb (suc zero) = hb
cells_2 a b ha hb (suc (suc i)) = omega arith

cells_4 : (a b c d : ℕ) → a < 256 → b < 256 → c < 256 → d < 256 → AreOctets (a ∷ b ∷ c ∷ d ∷ [])
cells_4 a b c d ha hb hc hd = AreOctets-append (a ∷ b ∷ []) (c ∷ d ∷ []) (cells_2 a b ha hb) (cells_2 c d hc hd)

cells_8 : (a b c d e f g h : ℕ) → AreOctets (a ∷ b ∷ c ∷ d ∷ []) → AreOctets (e ∷ f ∷ g ∷ h ∷ []) → AreOctets (a ∷ b ∷ c ∷ d ∷ e ∷ f ∷ g ∷ h ∷ [])
cells_8 a b c d e f g h first second = AreOctets-append (a ∷ b ∷ c ∷ d ∷ []) (e ∷ f ∷ g ∷ h ∷ []) first second

pub record IsWide (width : Width) (limit : ℕ) : Type 0 where
  pub len : (n : ℕ) → length (to_be_bytes width n) ≡ byte_len width
  pub octets : (n : ℕ) → AreOctets (to_be_bytes width n)
  pub back : (octets : List ℕ) → length octets ≡ byte_len width → AreOctets octets → to_be_bytes width (from_be_bytes width octets) ≡ octets
  pub again : (n : ℕ) → n < limit → from_be_bytes width (to_be_bytes width n) ≡ n
  pub below : (octets : List ℕ) → AreOctets octets → from_be_bytes width octets < limit

pub wide16 : IsWide w16 (2 ^ 16)
wide16 = record {
  len = λ n. refl;
  octets = λ n. cells_2 _ _ (omega arith) (omega arith);
  back = λ octets len fits. be_bytes_2 octets _ len fits refl;
  again = λ n lt. from_be_bytes-to_be_bytes_2 n lt;
  below = λ octets fits. omega (arith, fits 0, fits 1);
}

pub wide32 : IsWide w32 (2 ^ 32)
wide32 = record {
  len = λ n. refl;
  octets = λ n. cells_4 _ _ _ _ (omega arith) (omega arith) (omega arith) (omega arith);
  back = λ octets len fits. be_bytes_4 octets _ len fits refl;
  again = λ n lt. from_be_bytes-to_be_bytes_4 n lt;
  below = λ octets fits. omega (arith, fits 0, fits 1, fits 2, fits 3);
}

pub wide64 : IsWide w64 (2 ^ 64)
wide64 = record {
  len = λ n. refl;
  octets = λ n. cells_8 _ _ _ _ _ _ _ _ (cells_4 _ _ _ _ (omega arith) (omega arith) (omega arith) (omega arith)) (cells_4 _ _ _ _ (omega arith) (omega arith) (omega arith) (omega arith));
  back = λ octets len fits. be_bytes_8 octets _ len fits refl;
  again = λ n lt. from_be_bytes-to_be_bytes_8 n lt;
  below = λ octets fits. omega (arith, fits 0, fits 1, fits 2, fits 3, fits 4, fits 5, fits 6, fits 7);
}

pub number_takes : {F : Type 0} (short : F) (width : Width) (limit : ℕ) (wide : IsWide width limit) (octets : List ℕ) (n : ℕ) (rest : List ℕ) → AreOctets octets → number_at short width octets ≡ Ok (n, rest) → Takes octets (to_be_bytes width n) rest × (n < limit)
number_takes short width limit wide octets n rest fits e =
    let g = guard_ok (ltb (length octets) (byte_len width)) short (from_be_bytes width (take (byte_len width) octets), drop (byte_len width) octets) (n, rest) e in
    let long : byte_len width ≤ length octets = ltb-false _ _ g.0 in
    let n-is : from_be_bytes width (take (byte_len width) octets) ≡ n = ap (λ (p : ℕ × List ℕ). p.0) g.1 in
    let rest-is : drop (byte_len width) octets ≡ rest = ap (λ (p : ℕ × List ℕ). p.1) g.1 in
    let front : to_be_bytes width n ≡ take (byte_len width) octets = rw (← n-is) (wide.back (take (byte_len width) octets) (omega (arith, length-take (byte_len width) octets)) (AreOctets-take (byte_len width) octets fits)) in
    (record { parts = rw (front, ← rest-is) (sym (take-append-drop (byte_len width) octets)); rest_octets = rw (← rest-is) (AreOctets-drop (byte_len width) octets fits) }, rw (← n-is) (wide.below (take (byte_len width) octets) (AreOctets-take (byte_len width) octets fits)))

pub number_again : {F : Type 0} (short : F) (width : Width) (limit : ℕ) (wide : IsWide width limit) (n : ℕ) (rest : List ℕ) → n < limit → number_at short width (to_be_bytes width n ++ rest) ≡ Ok (n, rest)
number_again short width limit wide n rest lt =
    let len = wide.len n in
    let long : ltb (length (to_be_bytes width n ++ rest)) (byte_len width) ≡ false = le-ltb _ _ (omega (arith, length-append (to_be_bytes width n) rest)) in
    rw (long, take_at (to_be_bytes width n) rest (byte_len width) len, drop_at (to_be_bytes width n) rest (byte_len width) len, wide.again n lt) refl
