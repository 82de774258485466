-- Addresses and masks are read exactly where they are written.
use Rattle.std.proofs.Common.{◌≡◌, ℕ, zero, suc, ◌^◌, ◌<◌, ◌≤◌, ◌%◌, ◌&&◌, Bool, true, false, cond, eqb, nat_le, List, [], ◌∷◌, ◌++◌, length, get_or, Option, Some, None, Result, Ok, Err, refl, sym, ap, subst, ◌∙◌, arith, nat_lt}
use Rattle.std.specs.Char.{IsAsciiDigit}
use Rattle.std.specs.Fmt.{decimal}
use Rattle.std.specs.Int.{from_be_bytes, w32}
use Rattle.std.specs.Option.{option_and_then, option_map}
use Rattle.std.specs.Str.{all_ascii_digits}
use Rattle.std.specs.Str.Parse.{digits_value}
use Rattle.std.proofs.lemmas.Bool.{and_parts, eqb-true, eq-eqb, leb-true, ne_eqb, ltb-true, lt-ltb}
use Rattle.std.proofs.lemmas.Bool.Decides.{nat_tests}
use Rattle.std.proofs.lemmas.Fmt.{decimal-digits_value, digits_value-decimal, digits_decimal}
use Rattle.std.proofs.lemmas.Option.{cond_some}
use Rattle.gw_addr.specs.Address.{IsAddress, text_of}
use Rattle.gw_addr.specs.Mask.{IsMask, mask_text}
use Rattle.gw_addr.specs.Reading.{AreOctets}
use Rattle.gw_addr.specs.Text.{Lacks, four_text}
use Rattle.gw_addr.specs.declared.bip.BipAddr.{BipAddr}
use Rattle.gw_addr.specs.declared.mask.Mask.{Mask}
use Rattle.gw_addr.specs.internal.Digits.{begins_canonical_of}
use Rattle.gw_addr.proofs.Addresses.{address_of_parts}
use Rattle.gw_addr.proofs.Decimal.{begins_canonical-decimal, own}
use Rattle.gw_addr.proofs.Lacking.{not_in_decimal}
use Rattle.gw_addr.proofs.Reading.{wide32}
use Rattle.gw_configuration.specs.Subnet.{IsSubnet, Subnet, size_of, subnet_of, subnet_text}
use Rattle.gw_configuration.proofs.Prefixes.{is_network_mask, mask_lacks, network_mask, subnet_again, subnet_found}
use Rattle.gw_policy_text.specs.keys.Written.{address_written, is_decimal, mask_written, number_written, octet_written, split_at, subnet_written}

-- what a chain of readings read
bind_some : {A B : Type 0} (f : A → Option B) (o : Option A) (y : B) → option_and_then f o ≡ Some y → (x : A) × (o ≡ Some x) × (f x ≡ Some y)
bind_some f None y e = absurd cc
bind_some f (Some x) y e = (x, refl, e)

map_some : {A B : Type 0} (f : A → B) (o : Option A) (y : B) → option_map f o ≡ Some y → (x : A) × (o ≡ Some x) × (f x ≡ y)
map_some f None y e = absurd cc
map_some f (Some x) y e = (x, refl, cc)

canonical_start : (ds : List ℕ) → begins_canonical_of ds ≡ true → (0 < length ds) × (get_or ds 0 0 ≡ 48 → length ds ≡ 1)
canonical_start [] h = absurd cc
canonical_start (d ∷ ds) h = (omega arith, λ e. grind (arith, nat_tests))

number_found : (bound : ℕ) (text : List ℕ) (n : ℕ) → bound ≤ 2 ^ 16 → number_written bound text ≡ Some n → (text ≡ decimal n) × (n < bound)
number_found bound text n small e =
    let v = digits_value 10 text in
    let c = cond_some (is_decimal text && nat_lt v bound) v n e in
    let p = and_parts (is_decimal text) (nat_lt v bound) c.0 in
    let q = and_parts (begins_canonical_of text) (all_ascii_digits text) p.0 in
    let start = canonical_start text q.0 in
    let below : v < bound = ltb-true v bound p.1 in
    (sym (decimal-digits_value own text q.1 start.0 start.1 (omega arith)) ∙ ap decimal c.1, subst (λ k. k < bound) c.1 below)

made : (canonical digits : Bool) (v n bound : ℕ) → canonical ≡ true → digits ≡ true → v ≡ n → n < bound → cond ((canonical && digits) && nat_lt v bound) (Some v) None ≡ Some n
made canonical digits v n bound c d e h = let t : nat_lt n bound ≡ true = lt-ltb n bound h in rw (c, d, e, t) refl

number_again : (bound n : ℕ) → bound ≤ 2 ^ 16 → n < bound → number_written bound (decimal n) ≡ Some n
number_again bound n small h =
    let fits : n < 2 ^ 64 = omega arith in
    made (begins_canonical_of (decimal n)) (all_ascii_digits (decimal n)) (digits_value 10 (decimal n)) n bound (begins_canonical-decimal n fits) (digits_decimal own n fits) (digits_value-decimal own n fits) h

-- a front and a rest
abbrev Parts : Type 0
Parts = List ℕ × List ℕ

split_found : (c : ℕ) (text front rest : List ℕ) → split_at c text ≡ Some (front, rest) → text ≡ front ++ c ∷ rest
split_found c [] front rest e = absurd cc
split_found c (x ∷ xs) front rest e = on (λ a b. split_found c xs a b) (eqb x c) refl (split_at c xs) refl e
  where
    on : ((a b : List ℕ) → split_at c xs ≡ Some (a, b) → xs ≡ a ++ c ∷ b) → (b : Bool) → eqb x c ≡ b → (o : Option (List ℕ × List ℕ)) → split_at c xs ≡ o → cond {A = Option Parts} b (Some ([], xs)) (option_map (λ p. (x ∷ p.0, p.1)) o) ≡ Some (front, rest) → x ∷ xs ≡ front ++ c ∷ rest
    on later true t o s h =
        let same : x ≡ c = eqb-true x c t in
        let parts : ◌≡◌ {A = Parts} ([], xs) (front, rest) = cc in
        let nothing : [] ≡ front = ap (λ (p : List ℕ × List ℕ). p.0) parts in
        let behind : xs ≡ rest = ap (λ (p : List ℕ × List ℕ). p.1) parts in
        rw (← nothing, same, behind) refl
    on later false t None s h = absurd cc
    on later false t (Some (a, b)) s h =
        let parts : ◌≡◌ {A = Parts} (x ∷ a, b) (front, rest) = cc in
        let before : x ∷ a ≡ front = ap (λ (p : List ℕ × List ℕ). p.0) parts in
        let behind : b ≡ rest = ap (λ (p : List ℕ × List ℕ). p.1) parts in
        rw (← before, ← behind) (ap (λ ys. x ∷ ys) (later a b s))

split_again : (c : ℕ) (front rest : List ℕ) → Lacks c front → split_at c (front ++ c ∷ rest) ≡ Some (front, rest)
split_again c [] rest lacks = let t : eqb c c ≡ true = eq-eqb c c refl in rw t refl
split_again c (x ∷ xs) rest lacks =
    let t : eqb x c ≡ false = ne_eqb x c (lacks 0 (omega arith)) in
    let later = split_again c xs rest (λ i lt. lacks (suc i) (omega arith)) in
    rw (t, later) refl

octet_found : (c : ℕ) (text : List ℕ) (n : ℕ) (rest : List ℕ) → octet_written c text ≡ Some (n, rest) → (text ≡ decimal n ++ c ∷ rest) × (n < 256)
octet_found c text n rest e =
    let a = bind_some (λ parts. option_map (λ octet. (octet, parts.1)) (number_written 256 parts.0)) (split_at c text) (n, rest) e in
    let b = map_some (λ octet. (octet, a.0.1)) (number_written 256 a.0.0) (n, rest) a.2 in
    let number : b.0 ≡ n = ap (λ (p : ℕ × List ℕ). p.0) b.2 in
    let behind : a.0.1 ≡ rest = ap (λ (p : ℕ × List ℕ). p.1) b.2 in
    let is = number_found 256 a.0.0 b.0 (omega arith) b.1 in
    (split_found c text a.0.0 a.0.1 a.1 ∙ rw (is.0, number, behind) refl, subst (λ k. k < 256) number is.1)

octet_again : (c n : ℕ) (rest : List ℕ) → n < 256 → ¬ (IsAsciiDigit c) → octet_written c (decimal n ++ c ∷ rest) ≡ Some (n, rest)
octet_again c n rest h other =
    rw (split_again c (decimal n) rest (not_in_decimal n c (omega arith) other), number_again 256 n (omega arith) h) refl

point : ¬ (IsAsciiDigit 46)
point h = absurd (omega arith)

colon : ¬ (IsAsciiDigit 58)
colon h = absurd (omega arith)

fours : (a b c d : ℕ) → a < 256 → b < 256 → c < 256 → d < 256 → AreOctets (a ∷ b ∷ c ∷ d ∷ [])
fours a b c d ha hb hc hd zero = ha
fours a b c d ha hb hc hd (suc zero) = hb
fours a b c d ha hb hc hd (suc (suc zero)) = hc
fours a b c d ha hb hc hd (suc (suc (suc zero))) = hd
fours a b c d ha hb hc hd (suc (suc (suc (suc i)))) = omega arith

-- ---- addresses

abbrev address : ℕ → ℕ → ℕ → ℕ → ℕ → BipAddr
address a b c d udp = record { ip = a ∷ b ∷ c ∷ d ∷ []; udp = udp }

-- four octets and a port, and the text that they are read from
address_whole : (a b c d udp : ℕ) (text first second third fourth : List ℕ) → a < 256 → b < 256 → c < 256 → d < 256 → udp < 65536 → text ≡ decimal a ++ 46 ∷ first → first ≡ decimal b ++ 46 ∷ second → second ≡ decimal c ++ 46 ∷ third → third ≡ decimal d ++ 58 ∷ fourth → fourth ≡ decimal udp
    → IsAddress (address a b c d udp) × (text ≡ text_of (address a b c d udp))
address_whole a b c d udp text first second third fourth ha hb hc hd hu e1 e2 e3 e4 e5 =
    (record { four = refl; octets = fours a b c d ha hb hc hd; udp = hu }, rw (e1, e2, e3, e4, e5) refl)

pub address_found : (text : List ℕ) (x : BipAddr) → address_written text ≡ Some x → IsAddress x × (text ≡ text_of x)
unfolding address_written
address_found text x e =
    let p = bind_some (λ a. option_and_then (λ b. option_and_then (λ c. option_and_then (λ d. option_map (λ udp. address a.0 b.0 c.0 d.0 udp) (number_written 65536 d.1)) (octet_written 58 c.1)) (octet_written 46 b.1)) (octet_written 46 a.1)) (octet_written 46 text) x e in
    let q = bind_some (λ b. option_and_then (λ c. option_and_then (λ d. option_map (λ udp. address p.0.0 b.0 c.0 d.0 udp) (number_written 65536 d.1)) (octet_written 58 c.1)) (octet_written 46 b.1)) (octet_written 46 p.0.1) x p.2 in
    let r = bind_some (λ c. option_and_then (λ d. option_map (λ udp. address p.0.0 q.0.0 c.0 d.0 udp) (number_written 65536 d.1)) (octet_written 58 c.1)) (octet_written 46 q.0.1) x q.2 in
    let s = bind_some (λ d. option_map (λ udp. address p.0.0 q.0.0 r.0.0 d.0 udp) (number_written 65536 d.1)) (octet_written 58 r.0.1) x r.2 in
    let t = map_some (λ udp. address p.0.0 q.0.0 r.0.0 s.0.0 udp) (number_written 65536 s.0.1) x s.2 in
    let a = octet_found 46 text p.0.0 p.0.1 p.1 in
    let b = octet_found 46 p.0.1 q.0.0 q.0.1 q.1 in
    let c = octet_found 46 q.0.1 r.0.0 r.0.1 r.1 in
    let d = octet_found 58 r.0.1 s.0.0 s.0.1 s.1 in
    let u = number_found 65536 s.0.1 t.0 (omega arith) t.1 in
    subst (λ (y : BipAddr). IsAddress y × (text ≡ text_of y)) t.2 (address_whole p.0.0 q.0.0 r.0.0 s.0.0 t.0 text p.0.1 q.0.1 r.0.1 s.0.1 a.1 b.1 c.1 d.1 u.1 a.0 b.0 c.0 d.0 u.0)

pub address_again : (x : BipAddr) → IsAddress x → address_written (text_of x) ≡ Some x
unfolding address_written
address_again x is =
    let a = get_or x.ip 0 0 in
    let b = get_or x.ip 1 0 in
    let c = get_or x.ip 2 0 in
    let d = get_or x.ip 3 0 in
    let fourth = decimal d ++ 58 ∷ decimal x.udp in
    let third = decimal c ++ 46 ∷ fourth in
    let second = decimal b ++ 46 ∷ third in
    rw (octet_again 46 a second (is.octets 0) point, octet_again 46 b third (is.octets 1) point, octet_again 46 c fourth (is.octets 2) point, octet_again 58 d (decimal x.udp) (is.octets 3) colon, number_again 65536 x.udp (omega arith) is.udp)
    (ap (λ (y : BipAddr). Some y) (address_of_parts x is a b c d x.udp refl refl refl refl refl))

-- ---- masks

abbrev mask : ℕ → ℕ → ℕ → ℕ → Mask
mask a b c d = record { octets = a ∷ b ∷ c ∷ d ∷ [] }

four_items : (xs : List ℕ) → length xs ≡ 4 → get_or xs 0 0 ∷ get_or xs 1 0 ∷ get_or xs 2 0 ∷ get_or xs 3 0 ∷ [] ≡ xs
four_items [] e = absurd (omega arith)
four_items (a ∷ []) e = absurd (omega arith)
four_items (a ∷ b ∷ []) e = absurd (omega arith)
four_items (a ∷ b ∷ c ∷ []) e = absurd (omega arith)
four_items (a ∷ b ∷ c ∷ d ∷ []) e = refl
four_items (a ∷ b ∷ c ∷ d ∷ f ∷ xs) e = absurd (omega arith)

mask_of_octets : List ℕ → Mask
mask_of_octets octets = record { octets = octets }

mask_whole : (a b c d : ℕ) (text first second third : List ℕ) → a < 256 → b < 256 → c < 256 → d < 256 → text ≡ decimal a ++ 46 ∷ first → first ≡ decimal b ++ 46 ∷ second → second ≡ decimal c ++ 46 ∷ third → third ≡ decimal d
    → IsMask (mask a b c d) × (text ≡ mask_text (mask a b c d))
unfolding four_text
mask_whole a b c d text first second third ha hb hc hd e1 e2 e3 e4 =
    (record { four = refl; octets = fours a b c d ha hb hc hd }, rw (e1, e2, e3, e4) refl)

pub mask_found : (text : List ℕ) (x : Mask) → mask_written text ≡ Some x → IsMask x × (text ≡ mask_text x)
unfolding mask_written four_text
mask_found text x e =
    let p = bind_some (λ a. option_and_then (λ b. option_and_then (λ c. option_map (λ d. mask a.0 b.0 c.0 d) (number_written 256 c.1)) (octet_written 46 b.1)) (octet_written 46 a.1)) (octet_written 46 text) x e in
    let q = bind_some (λ b. option_and_then (λ c. option_map (λ d. mask p.0.0 b.0 c.0 d) (number_written 256 c.1)) (octet_written 46 b.1)) (octet_written 46 p.0.1) x p.2 in
    let r = bind_some (λ c. option_map (λ d. mask p.0.0 q.0.0 c.0 d) (number_written 256 c.1)) (octet_written 46 q.0.1) x q.2 in
    let s = map_some (λ d. mask p.0.0 q.0.0 r.0.0 d) (number_written 256 r.0.1) x r.2 in
    let a = octet_found 46 text p.0.0 p.0.1 p.1 in
    let b = octet_found 46 p.0.1 q.0.0 q.0.1 q.1 in
    let c = octet_found 46 q.0.1 r.0.0 r.0.1 r.1 in
    let d = number_found 256 r.0.1 s.0 (omega arith) s.1 in
    subst (λ (y : Mask). IsMask y × (text ≡ mask_text y)) s.2 (mask_whole p.0.0 q.0.0 r.0.0 s.0 text p.0.1 q.0.1 r.0.1 a.1 b.1 c.1 d.1 a.0 b.0 c.0 d.0)

pub mask_again : (x : Mask) → IsMask x → mask_written (mask_text x) ≡ Some x
unfolding mask_written four_text mask_of_octets
mask_again x is =
    let a = get_or x.octets 0 0 in
    let b = get_or x.octets 1 0 in
    let c = get_or x.octets 2 0 in
    let d = get_or x.octets 3 0 in
    let third = decimal c ++ 46 ∷ decimal d in
    let second = decimal b ++ 46 ∷ third in
    rw (octet_again 46 a second (is.octets 0) point, octet_again 46 b third (is.octets 1) point, octet_again 46 c (decimal d) (is.octets 2) point, number_again 256 d (omega arith) (is.octets 3))
    (ap (λ (y : List ℕ). Some (mask_of_octets y)) (four_items x.octets is.four))

-- what `parse` answered
pub some_address : (text : List ℕ) (a b : BipAddr) → b ≡ a → IsAddress a → text ≡ text_of a → Some b ≡ address_written text
some_address text a b same is found = ap (λ (x : BipAddr). Some x) same ∙ sym (ap address_written found ∙ address_again a is)

pub no_address : {E : Type 0} (text : List ℕ) (e : E) → ((a : BipAddr) → IsAddress a → text ≡ text_of a → ◌≡◌ {A = Result BipAddr E} (Err e) (Ok a)) → None ≡ address_written text
no_address {E} text e only = on (address_written text) refl
  where
    on : (w : Option BipAddr) → address_written text ≡ w → None ≡ address_written text
    on None f = sym f
    on (Some x) f = let h = address_found text x f in let never = only x h.0 h.1 in absurd cc

pub some_mask : (text : List ℕ) (a b : Mask) → b ≡ a → IsMask a → text ≡ mask_text a → Some b ≡ mask_written text
some_mask text a b same is found = ap (λ (x : Mask). Some x) same ∙ sym (ap mask_written found ∙ mask_again a is)

pub no_mask : (text : List ℕ) → ((a : Mask) → IsMask a → text ≡ mask_text a → ◌≡◌ {A = Option Mask} None (Some a)) → None ≡ mask_written text
no_mask text only = on (mask_written text) refl
  where
    on : (w : Option Mask) → mask_written text ≡ w → None ≡ mask_written text
    on None f = sym f
    on (Some x) f = let h = mask_found text x f in let never = only x h.0 h.1 in absurd cc

-- ---- subnets

slash : ¬ (IsAsciiDigit 47)
slash h = absurd (omega arith)

subnet_network : (octets : List ℕ) (prefix : ℕ) (s : Subnet) → length octets ≡ 4 → AreOctets octets → subnet_of octets prefix ≡ Some s → IsSubnet s × (four_text octets ++ 47 ∷ decimal prefix ≡ subnet_text s)
subnet_network octets prefix s four fits e =
    let network = from_be_bytes w32 octets in
    let c = cond_some (nat_le prefix 32 && eqb (network % size_of prefix) 0) (record { network = network; prefix = prefix }) s e in
    let p = and_parts (nat_le prefix 32) (eqb (network % size_of prefix) 0) c.0 in
    let is : IsSubnet (record { network = network; prefix = prefix }) = record { short = leb-true prefix 32 p.0; network = wide32.below octets fits; zeros = eqb-true _ 0 p.1 } in
    let text = subnet_found octets prefix s four fits e in
    (subst IsSubnet c.1 is, text)

joined : (a b x y : List ℕ) → a ≡ x → b ≡ y → a ++ 47 ∷ b ≡ x ++ 47 ∷ y
joined a b x y e f = rw (e, f) refl

pub subnet_is : (text : List ℕ) (s : Subnet) → subnet_written text ≡ Some s → IsSubnet s × (text ≡ subnet_text s)
unfolding subnet_written
subnet_is text s e =
    let p = bind_some (λ parts. option_and_then (λ ip. option_and_then (subnet_of ip.octets) (number_written 33 parts.1)) (mask_written parts.0)) (split_at 47 text) s e in
    let q = bind_some (λ ip. option_and_then (subnet_of ip.octets) (number_written 33 p.0.1)) (mask_written p.0.0) s p.2 in
    let r = bind_some (subnet_of q.0.octets) (number_written 33 p.0.1) s q.2 in
    let ip = mask_found p.0.0 q.0 q.1 in
    let n = number_found 33 p.0.1 r.0 (omega arith) r.1 in
    let made = subnet_network q.0.octets r.0 s ip.0.four ip.0.octets r.2 in
    (made.0, split_found 47 text p.0.0 p.0.1 p.1 ∙ joined p.0.0 p.0.1 (mask_text q.0) (decimal r.0) ip.1 n.0 ∙ made.1)

pub subnet_written_again : (s : Subnet) → IsSubnet s → subnet_written (subnet_text s) ≡ Some s
unfolding subnet_written
subnet_written_again s is =
    let ip = network_mask s in
    let four = is_network_mask s in
    rw (split_again 47 (mask_text ip) (decimal s.prefix) (mask_lacks ip four), mask_again ip four, number_again 33 s.prefix (omega arith) (omega (arith, is.short))) (subnet_again s is)

pub some_subnet : (text : List ℕ) (a b : Subnet) → b ≡ a → IsSubnet a → text ≡ subnet_text a → Some b ≡ subnet_written text
some_subnet text a b same is found = ap (λ (x : Subnet). Some x) same ∙ sym (ap subnet_written found ∙ subnet_written_again a is)

pub no_subnet : (text : List ℕ) → ((a : Subnet) → IsSubnet a → text ≡ subnet_text a → ◌≡◌ {A = Option Subnet} None (Some a)) → None ≡ subnet_written text
no_subnet text only = on (subnet_written text) refl
  where
    on : (w : Option Subnet) → subnet_written text ≡ w → None ≡ subnet_written text
    on None f = sym f
    on (Some x) f = let h = subnet_is text x f in let never = only x h.0 h.1 in absurd cc
