-- Words and lines, as the reading functions read them: what is read is there, and what is there is read.
use Rattle.std.proofs.Common.{◌≡◌, ◌∙◌, ℕ, zero, suc, ◌+◌, ◌^◌, ◌<◌, ◌≤◌, Bool, true, false, List, [], ◌∷◌, ◌++◌, length, take, drop, get_or, Option, Some, None, refl, sym, ap, ap₂, subst, arith}
use Rattle.std.specs.Prelude.{codes, nat_lt, nat_eq, ◌==◌, if◌then◌else◌, position}
use Rattle.std.specs.Char.{IsAsciiDigit}
use Rattle.std.specs.Cmp.Lexicographic.{pointwise}
use Rattle.std.specs.Fmt.{decimal}
use Rattle.std.specs.Option.{option_map}
use Rattle.std.proofs.lemmas.Bool.{le-leb, lt-ltb, ltb-true}
use Rattle.std.proofs.lemmas.List.{drop_at, take_at}
use Rattle.gw_addr.specs.declared.bip.BipAddr.{BipAddr}
use Rattle.gw_addr.specs.declared.entry.BdtEntry.{BdtEntry}
use Rattle.gw_addr.specs.declared.mask.Mask.{Mask}
use Rattle.gw_addr.specs.Address.{IsAddress, text_of}
use Rattle.gw_addr.specs.Entry.{IsBdtEntry}
use Rattle.gw_addr.specs.Mask.{IsMask, mask_text}
use Rattle.gw_addr.specs.Reading.{AreOctets}
use Rattle.gw_addr.specs.Station.{network_of}
use Rattle.gw_addr.specs.Text.{Lacks, four_text}
use Rattle.gw_addr.proofs.Addresses.{address_of_parts}
use Rattle.gw_addr.proofs.Lacking.{not_in_decimal}
use Rattle.gw_tables.specs.declared.bdt_fdt.kept.KeptDevice.{KeptDevice}
use Rattle.gw_tables.specs.declared.routes.route.Route.{Route}
use Rattle.gw_state.specs.declared.counts.SavedCounts.{SavedCounts}
use Rattle.gw_state_text.specs.Fit.{AreCounts, IsDevice, IsPlace, IsRoute}
use Rattle.gw_state_text.specs.Lines.{counts_at, device_at, entry_at, port_at, route_at}
use Rattle.gw_state_text.specs.Words.{◌>>=◌, address_in, address_to, after_word, mask_in, mask_to, network_to, number_in, number_to, parted_at, small_in, small_to}
use Rattle.gw_state_text.specs.internal.Lines.{counts_on, device_on, entry_on, port_on, route_on}
use Rattle.gw_state_text.proofs.WordLemmas.{drop_past, lacks_low, mask_lacks_feed, number_again, number_takes, parts_at, place_first, same_as_itself, some, some_is}

-- what was read before
bind_some : {A B : Type 0} (o : Option A) (f : A → Option B) (y : B) → (o >>= f) ≡ Some y → (x : A) × (o ≡ Some x) × (f x ≡ Some y)
bind_some None f y e = absurd cc
bind_some (Some x) f y e = (x, refl, e)

if_some : {A : Type 0} (b : Bool) (x y : A) → (if b then Some x else None) ≡ Some y → (b ≡ true) × (x ≡ y)
if_some true x y e = (refl, some_is x y e)
if_some false x y e = absurd cc

point : ¬ (IsAsciiDigit 46)
point h = absurd (omega arith)

colon : ¬ (IsAsciiDigit 58)
colon h = absurd (omega arith)

space : ¬ (IsAsciiDigit 32)
space h = absurd (omega arith)

feed : ¬ (IsAsciiDigit 10)
feed h = absurd (omega arith)

-- ---- words

-- what comes before a place, and what comes after it
abbrev cut_at : List ℕ → ℕ → List ℕ × List ℕ
cut_at text place = (take place text, drop (place + 1) text)

pub after_again : (word text rest : List ℕ) → text ≡ word ++ rest → after_word word text ≡ Some rest
unfolding after_word
after_again word text rest e =
    let front : take (length word) text ≡ word = ap (take (length word)) e ∙ take_at word rest (length word) refl in
    let same : pointwise nat_eq (take (length word) text) word ≡ true = ap (λ (t : List ℕ). pointwise nat_eq t word) front ∙ same_as_itself word in
    let back : drop (length word) text ≡ rest = ap (drop (length word)) e ∙ drop_at word rest (length word) refl in
    rw (same, back) refl

pub parted_takes : (c : ℕ) (text word rest : List ℕ) → parted_at c text ≡ Some (word, rest) → text ≡ word ++ c ∷ rest
unfolding parted_at
parted_takes c text word rest e = by (position (λ x. x == c) text) refl e
  where
    by : (found : Option ℕ) → position (λ x. x == c) text ≡ found
        → option_map (λ place. cut_at text place) found ≡ Some (word, rest) → text ≡ word ++ c ∷ rest
    by None f e = absurd cc
    by (Some i) f e =
        let pair : (take i text, drop (i + 1) text) ≡ (word, rest) = some_is (take i text, drop (i + 1) text) (word, rest) e in
        parts_at c text i f ∙ ap (λ (p : List ℕ × List ℕ). p.0 ++ c ∷ p.1) pair

pub parted_again : (c : ℕ) (text word rest : List ℕ) → Lacks c word → text ≡ word ++ c ∷ rest → parted_at c text ≡ Some (word, rest)
unfolding parted_at
parted_again c text word rest lacks e =
    let there : position (λ x. x == c) text ≡ Some (length word) = ap (position (λ x. x == c)) e ∙ place_first c word rest lacks in
    let front : take (length word) text ≡ word = ap (take (length word)) e ∙ take_at word (c ∷ rest) (length word) refl in
    let back : drop (length word + 1) text ≡ rest = ap (drop (length word + 1)) e ∙ drop_past c word rest in
    ap (option_map (λ place. cut_at text place)) there ∙ rw (front, back) refl

-- the same of what a function finds
pub parted_found : (c : ℕ) (text : List ℕ) (place : ℕ) (rest : List ℕ) → Some place ≡ position (λ x. x == c) text
    → rest ≡ drop (place + 1) text → parted_at c text ≡ Some (take place text, rest)
unfolding parted_at
parted_found c text place rest there is =
    ap (option_map (λ place. cut_at text place)) (sym there)
    ∙ ap (λ (t : List ℕ). some (take place text, t)) (sym is)

pub not_parted : (c : ℕ) (text : List ℕ) → None ≡ position (λ x. x == c) text → parted_at c text ≡ None
unfolding parted_at
not_parted c text none = ap (option_map (λ place. cut_at text place)) (sym none)

pub number_to_takes : (c : ℕ) (text : List ℕ) (n : ℕ) (rest : List ℕ) → number_to c text ≡ Some (n, rest)
    → (n < 2 ^ 64) × (text ≡ decimal n ++ c ∷ rest)
unfolding number_to
number_to_takes c text n rest e =
    let p = bind_some (parted_at c text) (λ w. number_in w.0 >>= λ m. Some (m, w.1)) (n, rest) e in
    let q = bind_some (number_in p.0.0) (λ m. Some (m, p.0.1)) (n, rest) p.2 in
    let is = number_takes p.0.0 q.0 q.1 in
    let pair : (q.0, p.0.1) ≡ (n, rest) = some_is (q.0, p.0.1) (n, rest) q.2 in
    let n-is : q.0 ≡ n = ap (λ (x : ℕ × List ℕ). x.0) pair in (
      subst (λ (k : ℕ). k < 2 ^ 64) n-is is.small,
      parted_takes c text p.0.0 p.0.1 p.1 ∙ ap (λ (t : List ℕ). t ++ c ∷ p.0.1) is.spelled
          ∙ ap (λ (x : ℕ × List ℕ). decimal x.0 ++ c ∷ x.1) pair,
    )

pub number_to_again : (c : ℕ) (text : List ℕ) (n : ℕ) (rest : List ℕ) → ¬ (IsAsciiDigit c) → n < 2 ^ 64 → text ≡ decimal n ++ c ∷ rest
    → number_to c text ≡ Some (n, rest)
unfolding number_to
number_to_again c text n rest other small e =
    rw (parted_again c text (decimal n) rest (not_in_decimal n c small other) e, number_again (decimal n) n small refl) refl

pub small_takes : (limit c : ℕ) (text : List ℕ) (n : ℕ) (rest : List ℕ) → small_to limit c text ≡ Some (n, rest)
    → (n < limit) × (text ≡ decimal n ++ c ∷ rest)
unfolding small_to
small_takes limit c text n rest e =
    let p = bind_some (number_to c text) (λ x. if nat_lt x.0 limit then Some x else None) (n, rest) e in
    let q = if_some (nat_lt p.0.0 limit) p.0 (n, rest) p.2 in
    let is = number_to_takes c text p.0.0 p.0.1 p.1 in (
      subst (λ (x : ℕ × List ℕ). x.0 < limit) q.1 (ltb-true p.0.0 limit q.0),
      is.1 ∙ ap (λ (x : ℕ × List ℕ). decimal x.0 ++ c ∷ x.1) q.1,
    )

pub small_again : (limit c : ℕ) (text : List ℕ) (n : ℕ) (rest : List ℕ) → ¬ (IsAsciiDigit c) → n < limit → n < 2 ^ 64
    → text ≡ decimal n ++ c ∷ rest → small_to limit c text ≡ Some (n, rest)
unfolding small_to
small_again limit c text n rest other low small e =
    rw (number_to_again c text n rest other small e, lt-ltb n limit low) refl

pub small_in_takes : (limit : ℕ) (text : List ℕ) (n : ℕ) → small_in limit text ≡ Some n → (n < limit) × (text ≡ decimal n)
unfolding small_in
small_in_takes limit text n e =
    let p = bind_some (number_in text) (λ m. if nat_lt m limit then Some m else None) n e in
    let q = if_some (nat_lt p.0 limit) p.0 n p.2 in
    (subst (λ (k : ℕ). k < limit) q.1 (ltb-true p.0 limit q.0), (number_takes text p.0 p.1).spelled ∙ ap decimal q.1)

pub small_in_again : (limit : ℕ) (text : List ℕ) (n : ℕ) → n < limit → n < 2 ^ 64 → text ≡ decimal n → small_in limit text ≡ Some n
unfolding small_in
small_in_again limit text n low small e = rw (number_again text n small e, lt-ltb n limit low) refl

pub network_again : (text : List ℕ) (n : ℕ) (rest : List ℕ) → 1 ≤ n → n ≤ 65534 → text ≡ decimal n ++ 32 ∷ rest → network_to text ≡ Some (n, rest)
unfolding network_to
network_again text n rest low high e =
    let is : network_of n ≡ Some n = rw (le-leb 1 n low, le-leb n 65534 high) refl in
    rw (small_again (2 ^ 16) 32 text n rest space (omega (arith, high)) (omega (arith, high)) e, is) refl

-- ---- addresses and masks

octets_of_four : (a b c d : ℕ) → a < 256 → b < 256 → c < 256 → d < 256 → AreOctets (a ∷ b ∷ c ∷ d ∷ [])
octets_of_four a b c d p q r s zero = p
octets_of_four a b c d p q r s (suc zero) = q
octets_of_four a b c d p q r s (suc (suc zero)) = r
octets_of_four a b c d p q r s (suc (suc (suc zero))) = s
octets_of_four a b c d p q r s (suc (suc (suc (suc i)))) = omega arith

abbrev address_is : ℕ × List ℕ → ℕ × List ℕ → ℕ × List ℕ → ℕ × List ℕ → ℕ → BipAddr
address_is w x y z udp = record { ip = w.0 ∷ x.0 ∷ y.0 ∷ z.0 ∷ []; udp = udp }

pub address_takes : (text : List ℕ) (a : BipAddr) → address_in text ≡ Some a → IsAddress a × (text ≡ text_of a)
unfolding address_in
address_takes text a e =
    let p = bind_some (small_to 256 46 text) (λ w. small_to 256 46 w.1 >>= λ x. small_to 256 46 x.1 >>= λ y. small_to 256 58 y.1 >>= λ z. small_in (2 ^ 16) z.1 >>= λ udp. Some (address_is w x y z udp)) a e in
    let q = bind_some (small_to 256 46 p.0.1) (λ x. small_to 256 46 x.1 >>= λ y. small_to 256 58 y.1 >>= λ z. small_in (2 ^ 16) z.1 >>= λ udp. Some (address_is p.0 x y z udp)) a p.2 in
    let r = bind_some (small_to 256 46 q.0.1) (λ y. small_to 256 58 y.1 >>= λ z. small_in (2 ^ 16) z.1 >>= λ udp. Some (address_is p.0 q.0 y z udp)) a q.2 in
    let s = bind_some (small_to 256 58 r.0.1) (λ z. small_in (2 ^ 16) z.1 >>= λ udp. Some (address_is p.0 q.0 r.0 z udp)) a r.2 in
    let t = bind_some (small_in (2 ^ 16) s.0.1) (λ udp. Some (address_is p.0 q.0 r.0 s.0 udp)) a s.2 in
    let is = some_is (address_is p.0 q.0 r.0 s.0 t.0) a t.2 in
    let first = small_takes 256 46 text p.0.0 p.0.1 p.1 in
    let second = small_takes 256 46 p.0.1 q.0.0 q.0.1 q.1 in
    let third = small_takes 256 46 q.0.1 r.0.0 r.0.1 r.1 in
    let fourth = small_takes 256 58 r.0.1 s.0.0 s.0.1 s.1 in
    let last = small_in_takes (2 ^ 16) s.0.1 t.0 t.1 in
    let fits : IsAddress (address_is p.0 q.0 r.0 s.0 t.0) = record {
      four = refl;
      octets = octets_of_four p.0.0 q.0.0 r.0.0 s.0.0 first.0 second.0 third.0 fourth.0;
      udp = last.0;
    } in
    let spelled : text ≡ text_of (address_is p.0 q.0 r.0 s.0 t.0) =
    first.1 ∙ ap (λ (u : List ℕ). decimal p.0.0 ++ 46 ∷ u) (second.1
    ∙ ap (λ (u : List ℕ). decimal q.0.0 ++ 46 ∷ u) (third.1
    ∙ ap (λ (u : List ℕ). decimal r.0.0 ++ 46 ∷ u) (fourth.1
    ∙ ap (λ (u : List ℕ). decimal s.0.0 ++ 58 ∷ u) last.1))) in
    (subst IsAddress is fits, spelled ∙ ap text_of is)

pub address_again : (text : List ℕ) (a : BipAddr) → IsAddress a → text ≡ text_of a → address_in text ≡ Some a
unfolding address_in
address_again text a is e =
    let last = decimal a.udp in
    let later = decimal (get_or a.ip 3 0) ++ 58 ∷ last in
    let third = decimal (get_or a.ip 2 0) ++ 46 ∷ later in
    let second = decimal (get_or a.ip 1 0) ++ 46 ∷ third in
    let small : (i : ℕ) → get_or a.ip i 0 < 2 ^ 64 = λ i. omega (arith, is.octets i) in
    let whole = address_of_parts a is (get_or a.ip 0 0) (get_or a.ip 1 0) (get_or a.ip 2 0) (get_or a.ip 3 0) a.udp refl refl refl refl refl in
    rw (
      small_again 256 46 text (get_or a.ip 0 0) second point (is.octets 0) (small 0) e,
      small_again 256 46 second (get_or a.ip 1 0) third point (is.octets 1) (small 1) refl,
      small_again 256 46 third (get_or a.ip 2 0) later point (is.octets 2) (small 2) refl,
      small_again 256 58 later (get_or a.ip 3 0) last colon (is.octets 3) (small 3) refl,
      small_in_again (2 ^ 16) last a.udp is.udp (omega (arith, is.udp)) refl,
    ) (ap (λ (x : BipAddr). Some x) whole)

none_if : {A : Type 0} (o : Option A) → ((x : A) → o ≡ Some x → ⊥) → o ≡ None
none_if None other = refl
none_if (Some x) other = absurd (other x refl)

pub no_address : (text : List ℕ) → ((a : BipAddr) → IsAddress a → text ≡ text_of a → ⊥) → address_in text ≡ None
no_address text other = none_if (address_in text) (λ a e. let is = address_takes text a e in other a is.0 is.1)

pub address_to_again : (c : ℕ) (text : List ℕ) (a : BipAddr) (rest : List ℕ) → c ≤ 32 → IsAddress a → text ≡ text_of a ++ c ∷ rest
    → address_to c text ≡ Some (a, rest)
unfolding address_to
address_to_again c text a rest low is e =
    rw (parted_again c text (text_of a) rest (lacks_low c low a is) e, address_again (text_of a) a is refl) refl

pub address_found : (c : ℕ) (text word : List ℕ) (a : BipAddr) (rest : List ℕ) → parted_at c text ≡ Some (word, rest) → IsAddress a
    → word ≡ text_of a → address_to c text ≡ Some (a, rest)
unfolding address_to
address_found c text word a rest parted is e = rw (parted, address_again word a is e) refl

pub address_missed : (c : ℕ) (text word rest : List ℕ) → parted_at c text ≡ Some (word, rest)
    → ((a : BipAddr) → IsAddress a → word ≡ text_of a → ⊥) → address_to c text ≡ None
unfolding address_to
address_missed c text word rest parted other = rw (parted, no_address word other) refl

abbrev mask_is : ℕ × List ℕ → ℕ × List ℕ → ℕ × List ℕ → ℕ → Mask
mask_is w x y z = record { octets = w.0 ∷ x.0 ∷ y.0 ∷ z ∷ [] }

pub mask_takes : (text : List ℕ) (m : Mask) → mask_in text ≡ Some m → IsMask m × (text ≡ mask_text m)
unfolding mask_in four_text
mask_takes text m e =
    let p = bind_some (small_to 256 46 text) (λ w. small_to 256 46 w.1 >>= λ x. small_to 256 46 x.1 >>= λ y. small_in 256 y.1 >>= λ z. Some (mask_is w x y z)) m e in
    let q = bind_some (small_to 256 46 p.0.1) (λ x. small_to 256 46 x.1 >>= λ y. small_in 256 y.1 >>= λ z. Some (mask_is p.0 x y z)) m p.2 in
    let r = bind_some (small_to 256 46 q.0.1) (λ y. small_in 256 y.1 >>= λ z. Some (mask_is p.0 q.0 y z)) m q.2 in
    let s = bind_some (small_in 256 r.0.1) (λ z. Some (mask_is p.0 q.0 r.0 z)) m r.2 in
    let is = some_is (mask_is p.0 q.0 r.0 s.0) m s.2 in
    let first = small_takes 256 46 text p.0.0 p.0.1 p.1 in
    let second = small_takes 256 46 p.0.1 q.0.0 q.0.1 q.1 in
    let third = small_takes 256 46 q.0.1 r.0.0 r.0.1 r.1 in
    let last = small_in_takes 256 r.0.1 s.0 s.1 in
    let fits : IsMask (mask_is p.0 q.0 r.0 s.0) = record {
      four = refl;
      octets = octets_of_four p.0.0 q.0.0 r.0.0 s.0 first.0 second.0 third.0 last.0;
    } in
    let spelled : text ≡ mask_text (mask_is p.0 q.0 r.0 s.0) =
    first.1 ∙ ap (λ (u : List ℕ). decimal p.0.0 ++ 46 ∷ u) (second.1
    ∙ ap (λ (u : List ℕ). decimal q.0.0 ++ 46 ∷ u) (third.1
    ∙ ap (λ (u : List ℕ). decimal r.0.0 ++ 46 ∷ u) last.1)) in
    (subst IsMask is fits, spelled ∙ ap mask_text is)

four_items : (xs : List ℕ) → length xs ≡ 4 → get_or xs 0 0 ∷ get_or xs 1 0 ∷ get_or xs 2 0 ∷ get_or xs 3 0 ∷ [] ≡ xs
four_items [] e = absurd (omega arith)
four_items (a ∷ []) e = absurd (omega arith)
four_items (a ∷ b ∷ []) e = absurd (omega arith)
four_items (a ∷ b ∷ c ∷ []) e = absurd (omega arith)
four_items (a ∷ b ∷ c ∷ d ∷ []) e = refl
four_items (a ∷ b ∷ c ∷ d ∷ f ∷ xs) e = absurd (omega arith)

abbrev mask : List ℕ → Mask
mask octets = record { octets = octets }

pub mask_again : (text : List ℕ) (m : Mask) → IsMask m → text ≡ mask_text m → mask_in text ≡ Some m
unfolding mask_in four_text
mask_again text m is e =
    let last = decimal (get_or m.octets 3 0) in
    let third = decimal (get_or m.octets 2 0) ++ 46 ∷ last in
    let second = decimal (get_or m.octets 1 0) ++ 46 ∷ third in
    let small : (i : ℕ) → get_or m.octets i 0 < 2 ^ 64 = λ i. omega (arith, is.octets i) in
    rw (
      small_again 256 46 text (get_or m.octets 0 0) second point (is.octets 0) (small 0) e,
      small_again 256 46 second (get_or m.octets 1 0) third point (is.octets 1) (small 1) refl,
      small_again 256 46 third (get_or m.octets 2 0) last point (is.octets 2) (small 2) refl,
      small_in_again 256 last (get_or m.octets 3 0) (is.octets 3) (small 3) refl,
    ) (ap (λ (octets : List ℕ). Some (mask octets)) (four_items m.octets is.four))

pub no_mask : (text : List ℕ) → ((m : Mask) → IsMask m → text ≡ mask_text m → ⊥) → mask_in text ≡ None
no_mask text other = none_if (mask_in text) (λ m e. let is = mask_takes text m e in other m is.0 is.1)

pub mask_to_again : (text : List ℕ) (m : Mask) (rest : List ℕ) → IsMask m → text ≡ mask_text m ++ 10 ∷ rest → mask_to text ≡ Some (m, rest)
unfolding mask_to
mask_to_again text m rest is e =
    rw (parted_again 10 text (mask_text m) rest (mask_lacks_feed m is) e, mask_again (mask_text m) m is refl) refl

pub mask_found : (text word : List ℕ) (m : Mask) (rest : List ℕ) → parted_at 10 text ≡ Some (word, rest) → IsMask m
    → word ≡ mask_text m → mask_to text ≡ Some (m, rest)
unfolding mask_to
mask_found text word m rest parted is e = rw (parted, mask_again word m is e) refl

pub mask_missed : (text word rest : List ℕ) → parted_at 10 text ≡ Some (word, rest)
    → ((m : Mask) → IsMask m → word ≡ mask_text m → ⊥) → mask_to text ≡ None
unfolding mask_to
mask_missed text word rest parted other = rw (parted, no_mask word other) refl

-- ---- lines

pub counts_again : (text : List ℕ) (c : SavedCounts) (rest : List ℕ) → AreCounts c → text ≡ counts_on c rest → counts_at text ≡ Some (c, rest)
unfolding counts_at
counts_again text c rest is e =
    let last = decimal c.denials ++ 10 ∷ rest in
    let second = decimal c.ticks ++ 32 ∷ last in
    let first = decimal c.since ++ 32 ∷ second in
    rw (
      after_again (codes "counts ") text first e,
      number_to_again 32 first c.since second space is.since refl,
      number_to_again 32 second c.ticks last space is.ticks refl,
      number_to_again 10 last c.denials rest feed is.denials refl,
    ) refl

pub port_again : (text : List ℕ) (n : ℕ) (a : BipAddr) (rest : List ℕ) → IsPlace n a → text ≡ port_on n a rest
    → port_at text ≡ Some (n, a, rest)
unfolding port_at
port_again text n a rest is e =
    let last = text_of a ++ 10 ∷ rest in
    let first = decimal n ++ 32 ∷ last in
    rw (
      after_again (codes "port ") text first e,
      network_again first n last is.low is.high refl,
      address_to_again 10 last a rest (omega arith) is.address refl,
    ) refl

pub entry_again : (word text : List ℕ) (entry : BdtEntry) (rest : List ℕ) → IsBdtEntry entry → text ≡ entry_on word entry rest
    → entry_at word text ≡ Some (entry, rest)
unfolding entry_at
entry_again word text entry rest is e =
    let last = four_text entry.mask ++ 10 ∷ rest in
    let first = text_of entry.address ++ 32 ∷ last in
    rw (
      after_again word text first e,
      address_to_again 32 first entry.address last (omega arith) is.address refl,
      mask_to_again last (mask entry.mask) rest (record { four = is.four; octets = is.octets }) refl,
    ) refl

pub device_again : (text : List ℕ) (d : KeptDevice) (rest : List ℕ) → IsDevice d → text ≡ device_on d rest → device_at text ≡ Some (d, rest)
unfolding device_at
device_again text d rest is e =
    let last = decimal d.left ++ 10 ∷ rest in
    let second = decimal d.time_to_live ++ 32 ∷ last in
    let first = text_of d.address ++ 32 ∷ second in
    rw (
      after_again (codes "device ") text first e,
      address_to_again 32 first d.address second (omega arith) is.address refl,
      small_again (2 ^ 16) 32 second d.time_to_live last space is.time_to_live (omega (arith, is.time_to_live)) refl,
      number_to_again 10 last d.left rest feed is.left refl,
    ) refl

pub route_again : (text : List ℕ) (n : ℕ) (r : Route) (rest : List ℕ) → IsRoute (n, r) → text ≡ route_on (n, r) rest
    → route_at text ≡ Some (n, r, rest)
unfolding route_at
route_again text n r rest is e =
    let last = text_of r.next ++ 10 ∷ rest in
    let second = decimal r.port ++ 32 ∷ last in
    let first = decimal n ++ 32 ∷ second in
    rw (
      after_again (codes "route ") text first e,
      network_again first n second is.network.low is.network.high refl,
      small_again (2 ^ 8) 32 second r.port last space is.port (omega (arith, is.port)) refl,
      address_to_again 10 last r.next rest (omega arith) is.network.address refl,
    ) refl
