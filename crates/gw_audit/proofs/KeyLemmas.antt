-- The keys of stations: what is read is what was written, and what is written is read back.
use Rattle.std.proofs.Common.{◌≡◌, ℕ, zero, suc, ◌+◌, ◌^◌, ◌<◌, ◌≤◌, Bool, true, false, List, [], ◌∷◌, length, drop, get_or, Option, Some, None, refl, sym, ap, subst, ◌∙◌, arith}
use Rattle.std.specs.Prelude.{◌==◌, is_some, if◌then◌else◌}
use Rattle.std.specs.Cmp.Lexicographic.{pointwise, same_text}
use Rattle.std.specs.Prelude.{nat_eq}
use Rattle.std.specs.Int.{w64, from_be_bytes, to_be_bytes}
use Rattle.std.specs.List.{flat_map}
use Rattle.std.specs.Option.{option_map_or}
use Rattle.std.proofs.lemmas.Bool.{eqb-true}
use Rattle.std.proofs.lemmas.Bool.Decides.{nat_tests}
use Rattle.std.proofs.lemmas.Nat.{be_bytes_8, from_be_bytes-to_be_bytes_8}
use Rattle.gw_addr.specs.Address.{big_endian}
use Rattle.gw_addr.specs.Reading.{AreOctets}
use Rattle.gw_addr.specs.Station.{has_key, is_station, key48, key_base, key_of, station_at, two_digits}
use Rattle.gw_addr.specs.Text.{Lacks}
use Rattle.gw_addr.proofs.Keys.{key_of_station, keys_of_others, keys_of_six, keys_of_six_below, octets_of_station, station_at_small, station_of_key}
use Rattle.gw_addr.proofs.Lacking.{lacks_cons}
use Rattle.gw_audit.specs.Line.{absent, key_octets, key_text}
use Rattle.gw_audit.specs.internal.Parts.{station_text}
use Rattle.gw_audit.specs.internal.Reading.{◌>>=◌, key_in, key_of_mac, long_key, long_key_in, mac_in, or_else, station_key}
use Rattle.gw_audit.proofs.Fields.{IsSmall, digits_lack, lacks_in_none}
use Rattle.gw_audit.proofs.MacLemmas.{mac_again, mac_takes}
use Rattle.gw_audit.proofs.ReadingLemmas.{not_same, some_is, step_of}

-- ---- the octets of a number

-- eight cells
of_eight : (P : List ℕ → Type 0) → ((a b c d e f g h : ℕ) → P (a ∷ b ∷ c ∷ d ∷ e ∷ f ∷ g ∷ h ∷ [])) → (eight : List ℕ) → length eight ≡ 8 → P eight
of_eight P each [] len = absurd (omega arith)
of_eight P each (a ∷ []) len = absurd (omega arith)
of_eight P each (a ∷ b ∷ []) len = absurd (omega arith)
of_eight P each (a ∷ b ∷ c ∷ []) len = absurd (omega arith)
of_eight P each (a ∷ b ∷ c ∷ d ∷ []) len = absurd (omega arith)
of_eight P each (a ∷ b ∷ c ∷ d ∷ e ∷ []) len = absurd (omega arith)
of_eight P each (a ∷ b ∷ c ∷ d ∷ e ∷ f ∷ []) len = absurd (omega arith)
of_eight P each (a ∷ b ∷ c ∷ d ∷ e ∷ f ∷ g ∷ []) len = absurd (omega arith)
of_eight P each (a ∷ b ∷ c ∷ d ∷ e ∷ f ∷ g ∷ h ∷ []) len = each a b c d e f g h
of_eight P each (a ∷ b ∷ c ∷ d ∷ e ∷ f ∷ g ∷ h ∷ i ∷ rest) len = absurd (omega arith)

are_octets : (n : ℕ) → AreOctets (to_be_bytes w64 n)
are_octets n zero = omega arith
are_octets n (suc zero) = omega arith
are_octets n (suc (suc zero)) = omega arith
are_octets n (suc (suc (suc zero))) = omega arith
are_octets n (suc (suc (suc (suc zero)))) = omega arith
are_octets n (suc (suc (suc (suc (suc zero))))) = omega arith
are_octets n (suc (suc (suc (suc (suc (suc zero)))))) = omega arith
are_octets n (suc (suc (suc (suc (suc (suc (suc zero))))))) = omega arith
are_octets n (suc (suc (suc (suc (suc (suc (suc (suc i)))))))) = omega arith

-- ---- a key

record AreKeyOctets (mac : List ℕ) (n : ℕ) : Type 0 where
  station : is_station mac ≡ true
  octets : AreOctets mac
  key : key_of_mac mac ≡ Some n

-- the octets of a number where the station that has it is found
abbrev octets_of_found : ℕ → Option (List ℕ) → List ℕ
octets_of_found n found = option_map_or (λ octets. octets) found (to_be_bytes w64 n)

-- a station that has a key has one to seven octets
abbrev IsCounted : List ℕ → Type 0
IsCounted octets = (1 ≤ length octets) × (length octets ≤ 7)

keyed_count : (octets : List ℕ) (n : ℕ) → key_of octets ≡ Some n → IsCounted octets
keyed_count octets n e = by (has_key octets) refl e
  where
    by : (b : Bool) → has_key octets ≡ b → (if b then Some (key_base (length octets) + big_endian octets) else None) ≡ Some n → IsCounted octets
    by true f h = (grind (arith, nat_tests, f), grind (arith, nat_tests, f))
    by false f h = absurd cc

counted_is : (octets : List ℕ) → IsCounted octets → is_station octets ≡ true
counted_is octets is = grind (arith, nat_tests, is.0, is.1)

pub keyed_below : (octets : List ℕ) (n : ℕ) → AreOctets octets → key_of octets ≡ Some n → n < 2 ^ 64
keyed_below octets n fits e = by (key48 octets) refl
  where
    by : (k : Option ℕ) → key48 octets ≡ k → n < 2 ^ 64
    by (Some k) f =
        let is : k ≡ n = some_is k n (sym (keys_of_six octets k f) ∙ e) in
        omega (arith, is, keys_of_six_below octets k fits f)
    by None f =
        let lies = keys_of_others octets n fits f e in
        omega (arith, lies.1, (keyed_count octets n e).1)

-- the six octets of a number of 48 bits
pub six_octets : (n : ℕ) → n < 281474976710656 → key_octets n ≡ drop 2 (to_be_bytes w64 n)
six_octets n small = ap (octets_of_found n) (station_at_small n (omega (arith, small)))

octets_again : (n : ℕ) → n < 2 ^ 64 → AreKeyOctets (key_octets n) n
octets_again n small = by (station_at n) refl
  where
    by : (found : Option (List ℕ)) → station_at n ≡ found → AreKeyOctets (octets_of_found n found) n
    by (Some octets) f =
        let is = key_of_station octets n small f in
        record {
          station = counted_is octets (keyed_count octets n is);
          octets = octets_of_station n octets f;
          key = ap (λ (k : Option ℕ). or_else k (long_key_in octets)) is;
        }
    by None f = record {
      station = refl;
      octets = are_octets n;
      key = ap long_key (from_be_bytes-to_be_bytes_8 n small) ∙ rw f refl;
    }

pub key_again : (n : ℕ) → n < 2 ^ 64 → key_in (key_text n) ≡ Some n
key_again n small =
    let is = octets_again n small in
    ap (λ x. x >>= key_of_mac) (mac_again (key_octets n) is.station is.octets) ∙ is.key

octets_take : (mac : List ℕ) (n : ℕ) → AreOctets mac → key_of_mac mac ≡ Some n → (mac ≡ key_octets n) × (n < 2 ^ 64)
octets_take mac n fits e = by (key_of mac) (length mac == 8) refl refl e
  where
    long : (found : Option (List ℕ)) → station_at (from_be_bytes w64 mac) ≡ found → length mac ≡ 8
        → (if is_some found then None else Some (from_be_bytes w64 mac)) ≡ Some n → (mac ≡ key_octets n) × (n < 2 ^ 64)
    long (Some octets) f len h = absurd cc
    long None f len h =
        let is : from_be_bytes w64 mac ≡ n = some_is (from_be_bytes w64 mac) n h in
        let spelled = be_bytes_8 mac (from_be_bytes w64 mac) len fits refl in
        let none : station_at n ≡ None = ap station_at (sym is) ∙ f in
        let below : from_be_bytes w64 mac < 2 ^ 64 =
        of_eight (λ (o : List ℕ). AreOctets o → from_be_bytes w64 o < 2 ^ 64)
        (λ a b c d e f g h are. omega (arith, are 0, are 1, are 2, are 3, are 4, are 5, are 6, are 7)) mac len fits in
        (sym spelled ∙ ap (to_be_bytes w64) is ∙ ap (octets_of_found n) (sym none), subst (λ (k : ℕ). k < 2 ^ 64) is below)

    by : (found : Option ℕ) (eight : Bool) → key_of mac ≡ found → (length mac == 8) ≡ eight
        → or_else found (if eight then long_key (from_be_bytes w64 mac) else None) ≡ Some n → (mac ≡ key_octets n) × (n < 2 ^ 64)
    by (Some m) eight f g h =
        let is : key_of mac ≡ Some n = f ∙ h in
        (ap (octets_of_found n) (sym (station_of_key mac n fits is)), keyed_below mac n fits is)
    by None true f g h = long (station_at (from_be_bytes w64 mac)) refl (eqb-true (length mac) 8 g) h
    by None false f g h = absurd cc

pub key_takes : (text : List ℕ) (n : ℕ) → key_in text ≡ Some n → (text ≡ key_text n) × (n < 2 ^ 64)
key_takes text n e =
    let mac = step_of (mac_in text) key_of_mac n e in
    let is = mac_takes text mac.value mac.gave in
    let octets = octets_take mac.value n is.octets mac.goes_on in
    (is.spelled ∙ ap (flat_map two_digits) octets.0, octets.1)

pub key_lacks : (c n : ℕ) → c < 48 → Lacks c (key_text n)
key_lacks c n low = digits_lack c low (key_octets n)

pub key_same : (m n : ℕ) → m < 2 ^ 64 → n < 2 ^ 64 → key_text m ≡ key_text n → m ≡ n
key_same m n sm sn e = some_is m n (sym (key_again m sm) ∙ ap key_in e ∙ key_again n sn)

-- ---- a station that may be there

no_absent_key : (n : ℕ) → key_text n ≡ absent → ⊥
no_absent_key n e = key_lacks 45 n (omega arith) 0 (omega (arith, ap length e)) (ap (λ (t : List ℕ). get_or t 0 0) e)

pub station_lacks : (c : ℕ) → c < 45 → (value : Option ℕ) → Lacks c (station_text value)
station_lacks c low None = lacks_cons c 45 [] (λ e. absurd (omega (arith, low, e))) (lacks_in_none c)
station_lacks c low (Some n) = key_lacks c n (omega (arith, low))

pub station_takes : (text : List ℕ) (value : Option ℕ) → station_key text ≡ Some value → (text ≡ station_text value) × IsSmall value
station_takes text value e = by (pointwise nat_eq text absent) (key_in text) refl refl e
  where
    by : (b : Bool) (found : Option ℕ) → pointwise nat_eq text absent ≡ b → key_in text ≡ found
        → (if b then Some None else (elim found [ None ↦ None | Some key ↦ Some (Some key) ])) ≡ Some value
        → (text ≡ station_text value) × IsSmall value
    by true found f g e =
        let is : None ≡ value = some_is None value e in
        subst (λ (v : Option ℕ). (text ≡ station_text v) × IsSmall v) is (same_text text absent (sym f), tt)
    by false None f g e = absurd cc
    by false (Some n) f g e =
        let is : Some n ≡ value = some_is (Some n) value e in
        subst (λ (v : Option ℕ). (text ≡ station_text v) × IsSmall v) is (key_takes text n g)

pub station_again : (value : Option ℕ) → IsSmall value → station_key (station_text value) ≡ Some value
station_again None small = refl
station_again (Some n) small =
    let other : pointwise nat_eq (key_text n) absent ≡ false = not_same (key_text n) absent (no_absent_key n) in
    rw (other, key_again n small) refl

pub station_same : (a b : Option ℕ) → IsSmall a → IsSmall b → station_text a ≡ station_text b → a ≡ b
station_same a b sa sb e = some_is a b (sym (station_again a sa) ∙ ap station_key e ∙ station_again b sb)
