-- More digits than a station has octets are none.
use Rattle.std.proofs.Common.{◌≡◌, ◌<◌, ◌/◌, ◌&&◌, ℕ, Bool, true, false, List, length, Some, None, Result, Ok, Err, refl, arith}
use Rattle.std.specs.Prelude.{nat_le, if◌then◌else◌}
use Rattle.hex.specs.Hex.{decode_of}
use Rattle.hex.specs.declared.error.FromHexError.{FromHexError}
use Rattle.hex.proofs.HexLemmas.{decode_of-ok}
use Rattle.std.proofs.lemmas.Bool.Decides.{nat_tests}
use Rattle.gw_verdicts.specs.questions.Read.{mac_in}

too_long : (n : ℕ) → 255 < n → nat_le n 255 ≡ false
too_long n long = grind (arith, nat_tests)

with_least : (least : Bool) (octets : List ℕ) → nat_le (length octets) 255 ≡ false
    → (if least && nat_le (length octets) 255 then Some octets else None) ≡ None
with_least true octets e = rw e refl
with_least false octets e = refl

pub too_many : (text : List ℕ) → 255 < length text / 2 → mac_in (decode_of text) ≡ None
too_many text many = by (decode_of text) refl
  where
    by : (r : Result (List ℕ) FromHexError) → decode_of text ≡ r → mac_in r ≡ None
    by (Err fault) e = refl
    by (Ok octets) e =
        let ok = decode_of-ok text octets e in
        with_least (nat_le 1 (length octets)) octets (too_long (length octets) (omega (arith, ok.2, many)))
