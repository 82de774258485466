-- What a search for a character finds, and what a text of ASCII characters is.
use Rattle.std.proofs.Common.{◌≡◌, ℕ, suc, ◌+◌, ◌-◌, ◌^◌, ◌<◌, List, ◌∷◌, ◌++◌, length, get_or, take, drop, Option, Some, None, sym, ap, ◌∙◌, arith}
use Rattle.std.proofs.lemmas.List.{get_or-take, length-take-le, length-drop, take-append-drop}
use Rattle.std.proofs.Math.Seq.{drop-cons, take-length}
use Rattle.std.proofs.lemmas.Fmt.{IsAscii-decimal}
use Rattle.std.proofs.lemmas.Str.{IsAscii-append, IsUtf8-from_ascii}
use Rattle.std.proofs.lemmas.Str.Ascii.{IsAscii-cons}
use Rattle.std.specs.Str.{IsAscii, IsUtf8}
use Rattle.std.specs.Char.{IsAsciiDigit}
use Rattle.std.specs.Fmt.{decimal}
use Rattle.gw_addr.specs.declared.bip.BipAddr.{BipAddr}
use Rattle.gw_addr.specs.Address.{IsAddress, text_of}
use Rattle.gw_addr.specs.Text.{Lacks}
use Rattle.gw_addr.proofs.Lacking.{address_lacks}
use Rattle.gw_script.specs.internal.Finding.{IsFirstAt}

-- what a search finds is between what comes before it, which lacks it, and what comes after it
pub found_parts : (c : ℕ) (xs : List ℕ) (k : ℕ) → IsFirstAt c xs k → (xs ≡ take k xs ++ c ∷ drop (k + 1) xs) × Lacks c (take k xs)
found_parts c xs k found =
    let tail : drop k xs ≡ c ∷ drop (suc k) xs = drop-cons xs k 0 found.inside ∙ ap (λ (d : ℕ). d ∷ drop (suc k) xs) found.here in
    let step : suc k ≡ k + 1 = omega arith in
    let after : drop (suc k) xs ≡ drop (k + 1) xs = ap (λ (j : ℕ). drop j xs) step in
    let whole : xs ≡ take k xs ++ c ∷ drop (k + 1) xs = sym (take-append-drop k xs) ∙ ap (λ (t : List ℕ). take k xs ++ t) (tail ∙ ap (λ (t : List ℕ). c ∷ t) after) in (
      whole,
      λ i lt e.
          let low : i < k = omega (arith, length-take-le k xs (omega (arith, found.inside))) in
          found.before i low (sym (get_or-take k xs i 0 low) ∙ e),
    )

small_octet : (a : BipAddr) → IsAddress a → (i : ℕ) → get_or a.ip i 0 < 2 ^ 64
small_octet a is i = omega (arith, is.octets i)

part_ascii : (n c : ℕ) (rest : List ℕ) → n < 2 ^ 64 → c < 128 → IsAscii rest → IsAscii (decimal n ++ c ∷ rest)
part_ascii n c rest small low ascii =
    IsAscii-append (decimal n) (c ∷ rest) (IsAscii-decimal n small) (IsAscii-cons c rest low ascii)

-- the text of an address is of ASCII characters, and so of UTF-8
pub address_utf8 : (a : BipAddr) → IsAddress a → IsUtf8 (text_of a)
address_utf8 a is =
    let ends = decimal (get_or a.ip 3 0) ++ 58 ∷ decimal a.udp in
    let later = decimal (get_or a.ip 2 0) ++ 46 ∷ ends in
    let most = decimal (get_or a.ip 1 0) ++ 46 ∷ later in
    let fourth : IsAscii ends = part_ascii (get_or a.ip 3 0) 58 (decimal a.udp) (small_octet a is 3) (omega arith) (IsAscii-decimal a.udp (omega (arith, is.udp))) in
    let third : IsAscii later = part_ascii (get_or a.ip 2 0) 46 ends (small_octet a is 2) (omega arith) fourth in
    let second : IsAscii most = part_ascii (get_or a.ip 1 0) 46 later (small_octet a is 1) (omega arith) third in
    IsUtf8-from_ascii (text_of a) (part_ascii (get_or a.ip 0 0) 46 most (small_octet a is 0) (omega arith) second)

-- all that follows the first characters
pub tail_whole : (n : ℕ) (xs : List ℕ) → take (length xs - n) (drop n xs) ≡ drop n xs
tail_whole n xs = ap (λ (k : ℕ). take k (drop n xs)) (sym (length-drop n xs)) ∙ take-length (drop n xs)

-- what is there isn't missing
pub none_some : {A : Type 0} (x : A) (r : Option A) → r ≡ None → r ≡ Some x → ⊥
none_some x None n s = cc
none_some x (Some y) n s = cc

space : ¬ (IsAsciiDigit 32)
space h = absurd (omega arith)

-- no address has a space in its text
pub no_space : (a : BipAddr) → IsAddress a → Lacks 32 (text_of a)
no_space a is = address_lacks 32 space (λ e. absurd (omega arith)) (λ e. absurd (omega arith)) a is
