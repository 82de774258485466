-- The end of a line that is in a text, and is appended once more.
use Rattle.std.proofs.Common.{◌≡◌, ◌∙◌, ℕ, ◌+◌, ◌-◌, ◌*◌, ◌≤◌, List, [], ◌∷◌, ◌++◌, length, slice_range, take, drop, sym, ap, arith, append_assoc}
use Rattle.std.proofs.lemmas.List.{drop_at, length-append, length-take-le, take-append-drop, take_all, take_at}
use Rattle.hex.specs.Hex.{encode_upper, upper_digits}
use Rattle.hex.proofs.HexLemmas.{length-encode_with}
use Rattle.gw_addr.specs.declared.bip.BipAddr.{BipAddr}
use Rattle.gw_script.specs.Text.{EndsWith, send_head, send_line, send_tail}

pub tail_length : (octets : List ℕ) → length (send_tail octets) ≡ 2 * length octets + 1
tail_length octets = omega (arith, length-append (encode_upper octets) (10 ∷ []), length-encode_with upper_digits octets)

-- so many octets are before the place
pub tail_fits : (items octets : List ℕ) (end : ℕ) → end ≤ length items → EndsWith (take end items) (send_tail octets)
    → 2 * length octets + 1 ≤ end
tail_fits items octets end within stands =
    omega (arith, tail_length octets, length-take-le end items within, ap length stands.is, length-append stands.front (send_tail octets))

-- and they are the end of the line
pub tail_there : (items octets : List ℕ) (end : ℕ) → end ≤ length items → EndsWith (take end items) (send_tail octets)
    → slice_range items (end - (2 * length octets + 1)) end ≡ send_tail octets
tail_there items octets end within stands =
    let tail = send_tail octets in
    let rest = drop end items in
    let count : ℕ = 2 * length octets + 1 in
    let whole : items ≡ stands.front ++ (tail ++ rest) =
    sym (take-append-drop end items) ∙ ap (λ (t : List ℕ). t ++ rest) stands.is ∙ append_assoc stands.front tail rest in
    let at : length stands.front ≡ end - count =
    omega (arith, tail_length octets, length-take-le end items within, ap length stands.is, length-append stands.front tail) in
    let size : length tail ≡ end - (end - count) =
    omega (arith, tail_length octets, length-take-le end items within, ap length stands.is, length-append stands.front tail) in
    ap (λ (t : List ℕ). slice_range t (end - count) end) whole
    ∙ ap (take (end - (end - count))) (drop_at stands.front (tail ++ rest) (end - count) at)
    ∙ take_at tail rest (end - (end - count)) size

-- what stood in front of a text that is filled up
pub front_stays : (items grown fill : List ℕ) (place all : ℕ) → length items ≡ place → place ≤ all → grown ≡ take all items ++ fill
    → take place grown ≡ items
front_stays items grown fill place all len fits is =
    ap (take place) (is ∙ ap (λ (t : List ℕ). t ++ fill) (take_all all items (omega (arith, len, fits)))) ∙ take_at items fill place len

-- the same octets after a text
pub copied_behind : (items octets front new : List ℕ) (end : ℕ) → end ≤ length items → EndsWith (take end items) (send_tail octets)
    → front ≡ items → new ≡ front ++ slice_range front (end - (2 * length octets + 1)) end → new ≡ items ++ send_tail octets
copied_behind items octets front new end within stands is copied =
    copied ∙ ap (λ (t : List ℕ). t ++ slice_range t (end - (2 * length octets + 1)) end) is
    ∙ ap (λ (t : List ℕ). items ++ t) (tail_there items octets end within stands)

-- a text ends with the octets of its last line
pub line_ends : (old new : List ℕ) (port : ℕ) (to : BipAddr) (octets : List ℕ) → new ≡ old ++ send_line port to octets
    → EndsWith new (send_tail octets)
line_ends old new port to octets is =
    let parts : old ++ send_line port to octets ≡ (old ++ send_head port to) ++ send_tail octets =
    ap (λ (t : List ℕ). old ++ t) (append_assoc (send_head port to) (encode_upper octets) (10 ∷ []))
    ∙ sym (append_assoc old (send_head port to) (send_tail octets)) in
    record { front = old ++ send_head port to; is = is ∙ parts }
