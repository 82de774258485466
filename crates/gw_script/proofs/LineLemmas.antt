-- The lines of a text, one by one.
use Rattle.std.proofs.Common.{◌≡◌, ◌≢◌, ℕ, suc, ◌+◌, ◌<◌, false, ◌==◌, List, [], ◌∷◌, ◌++◌, length, codes, take, drop, refl, sym, ap, ◌∙◌, arith, append_assoc}
use Rattle.std.proofs.lemmas.List.{length-take-le, length-append}
use Rattle.std.proofs.lemmas.Bool.Decides.{nat_tests}
use Rattle.gw_script.specs.Script.{lines_of, onto_first}
use Rattle.gw_addr.specs.Text.{Lacks}
use Rattle.gw_script.specs.Reader.{BeginsLong}
use Rattle.gw_script.specs.internal.Finding.{IsFirstAt}
use Rattle.gw_script.proofs.SearchLemmas.{found_parts}

other : (c : ℕ) (line : List ℕ) → Lacks 10 (c ∷ line) → (c == 10) ≡ false
other c line lacks =
    let differs : c ≢ 10 = lacks 0 (omega arith) in
    grind (arith, nat_tests)

pub lines_of-line : (line rest : List ℕ) → Lacks 10 line → lines_of (line ++ 10 ∷ rest) ≡ line ∷ lines_of rest
unfolding lines_of
lines_of-line [] rest lacks = refl
lines_of-line (c ∷ line) rest lacks =
    rw (other c line lacks) (ap (onto_first c) (lines_of-line line rest (λ i lt. lacks (suc i) (omega arith))))

-- the line of a tick comes first
pub tick_line : (text rest : List ℕ) → text ≡ codes "tick" ++ 10 ∷ drop 5 text → lines_of (text ++ rest) ≡ take 4 text ∷ lines_of (drop 5 text ++ rest)
unfolding lines_of
tick_line text rest begins =
    ap (λ (t : List ℕ). lines_of (t ++ rest)) begins
    ∙ ap (λ (t : List ℕ). t ∷ lines_of (drop 5 text ++ rest)) (sym (ap (take 4) begins))

pub lines_of-last : (line : List ℕ) → Lacks 10 line → 0 < length line → lines_of line ≡ line ∷ []
unfolding lines_of
lines_of-last [] lacks some = absurd (omega arith)
lines_of-last (c ∷ []) lacks some = rw (other c [] lacks) refl
lines_of-last (c ∷ d ∷ line) lacks some =
    rw (other c (d ∷ line) lacks) (ap (onto_first c) (lines_of-last (d ∷ line) (λ i lt. lacks (suc i) (omega arith)) (omega arith)))

pub lines_of-nil : lines_of [] ≡ []
unfolding lines_of
lines_of-nil = refl

-- the first line of a text begins with a front
record StartsLine (front text : List ℕ) : Type 0 where
  more : List ℕ
  others : List (List ℕ)
  lines : lines_of text ≡ (front ++ more) ∷ others

starts_one : (c : ℕ) (rest : List ℕ) (lines : List (List ℕ)) → (c == 10) ≡ false → lines_of rest ≡ lines → StartsLine (c ∷ []) (c ∷ rest)
unfolding lines_of
starts_one c rest [] differs e = record { more = []; others = []; lines = rw differs (ap (onto_first c) e) }
starts_one c rest (line ∷ lines) differs e = record { more = line; others = lines; lines = rw differs (ap (onto_first c) e) }

starts_line : (front rest : List ℕ) → Lacks 10 front → 0 < length front → StartsLine front (front ++ rest)
unfolding lines_of
starts_line [] rest lacks some = absurd (omega arith)
starts_line (c ∷ []) rest lacks some = starts_one c rest (lines_of rest) (other c [] lacks) refl
starts_line (c ∷ d ∷ front) rest lacks some =
    let tail = starts_line (d ∷ front) rest (λ i lt. lacks (suc i) (omega arith)) (omega arith) in
    record { more = tail.more; others = tail.others; lines = rw (other c (d ∷ front) lacks) (ap (onto_first c) tail.lines) }

-- many octets without a line feed begin a long line
pub begins_long : (unread rest : List ℕ) → Lacks 10 unread → 4096 < length unread → BeginsLong (unread ++ rest)
begins_long unread rest lacks many =
    let line = starts_line unread rest lacks (omega arith) in
    record { line = unread ++ line.more; others = line.others; over = omega (arith, length-append unread line.more); lines = line.lines }

-- the first line ends at the first line feed that is unread
pub first_line : (unread : List ℕ) (k : ℕ) → IsFirstAt 10 unread k → (rest : List ℕ) → lines_of (unread ++ rest) ≡ take k unread ∷ lines_of (drop (k + 1) unread ++ rest)
first_line unread k found rest =
    let parts = found_parts 10 unread k found in
    ap (λ (t : List ℕ). lines_of (t ++ rest)) parts.0
    ∙ ap lines_of (append_assoc (take k unread) (10 ∷ drop (k + 1) unread) rest)
    ∙ lines_of-line (take k unread) (drop (k + 1) unread ++ rest) parts.1

-- the same where it is long
pub first_line_long : (unread : List ℕ) (k : ℕ) → IsFirstAt 10 unread k → 4096 < k → (rest : List ℕ) → BeginsLong (unread ++ rest)
first_line_long unread k found over rest =
    let len : length (take k unread) ≡ k = length-take-le k unread (omega (arith, found.inside)) in
    record { line = take k unread; others = lines_of (drop (k + 1) unread ++ rest); over = omega (arith, len); lines = first_line unread k found rest }
