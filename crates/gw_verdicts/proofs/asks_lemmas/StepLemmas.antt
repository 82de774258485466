-- What each step of the reading leaves of a text.
use Rattle.std.proofs.Common.{◌≡◌, ◌∙◌, ℕ, zero, suc, ◌+◌, ◌-◌, ◌^◌, ◌<◌, ◌≤◌, Bool, true, false, List, [], ◌∷◌, ◌++◌, length, take, drop, Option, Some, None, refl, sym, ap, arith, append_assoc}
use Rattle.std.specs.Prelude.{◌==◌, cond, min, is_none, nat_le, if◌then◌else◌, option_map, slice_set}
use Rattle.std.specs.Io.KnownBytes.{Keeps, prepend_known}
use Rattle.std.specs.List.{cons_option}
use Rattle.std.proofs.lemmas.Bool.Decides.{nat_tests}
use Rattle.std.proofs.lemmas.List.{drop-drop, length-drop, length-take-le, take_all, take_at, take-append-drop, take-append-le, drop-append-le, append-nil}
use Rattle.std.proofs.lemmas.List.Concat.{flat_map-cons}
use Rattle.std.proofs.lemmas.List.Sums.{sum_by-cons}
use Rattle.gw_script.specs.Reader.{BeginsLong, IsNextLine}
use Rattle.gw_script.specs.Script.{lines_of, onto_first}
use Rattle.gw_script.specs.declared.reader.NextLine.TheVariants.{Line}
use Rattle.gw_log_words.specs.Fields.{fields_of, shows_ask}
use Rattle.gw_verdicts.specs.asks.Asks.{ended, shown_by, shown_in, unread_of}
use Rattle.gw_verdicts.specs.declared.asks.cursor.LinePlace.{LinePlace}
use Rattle.gw_verdicts.specs.declared.asks.cursor.LinePlace.TheVariants.{Start, Passed, Fields}
use Rattle.gw_verdicts.specs.asks.Position.{GivesFront, IsBetween, Rest, rest_of}

-- ---- the first of some lines

pub shown_first : (line fields : List ℕ) (lines : List (List ℕ)) → shown_in line ≡ Some fields
    → ended (shown_by (line ∷ lines)) ≡ (fields ++ 10 ∷ []) ++ ended (shown_by lines)
shown_first line fields lines e =
    ap (λ (o : Option (List ℕ)). ended (cons_option o (shown_by lines))) e ∙ flat_map-cons (λ (l : List ℕ). l ++ 10 ∷ []) fields (shown_by lines)

none_first : (line : List ℕ) (lines : List (List ℕ)) → shown_in line ≡ None → ended (shown_by (line ∷ lines)) ≡ ended (shown_by lines)
none_first line lines e = ap (λ (o : Option (List ℕ)). ended (cons_option o (shown_by lines))) e

count_first : (line : List ℕ) (lines : List (List ℕ)) → unread_of (line ∷ lines) ≡ cond (is_none (shown_in line)) 1 0 + unread_of lines
count_first line lines = sum_by-cons (λ (l : List ℕ). cond (is_none (shown_in l)) 1 0) line lines

count_none : (line : List ℕ) (lines : List (List ℕ)) → shown_in line ≡ None → unread_of (line ∷ lines) ≡ 1 + unread_of lines
count_none line lines e = count_first line lines ∙ ap (λ (o : Option (List ℕ)). cond (is_none o) 1 0 + unread_of lines) e

count_shown : (line fields : List ℕ) (lines : List (List ℕ)) → shown_in line ≡ Some fields → unread_of (line ∷ lines) ≡ unread_of lines
count_shown line fields lines e =
    let none : 0 + unread_of lines ≡ unread_of lines = omega arith in
    count_first line lines ∙ ap (λ (o : Option (List ℕ)). cond (is_none o) 1 0 + unread_of lines) e ∙ none

capped : (n k most : ℕ) → min (min (n + 1) most + k) most ≡ min (n + (1 + k)) most
capped n k most = omega arith

-- a line shows what is found in it
by_test : (b : Bool) (fields : Option (List ℕ)) → None ≡ fields → (if b then fields else None) ≡ None
by_test true fields e = sym e
by_test false fields e = refl

none_shown : (line : List ℕ) → None ≡ fields_of shows_ask line → shown_in line ≡ None
none_shown line e = by_test (nat_le (length line) 4096) (fields_of shows_ask line) e

pub some_shown : (line fields : List ℕ) → length line ≤ 4096 → Some fields ≡ fields_of shows_ask line → shown_in line ≡ Some fields
some_shown line fields few e =
    let test : nat_le (length line) 4096 ≡ true = grind (arith, nat_tests, few) in
    rw test (sym e)

long_none : (line : List ℕ) → 4096 < length line → shown_in line ≡ None
long_none line over =
    let test : nat_le (length line) 4096 ≡ false = grind (arith, nat_tests, over) in
    rw test refl

-- ---- a line that is taken

module _ (n len span : ℕ) (unread after rest : List ℕ) (taken : after ≡ drop span unread) (is : IsNextLine unread rest (Line len span)) where
  next_is : lines_of (unread ++ rest) ≡ take len unread ∷ lines_of (after ++ rest)
  next_is = is ∙ ap (λ (u : List ℕ). take len unread ∷ lines_of (u ++ rest)) (sym taken)

  pub takes_passed : GivesFront (Some (rest_of Passed n (unread ++ rest))) (Some (rest_of Start n (after ++ rest))) []
  takes_passed =
      let same : drop 1 (lines_of (unread ++ rest)) ≡ lines_of (after ++ rest) = ap (drop 1) next_is in
      (ap (λ (l : List (List ℕ)). ended (shown_by l)) same, ap (λ (l : List (List ℕ)). min (n + unread_of l) (2 ^ 64 - 1)) (sym same))

  pub takes_none : (more : ℕ) → more ≡ min (n + 1) (2 ^ 64 - 1) → None ≡ fields_of shows_ask (take len unread)
      → GivesFront (Some (rest_of Start n (unread ++ rest))) (Some (rest_of Start more (after ++ rest))) []
  takes_none more counted none =
      let line = take len unread in
      let lines = lines_of (after ++ rest) in
      let shown = none_shown line none in (
        ap (λ (l : List (List ℕ)). ended (shown_by l)) next_is ∙ none_first line lines shown,
        ap (λ (m : ℕ). min (m + unread_of lines) (2 ^ 64 - 1)) counted
            ∙ capped n (unread_of lines) (2 ^ 64 - 1)
            ∙ ap (λ (k : ℕ). min (n + k) (2 ^ 64 - 1)) (sym (ap unread_of next_is ∙ count_none line lines shown)),
      )

front_of_both : (len : ℕ) (unread rest : List ℕ) → len ≤ length unread → take len (unread ++ rest) ≡ take len unread
front_of_both len unread rest within = take-append-le len unread rest within

back_of_both : (span : ℕ) (unread rest : List ℕ) → span ≤ length unread → drop span (unread ++ rest) ≡ drop span unread ++ rest
back_of_both span unread rest within = drop-append-le span unread rest within

pub takes_own : (n next len span : ℕ) (unread rest : List ℕ) → length (take len unread) ≤ 4096 → len ≤ length unread → span ≤ length unread
    → IsNextLine unread rest (Line len span) → Some (drop next (take len unread)) ≡ fields_of shows_ask (take len unread)
    → GivesFront (Some (rest_of Start n (unread ++ rest))) (Some (rest_of (Fields next len span) n (unread ++ rest))) []
takes_own n next len span unread rest few within whole is found =
    let line = take len unread in
    let lines = lines_of (drop span (unread ++ rest)) in
    let shown = some_shown line (drop next line) few found in
    let next_is : lines_of (unread ++ rest) ≡ line ∷ lines =
    is ∙ ap (λ (t : List ℕ). line ∷ lines_of t) (sym (back_of_both span unread rest whole)) in (
      ap (λ (l : List (List ℕ)). ended (shown_by l)) next_is ∙ shown_first line (drop next line) lines shown
          ∙ ap (λ (t : List ℕ). (drop next t ++ 10 ∷ []) ++ ended (shown_by lines)) (sym (front_of_both len unread rest within)),
      ap (λ (k : ℕ). min (n + k) (2 ^ 64 - 1)) (sym (ap unread_of next_is ∙ count_shown line (drop next line) lines shown)),
    )

-- ---- a long line

no_line : (line : List ℕ) (others : List (List ℕ)) → ◌≡◌ {A = List (List ℕ)} [] (line ∷ others) → ⊥
no_line line others e = cc

-- what is left of a text whose first line goes on
abbrev Leaves : ℕ → List ℕ → Type 0
Leaves n text =
    (line : List ℕ) (others : List (List ℕ)) → lines_of text ≡ line ∷ others → n < length line → lines_of (drop n text) ≡ drop n line ∷ others

drop_onto : (n c : ℕ) (text line : List ℕ) (others lines : List (List ℕ)) → Leaves n text → lines_of text ≡ lines
    → onto_first c lines ≡ line ∷ others → suc n < length line → lines_of (drop n text) ≡ drop (suc n) line ∷ others
drop_onto n c text line others [] later is e within =
    let one : line ≡ c ∷ [] = cc in
    absurd (omega (arith, within, ap length one))
drop_onto n c text line others (first ∷ lines) later is e within =
    let whole : line ≡ c ∷ first = cc in
    let same : others ≡ lines = cc in
    later first lines is (omega (arith, within, ap length whole))
    ∙ ap (λ (l : List (List ℕ)). drop n first ∷ l) (sym same) ∙ ap (λ (l : List ℕ). drop (suc n) l ∷ others) (sym whole)

drop_at : (n c : ℕ) (text line : List ℕ) (others : List (List ℕ)) (b : Bool) → Leaves n text
    → (if b then [] ∷ lines_of text else onto_first c (lines_of text)) ≡ line ∷ others → suc n < length line
    → lines_of (drop n text) ≡ drop (suc n) line ∷ others
drop_at n c text line others true later e within =
    let none : line ≡ [] = cc in
    absurd (omega (arith, within, ap length none))
drop_at n c text line others false later e within = drop_onto n c text line others (lines_of text) later refl e within

drop_in : (n : ℕ) (text : List ℕ) → Leaves n text
unfolding lines_of
drop_in zero text line others is within = is
drop_in (suc n) [] line others is within = absurd (no_line line others is)
drop_in (suc n) (c ∷ text) line others is within = drop_at n c text line others (c == 10) (drop_in n text) is within

module _ (n count : ℕ) (unread after rest : List ℕ) (taken : after ≡ drop count unread) (within : count ≤ length unread)
    (most : count ≤ 4096) (long : BeginsLong (unread ++ rest)) where
  left_of_line : lines_of (after ++ rest) ≡ drop count long.line ∷ long.others
  left_of_line =
      ap (λ (u : List ℕ). lines_of (u ++ rest)) taken ∙ ap lines_of (sym (back_of_both count unread rest within))
      ∙ drop_in count (unread ++ rest) long.line long.others long.lines (omega (arith, most, long.over))

  passes_on : drop 1 (lines_of (after ++ rest)) ≡ long.others
  passes_on = ap (drop 1) left_of_line

  pub passes_more : GivesFront (Some (rest_of Passed n (unread ++ rest))) (Some (rest_of Passed n (after ++ rest))) []
  passes_more =
      let same : drop 1 (lines_of (unread ++ rest)) ≡ drop 1 (lines_of (after ++ rest)) = ap (drop 1) long.lines ∙ sym passes_on in
      (ap (λ (l : List (List ℕ)). ended (shown_by l)) same, ap (λ (l : List (List ℕ)). min (n + unread_of l) (2 ^ 64 - 1)) (sym same))

  pub passes_first : (more : ℕ) → more ≡ min (n + 1) (2 ^ 64 - 1)
      → GivesFront (Some (rest_of Start n (unread ++ rest))) (Some (rest_of Passed more (after ++ rest))) []
  passes_first more counted =
      let shown = long_none long.line long.over in (
        ap (λ (l : List (List ℕ)). ended (shown_by l)) long.lines ∙ none_first long.line long.others shown
            ∙ ap (λ (l : List (List ℕ)). ended (shown_by l)) (sym passes_on),
        ap (λ (l : List (List ℕ)). min (more + unread_of l) (2 ^ 64 - 1)) passes_on
            ∙ ap (λ (m : ℕ). min (m + unread_of long.others) (2 ^ 64 - 1)) counted
            ∙ capped n (unread_of long.others) (2 ^ 64 - 1)
            ∙ ap (λ (k : ℕ). min (n + k) (2 ^ 64 - 1)) (sym (ap unread_of long.lines ∙ count_none long.line long.others shown)),
      )

  pub passes_between : (place : LinePlace) → IsBetween place → (place ≡ Start → ⊥)
      → GivesFront (Some (rest_of place n (unread ++ rest))) (Some (rest_of place n (after ++ rest))) []
  passes_between Start between other = absurd (other refl)
  passes_between Passed between other = passes_more
  passes_between (Fields next len span) between other = absurd between

-- a line that is long by itself has so many octets
abbrev Fits : List ℕ → Type 0
Fits text = (line : List ℕ) (others : List (List ℕ)) → lines_of text ≡ line ∷ others → length line ≤ length text

fit_onto : (c : ℕ) (text line : List ℕ) (others lines : List (List ℕ)) → Fits text → lines_of text ≡ lines
    → onto_first c lines ≡ line ∷ others → length line ≤ suc (length text)
fit_onto c text line others [] later is e =
    let one : line ≡ c ∷ [] = cc in
    omega (arith, ap length one)
fit_onto c text line others (first ∷ lines) later is e =
    let whole : line ≡ c ∷ first = cc in
    omega (arith, ap length whole, later first lines is)

fit_at : (c : ℕ) (text line : List ℕ) (others : List (List ℕ)) (b : Bool) → Fits text
    → (if b then [] ∷ lines_of text else onto_first c (lines_of text)) ≡ line ∷ others → length line ≤ suc (length text)
fit_at c text line others true later e =
    let none : line ≡ [] = cc in
    omega (arith, ap length none)
fit_at c text line others false later e = fit_onto c text line others (lines_of text) later refl e

lines_fit : (text : List ℕ) → Fits text
unfolding lines_of
lines_fit [] line others is = absurd (no_line line others is)
lines_fit (c ∷ text) line others is = omega (arith, fit_at c text line others (c == 10) (lines_fit text) is)

pub long_length : (unread : List ℕ) → BeginsLong (unread ++ []) → 4096 ≤ length unread
long_length unread long =
    omega (arith, long.over, lines_fit (unread ++ []) long.line long.others long.lines, ap length (append-nil unread))

-- ---- what is given

pub gives_own : (left : Option (List ℕ)) (n next len span count : ℕ) (unread given : List ℕ) → len ≤ length unread
    → given ≡ take count (drop next (take len unread))
    → GivesFront (option_map (rest_of (Fields next len span) n) (prepend_known unread left))
    (option_map (rest_of (Fields (next + count) len span) n) (prepend_known unread left)) given
gives_own None n next len span count unread given within is = tt
gives_own (Some rest) n next len span count unread given within is =
    let text = unread ++ rest in
    let own = drop next (take len text) in
    let others = ended (shown_by (lines_of (drop span text))) in
    let same : given ≡ take count own = is ∙ ap (λ (t : List ℕ). take count (drop next t)) (sym (front_of_both len unread rest within)) in
    let parts : own ≡ given ++ drop (next + count) (take len text) =
    sym (take-append-drop count own) ∙ ap (λ (t : List ℕ). take count own ++ t) (drop-drop count next (take len text))
    ∙ ap (λ (t : List ℕ). t ++ drop (next + count) (take len text)) (sym same) in (
      ap (λ (t : List ℕ). (t ++ 10 ∷ []) ++ others) parts
          ∙ ap (λ (t : List ℕ). t ++ others) (append_assoc given (drop (next + count) (take len text)) (10 ∷ []))
          ∙ append_assoc given (drop (next + count) (take len text) ++ 10 ∷ []) others,
      refl,
    )

pub gives_feed : (left : Option (List ℕ)) (n next len span : ℕ) (unread after given : List ℕ) → len ≤ length unread → span ≤ length unread
    → drop next (take len unread) ≡ [] → given ≡ 10 ∷ [] → after ≡ drop span unread
    → GivesFront (option_map (rest_of (Fields next len span) n) (prepend_known unread left))
    (option_map (rest_of Start n) (prepend_known after left)) given
gives_feed None n next len span unread after given within whole none is taken = tt
gives_feed (Some rest) n next len span unread after given within whole none is taken =
    let text = unread ++ rest in
    let own : drop next (take len text) ≡ [] = ap (drop next) (front_of_both len unread rest within) ∙ none in
    let back : drop span text ≡ after ++ rest = back_of_both span unread rest whole ∙ ap (λ (t : List ℕ). t ++ rest) (sym taken) in (
      ap (λ (t : List ℕ). (t ++ 10 ∷ []) ++ ended (shown_by (lines_of (drop span text)))) own
          ∙ ap (λ (t : List ℕ). (10 ∷ []) ++ ended (shown_by (lines_of t))) back
          ∙ ap (λ (t : List ℕ). t ++ ended (shown_by (lines_of (after ++ rest)))) (sym is),
      ap (λ (t : List ℕ). min (n + unread_of (lines_of t)) (2 ^ 64 - 1)) (sym back),
    )

none_left : (xs : List ℕ) → length xs ≡ 0 → xs ≡ []
none_left [] e = refl
none_left (x ∷ xs) e = absurd (omega (arith, e))

rest_of_front : (next : ℕ) (front own : List ℕ) → front ≡ own → take (length front - next) (drop next front) ≡ drop next own
rest_of_front next front own same =
    take_all (length front - next) (drop next front) (omega (arith, length-drop next front)) ∙ ap (drop next) same

pub emptied : (next : ℕ) (front own : List ℕ) → front ≡ own → true ≡ (length (take (length front - next) (drop next front)) == 0)
    → drop next own ≡ []
emptied next front own same empty =
    let rest = rest_of_front next front own same in
    let none : length (take (length front - next) (drop next front)) ≡ 0 = grind (arith, nat_tests, empty) in
    none_left (drop next own) (sym (ap length rest) ∙ none)

pub one_set : (buffer : List ℕ) → 0 < length buffer → take 1 (slice_set buffer 0 10) ≡ 10 ∷ []
one_set [] some = absurd (omega (arith, some))
one_set (x ∷ buffer) some = refl

pub copied : (count next : ℕ) (copy buffer front own back : List ℕ) → length copy ≡ length (take count buffer) → count ≤ length buffer
    → copy ≡ take count (take (length front - next) (drop next front)) → front ≡ own → take count (copy ++ back) ≡ take count (drop next own)
copied count next copy buffer front own back len room is same =
    let size : length copy ≡ count = len ∙ length-take-le count buffer room in
    take_at copy back count size ∙ is ∙ ap (take count) (rest_of_front next front own same)

-- ---- one step after another

pub gives_none : (rest : Option Rest) → GivesFront rest rest []
gives_none None = tt
gives_none (Some rest) = (refl, refl)

pub gives_then : (a b c : Option Rest) (front : List ℕ) → GivesFront a b [] → GivesFront b c front → GivesFront a c front
gives_then None b c front h k = tt
gives_then (Some a) None c front h k = absurd h
gives_then (Some a) (Some b) None front h k = absurd k
gives_then (Some a) (Some b) (Some c) front h k = (h.0 ∙ k.0, k.1 ∙ h.1)

-- what is read from a source stays the same text
pub kept_text : (place : LinePlace) (n : ℕ) (a b : Option (List ℕ)) → Keeps a b
    → GivesFront (option_map (rest_of place n) a) (option_map (rest_of place n) b) []
kept_text place n None b h = tt
kept_text place n (Some xs) None h = absurd h
kept_text place n (Some xs) (Some ys) h =
    (ap (λ (t : List ℕ). (rest_of place n t).octets) (sym h), ap (λ (t : List ℕ). (rest_of place n t).unread) h)
