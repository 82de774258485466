-- What a line shows of a text.
use Rattle.std.proofs.Common.{◌≡◌, ◌∙◌, ◌-◌, ◌==◌, ◌&&◌, ◌||◌, ℕ, zero, suc, Bool, true, false, List, [], ◌∷◌, drop, if◌then◌else◌, refl, ap}
use Rattle.std.specs.List.{list_all}
use Rattle.std.proofs.Math.Dec.{eqb-suc-zero}
use Rattle.gw_configuration.specs.Shown.{IsShownWhole, ShowsNoneHidden, hidden, hidden_by_three, hidden_by_two, is_hidden_pair, is_hidden_triple, is_printed, shown, shown_after}

-- nothing is shown of nothing
pub shown_none : shown [] ≡ []
unfolding shown_after
shown_none = refl

-- after so many octets the rest is shown
pub shown_rest : (skipped : ℕ) (text : List ℕ) → shown_after skipped text ≡ shown (drop skipped text)
unfolding shown_after
shown_rest zero text = refl
shown_rest (suc skipped) [] = refl
shown_rest (suc skipped) (octet ∷ rest) = shown_rest skipped rest

-- the octet that is shown of a character, of which so many octets are hidden
abbrev octet_of : ℕ → ℕ → ℕ
octet_of octet len = if len == 0 then octet else 63

mark_shown : (octet len : ℕ) → octet_of octet (suc len) ≡ 63
mark_shown octet len = ap (λ (is : Bool). if is then octet else 63) (eqb-suc-zero len)

-- the first octet, and what is shown of the octets after its character
pub shown_first : (octet : ℕ) (rest : List ℕ)
    → shown (octet ∷ rest) ≡ octet_of octet (hidden (octet ∷ rest)) ∷ shown (drop (hidden (octet ∷ rest) - 1) rest)
unfolding shown_after
shown_first octet rest =
    ap (λ (shows : List ℕ). octet_of octet (hidden (octet ∷ rest)) ∷ shows) (shown_rest (hidden (octet ∷ rest) - 1) rest)

-- ---- what has nothing hidden is shown as it is

pub shown_whole : IsShownWhole
shown_whole [] plain = shown_none
shown_whole (octet ∷ rest) plain =
    shown_first octet rest
    ∙ ap (λ (len : ℕ). octet_of octet len ∷ shown (drop (len - 1) rest)) (plain 0)
    ∙ ap (λ (shows : List ℕ). octet ∷ shows) (shown_whole rest (λ place. plain (suc place)))

-- ---- what is shown has nothing hidden

not_both : (a b : Bool) → (a && (b && false)) ≡ false
not_both true true = refl
not_both true false = refl
not_both false b = refl

neither : (a b : Bool) → ((a && false) || (b && false)) ≡ false
neither true true = refl
neither true false = refl
neither false true = refl
neither false false = refl

none_of : (a b c : Bool) → (a && ((b && false) || (c && false))) ≡ false
none_of true b c = neither b c
none_of false b c = refl

never : (a : Bool) → (a && false) ≡ false
never true = refl
never false = refl

-- no hidden character has a `?`
pair_with_mark : (a : ℕ) → is_hidden_pair a 63 ≡ false
pair_with_mark a = neither (a == 194) (a == 216)

triple_with_mark : (a c : ℕ) → is_hidden_triple a 63 c ≡ false
triple_with_mark a c = never (a == 226)

triple_by_mark : (a b : ℕ) → is_hidden_triple a b 63 ≡ false
triple_by_mark a b = none_of (a == 226) (b == 128) (b == 129)

three_with_mark : (a : ℕ) (text : List ℕ) → hidden_by_three a 63 text ≡ 0
three_with_mark a [] = refl
three_with_mark a (c ∷ rest) = ap (λ (is : Bool). if is then 3 else 0) (triple_with_mark a c)

two_with_mark : (a : ℕ) (text : List ℕ) → hidden_by_two a (63 ∷ text) ≡ 0
two_with_mark a text = ap (λ (is : Bool). if is then 2 else hidden_by_three a 63 text) (pair_with_mark a) ∙ three_with_mark a text

mark_first : (text : List ℕ) → hidden (63 ∷ text) ≡ 0
mark_first [] = refl
mark_first (b ∷ []) = refl
mark_first (b ∷ c ∷ rest) = refl

-- what isn't hidden by the octets that follow isn't by what is shown of them
still_three : (a b : ℕ) (text : List ℕ) → hidden_by_three a b text ≡ 0 → hidden_by_three a b (shown text) ≡ 0
still_three a b [] e = ap (hidden_by_three a b) shown_none
still_three a b (c ∷ rest) e = ap (hidden_by_three a b) (shown_first c rest) ∙ at (hidden (c ∷ rest))
  where
    at : (len : ℕ) → hidden_by_three a b (octet_of c len ∷ shown (drop (len - 1) rest)) ≡ 0
    at zero = e
    at (suc len) =
        ap (λ (o : ℕ). hidden_by_three a b (o ∷ shown (drop (suc len - 1) rest))) (mark_shown c len)
        ∙ ap (λ (is : Bool). if is then 3 else 0) (triple_by_mark a b)

still_two : (a : ℕ) (text : List ℕ) → hidden_by_two a text ≡ 0 → hidden_by_two a (shown text) ≡ 0
still_two a [] e = ap (hidden_by_two a) shown_none
still_two a (b ∷ rest) e = ap (hidden_by_two a) (shown_first b rest) ∙ at (hidden (b ∷ rest))
  where
    by : (is : Bool) → (if is then 2 else hidden_by_three a b rest) ≡ 0 → (if is then 2 else hidden_by_three a b (shown rest)) ≡ 0
    by true two = absurd (cc)
    by false none = still_three a b rest none

    at : (len : ℕ) → hidden_by_two a (octet_of b len ∷ shown (drop (len - 1) rest)) ≡ 0
    at zero = by (is_hidden_pair a b) e
    at (suc len) =
        ap (λ (o : ℕ). hidden_by_two a (o ∷ shown (drop (suc len - 1) rest))) (mark_shown b len)
        ∙ two_with_mark a (shown (drop (suc len - 1) rest))

still_shown : (octet : ℕ) (rest : List ℕ) → hidden (octet ∷ rest) ≡ 0 → hidden (octet ∷ shown rest) ≡ 0
still_shown octet rest e = by (is_printed octet) e
  where
    by : (is : Bool) → (if is then hidden_by_two octet rest else 1) ≡ 0 → (if is then hidden_by_two octet (shown rest) else 1) ≡ 0
    by true none = still_two octet rest none
    by false one = absurd (cc)

none_first : (octet : ℕ) (rest : List ℕ) (len : ℕ) → hidden (octet ∷ rest) ≡ len → hidden (octet_of octet len ∷ shown_after (len - 1) rest) ≡ 0
none_first octet rest zero e = still_shown octet rest e
none_first octet rest (suc len) e =
    ap (λ (o : ℕ). hidden (o ∷ shown_after (suc len - 1) rest)) (mark_shown octet len) ∙ mark_first (shown_after (suc len - 1) rest)

none_hidden : (skipped : ℕ) (text : List ℕ) (place : ℕ) → hidden (drop place (shown_after skipped text)) ≡ 0
unfolding shown_after
none_hidden skipped [] zero = refl
none_hidden skipped [] (suc place) = refl
none_hidden (suc skipped) (octet ∷ rest) place = none_hidden skipped rest place
none_hidden zero (octet ∷ rest) zero = none_first octet rest (hidden (octet ∷ rest)) refl
none_hidden zero (octet ∷ rest) (suc place) = none_hidden (hidden (octet ∷ rest) - 1) rest place

pub shows_none_hidden : ShowsNoneHidden
shows_none_hidden text place = none_hidden 0 text place

-- ---- and so no control character of ASCII

printed : (octet : ℕ) (rest : List ℕ) → hidden (octet ∷ rest) ≡ 0 → is_printed octet ≡ true
printed octet rest e = by (is_printed octet) e
  where
    by : (is : Bool) → (if is then hidden_by_two octet rest else 1) ≡ 0 → is ≡ true
    by true none = refl
    by false one = absurd (cc)

each_printed : (text : List ℕ) → ((place : ℕ) → hidden (drop place text) ≡ 0) → list_all is_printed text ≡ true
each_printed [] plain = refl
each_printed (octet ∷ rest) plain = rw (printed octet rest (plain 0)) (each_printed rest (λ place. plain (suc place)))

pub all_printed : (text : List ℕ) → list_all is_printed (shown text) ≡ true
all_printed text = each_printed (shown text) (shows_none_hidden text)
