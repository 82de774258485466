-- A text without its stamps.
use Rattle.std.proofs.Common.{◌≡◌, ◌∙◌, ◌<◌, ℕ, zero, suc, Bool, true, false, List, [], ◌∷◌, ◌++◌, length, take, Option, Some, None, Result, Ok, Err, refl, sym, ap, ap₂, subst, arith}
use Rattle.std.specs.Prelude.{◌==◌, not, slice_index, IfOk, OnErr}
use Rattle.std.specs.Io.KnownBytes.{Appends, Keeps, WriteAppends}
use Rattle.std.proofs.lemmas.Bool.{ne_eqb}
use Rattle.std.proofs.lemmas.List.{append-nil}
use Rattle.gw_addr.specs.Text.{Lacks}
use Rattle.gw_log_words.specs.declared.moment.Moment.{Moment}
use Rattle.gw_script.proofs.AppendLemmas.{appends_along}
use Rattle.gw_script.proofs.UnreadLemmas.{keeps_same}
use Rattle.gw_log_words.specs.Stamped.{EndsAtMost, IsStamp, IsWrittenStamped, ends_in_stamp, ends_so, held_without, stamp_text, without_stamps}

pub without_both : (b : Bool) (xs ys : List ℕ) → without_stamps b (xs ++ ys) ≡ without_stamps b xs ++ without_stamps (ends_in_stamp b xs) ys
unfolding without_stamps ends_in_stamp
without_both b [] ys = refl
without_both true (c ∷ xs) ys = without_both (not (c == 32)) xs ys
without_both false (c ∷ xs) ys = ap (λ (t : List ℕ). c ∷ t) (without_both (c == 10) xs ys)

pub ends_both : (b : Bool) (xs ys : List ℕ) → ends_in_stamp b (xs ++ ys) ≡ ends_in_stamp (ends_in_stamp b xs) ys
unfolding ends_in_stamp
ends_both b [] ys = refl
ends_both true (c ∷ xs) ys = ends_both (not (c == 32)) xs ys
ends_both false (c ∷ xs) ys = ends_both (c == 10) xs ys

-- a word within a stamp
pub word_gone : (word : List ℕ) → Lacks 32 word → without_stamps true word ≡ []
unfolding without_stamps
word_gone [] lacks = refl
word_gone (c ∷ word) lacks =
    rw (ne_eqb c 32 (lacks 0 (omega arith))) (word_gone word (λ i lt. lacks (suc i) (omega arith)))

pub word_stays : (word : List ℕ) → Lacks 32 word → ends_in_stamp true word ≡ true
unfolding ends_in_stamp
word_stays [] lacks = refl
word_stays (c ∷ word) lacks =
    rw (ne_eqb c 32 (lacks 0 (omega arith))) (word_stays word (λ i lt. lacks (suc i) (omega arith)))

-- a word and a space
by_space : without_stamps true (32 ∷ []) ≡ []
unfolding without_stamps
by_space = refl

space_ends : ends_in_stamp true (32 ∷ []) ≡ false
unfolding ends_in_stamp
space_ends = refl

pub stamp_gone : (word : List ℕ) → Lacks 32 word → without_stamps true (word ++ 32 ∷ []) ≡ []
stamp_gone word lacks =
    without_both true word (32 ∷ [])
    ∙ ap₂ (λ (x y : List ℕ). x ++ y) (word_gone word lacks)
    (ap (λ (b : Bool). without_stamps b (32 ∷ [])) (word_stays word lacks) ∙ by_space)

pub stamp_ends : (word : List ℕ) → Lacks 32 word → ends_in_stamp true (word ++ 32 ∷ []) ≡ false
stamp_ends word lacks =
    ends_both true word (32 ∷ []) ∙ ap (λ (b : Bool). ends_in_stamp b (32 ∷ [])) (word_stays word lacks) ∙ space_ends

-- octets of a line that has begun
pub none_left : (n : ℕ) → take {A = ℕ} n [] ≡ []
none_left zero = refl
none_left (suc n) = refl

nothing_gone : (b : Bool) → without_stamps b [] ≡ []
unfolding without_stamps
nothing_gone b = refl

pub piece_stays : (piece : List ℕ) (n : ℕ) → EndsAtMost piece → without_stamps false (take n piece) ≡ take n piece
unfolding without_stamps
piece_stays piece zero ends = refl
piece_stays [] (suc n) ends = refl
piece_stays (c ∷ []) (suc n) ends =
    ap (λ (t : List ℕ). c ∷ t) (ap (without_stamps (c == 10)) (none_left n) ∙ nothing_gone (c == 10) ∙ sym (none_left n))
piece_stays (c ∷ d ∷ piece) (suc n) ends =
    rw (ne_eqb c 10 (ends 0 (omega arith))) (ap (λ (t : List ℕ). c ∷ t) (piece_stays (d ∷ piece) n (λ i lt. ends (suc i) (omega arith))))

pub piece_ends : (piece : List ℕ) (k : ℕ) → EndsAtMost piece → k < length piece
    → ends_in_stamp false (take (suc k) piece) ≡ (slice_index piece k == 10)
unfolding ends_in_stamp
piece_ends [] k ends within = absurd (omega arith)
piece_ends (c ∷ []) zero ends within = refl
piece_ends (c ∷ []) (suc k) ends within = absurd (omega arith)
piece_ends (c ∷ d ∷ piece) zero ends within = refl
piece_ends (c ∷ d ∷ piece) (suc k) ends within =
    ap (λ (b : Bool). ends_in_stamp b (take (suc k) (d ∷ piece))) (ne_eqb c 10 (ends 0 (omega arith)))
    ∙ piece_ends (d ∷ piece) k (λ i lt. ends (suc i) (omega arith)) (omega arith)

-- ---- what is held

pub appends_some : (u v : Option (List ℕ)) (p q more : List ℕ) → u ≡ Some p → v ≡ Some q → q ≡ p ++ more → Appends u v more
appends_some u v p q more a b e =
    subst (λ (s : Option (List ℕ)). Appends s v more) (sym a) (subst (λ (s : Option (List ℕ)). Appends (Some p) s more) (sym b) e)

pub appends_none : (u v : Option (List ℕ)) (more : List ℕ) → u ≡ None → Appends u v more
appends_none u v more a = subst (λ (s : Option (List ℕ)). Appends s v more) (sym a) tt

keeps_some : (u v : Option (List ℕ)) (p q : List ℕ) → u ≡ Some p → v ≡ Some q → q ≡ p → Keeps u v
keeps_some u v p q a b e =
    subst (λ (s : Option (List ℕ)). Keeps s v) (sym a) (subst (λ (s : Option (List ℕ)). Keeps (Some p) s) (sym b) e)

keeps_none : (u v : Option (List ℕ)) → u ≡ None → Keeps u v
keeps_none u v a = subst (λ (s : Option (List ℕ)). Keeps s v) (sym a) tt

held_is : (b : Bool) (text : List ℕ) → ends_so b text ≡ true → held_without b (Some text) ≡ Some (without_stamps true text)
held_is b text e = rw e refl

held_none : (b : Bool) (text : List ℕ) → ends_so b text ≡ false → held_without b (Some text) ≡ None
held_none b text e = rw e refl

-- a text that ends within a line, or in a stamp
so_within : (text : List ℕ) → ends_in_stamp true text ≡ false → ends_so false text ≡ true
so_within text e = ap not e

so_still : (text : List ℕ) → ends_in_stamp true text ≡ true → ends_so false text ≡ false
so_still text e = ap not e

so_as : (b : Bool) (text : List ℕ) → ends_in_stamp true text ≡ b → ends_so b text ≡ true
so_as true text e = e
so_as false text e = ap not e

-- a word of a stamp changes nothing
pub front_keeps : (x y : Option (List ℕ)) (front : List ℕ) → Lacks 32 front → Appends x y front → Keeps (held_without true x) (held_without true y)
front_keeps None y front lacks grown = tt
front_keeps (Some a) None front lacks grown = absurd grown
front_keeps (Some a) (Some b) front lacks grown = by (ends_in_stamp true a) refl
  where
    by : (e : Bool) → ends_in_stamp true a ≡ e → Keeps (held_without true (Some a)) (held_without true (Some b))
    by false e = keeps_none _ _ (held_none true a e)
    by true e =
        let ends : ends_in_stamp true b ≡ true =
        ap (ends_in_stamp true) grown ∙ ends_both true a front ∙ ap (λ (s : Bool). ends_in_stamp s front) e ∙ word_stays front lacks in
        let same : without_stamps true b ≡ without_stamps true a =
        ap (without_stamps true) grown ∙ without_both true a front
        ∙ ap (λ (t : List ℕ). without_stamps true a ++ t) (ap (λ (s : Bool). without_stamps s front) e ∙ word_gone front lacks)
        ∙ append-nil (without_stamps true a) in
        keeps_some _ _ (without_stamps true a) (without_stamps true b) (held_is true a e) (held_is true b ends) same

-- nor does a whole stamp
pub stamp_keeps : (x y : Option (List ℕ)) (word : List ℕ) → Lacks 32 word → Appends x y (word ++ 32 ∷ []) → Keeps (held_without true x) (held_without false y)
stamp_keeps None y word lacks grown = tt
stamp_keeps (Some a) None word lacks grown = absurd grown
stamp_keeps (Some a) (Some b) word lacks grown = by (ends_in_stamp true a) refl
  where
    by : (e : Bool) → ends_in_stamp true a ≡ e → Keeps (held_without true (Some a)) (held_without false (Some b))
    by false e = keeps_none _ _ (held_none true a e)
    by true e =
        let stamp = word ++ 32 ∷ [] in
        let ends : ends_in_stamp true b ≡ false =
        ap (ends_in_stamp true) grown ∙ ends_both true a stamp ∙ ap (λ (s : Bool). ends_in_stamp s stamp) e ∙ stamp_ends word lacks in
        let same : without_stamps true b ≡ without_stamps true a =
        ap (without_stamps true) grown ∙ without_both true a stamp
        ∙ ap (λ (t : List ℕ). without_stamps true a ++ t) (ap (λ (s : Bool). without_stamps s stamp) e ∙ stamp_gone word lacks)
        ∙ append-nil (without_stamps true a) in
        keeps_some _ _ (without_stamps true a) (without_stamps true b) (held_is true a e) (held_is false b (so_within b ends)) same

-- octets of a line come as they are
piece_grows : (a b piece : List ℕ) (is : Bool) → EndsAtMost piece → (n : ℕ) → b ≡ a ++ take n piece → is ≡ ends_in_stamp false (take n piece)
    → Appends (held_without false (Some a)) (held_without is (Some b)) (take n piece)
piece_grows a b piece is ends n grown last = by (ends_in_stamp true a) refl
  where
    by : (e : Bool) → ends_in_stamp true a ≡ e → Appends (held_without false (Some a)) (held_without is (Some b)) (take n piece)
    by true e = appends_none _ _ _ (held_none false a (so_still a e))
    by false e =
        let more = take n piece in
        let ends_is : ends_in_stamp true b ≡ is =
        ap (ends_in_stamp true) grown ∙ ends_both true a more ∙ ap (λ (s : Bool). ends_in_stamp s more) e ∙ sym last in
        let same : without_stamps true b ≡ without_stamps true a ++ more =
        ap (without_stamps true) grown ∙ without_both true a more
        ∙ ap (λ (t : List ℕ). without_stamps true a ++ t) (ap (λ (s : Bool). without_stamps s more) e ∙ piece_stays piece n ends) in
        appends_some _ _ (without_stamps true a) (without_stamps true b) more (held_is false a (so_within a e)) (held_is is b (so_as is b ends_is)) same

pub piece_writes : {E : Type 0} (x y : Option (List ℕ)) (is : Bool) (r : Result ℕ E) (piece : List ℕ) → EndsAtMost piece
    → WriteAppends x y r piece → IfOk r (λ n. is ≡ ends_in_stamp false (take n piece)) → OnErr r (is ≡ false)
    → WriteAppends (held_without false x) (held_without is y) r piece
piece_writes None y is (Ok n) piece ends written last still = tt
piece_writes None y is (Err e) piece ends written last still = tt
piece_writes (Some a) None is (Ok n) piece ends written last still = absurd written
piece_writes (Some a) None is (Err e) piece ends written last still = absurd written
piece_writes (Some a) (Some b) is (Ok n) piece ends written last still = piece_grows a b piece is ends n written last
piece_writes (Some a) (Some b) is (Err e) piece ends written last still =
    subst (λ (t : List ℕ). Keeps (held_without false (Some a)) (held_without is (Some t))) (sym written)
    (subst (λ (s : Bool). Keeps (held_without false (Some a)) (held_without s (Some a))) (sym still) (keeps_same (held_without false (Some a)) _ refl))

-- a write after what kept all
pub writes_along : {E : Type 0} (a b c : Option (List ℕ)) (r : Result ℕ E) (text : List ℕ) → Keeps a b → WriteAppends b c r text → WriteAppends a c r text
writes_along None b c (Ok n) text kept written = tt
writes_along None b c (Err e) text kept written = tt
writes_along (Some xs) None c (Ok n) text kept written = absurd kept
writes_along (Some xs) None c (Err e) text kept written = absurd kept
writes_along (Some xs) (Some ys) None (Ok n) text kept written = absurd written
writes_along (Some xs) (Some ys) None (Err e) text kept written = absurd written
writes_along (Some xs) (Some ys) (Some zs) (Ok n) text kept written = written ∙ ap (λ (t : List ℕ). t ++ take n text) kept
writes_along (Some xs) (Some ys) (Some zs) (Err e) text kept written = written ∙ kept

pub appends_then_keeps : (a b c : Option (List ℕ)) (more : List ℕ) → Appends a b more → Keeps b c → Appends a c more
appends_then_keeps None b c more grown kept = tt
appends_then_keeps (Some xs) None c more grown kept = absurd grown
appends_then_keeps (Some xs) (Some ys) None more grown kept = absurd kept
appends_then_keeps (Some xs) (Some ys) (Some zs) more grown kept = kept ∙ grown

-- a line's octets, with its stamp and without
pub written_after : {E : Type 0} (Shows : Option Moment → Type 0) (begins : Bool) (x y z : Option (List ℕ)) (r : Result ℕ E) (piece : List ℕ) (at : Option Moment)
    → begins ≡ true → Shows at → Appends x y (stamp_text at) → WriteAppends y z r piece
    → IfOk r (λ n. IsWrittenStamped Shows begins x z (take n piece))
written_after Shows begins x y z (Ok n) piece at is shows stamped written = record {
  stamp = stamp_text at;
  is = subst (λ (b : Bool). IsStamp Shows b (stamp_text at)) (sym is) (at, shows, refl);
  written = appends_along x y z (stamp_text at) (take n piece) stamped written;
}
written_after Shows begins x y z (Err e) piece at is shows stamped written = tt

pub written_within : {E : Type 0} (Shows : Option Moment → Type 0) (begins : Bool) (y z : Option (List ℕ)) (r : Result ℕ E) (piece : List ℕ)
    → begins ≡ false → WriteAppends y z r piece → IfOk r (λ n. IsWrittenStamped Shows begins y z (take n piece))
written_within Shows begins y z (Ok n) piece is written = record {
  stamp = [];
  is = subst (λ (b : Bool). IsStamp Shows b []) (sym is) refl;
  written = written;
}
written_within Shows begins y z (Err e) piece is written = tt

pub lacks_front : (c : ℕ) (xs ys : List ℕ) → Lacks c (xs ++ ys) → Lacks c xs
lacks_front c [] ys lacks i lt e = absurd (omega (arith, lt))
lacks_front c (x ∷ xs) ys lacks zero lt e = lacks 0 (omega arith) e
lacks_front c (x ∷ xs) ys lacks (suc i) lt e = lacks_front c xs ys (λ j l. lacks (suc j) (omega (arith, l))) i (omega (arith, lt)) e
