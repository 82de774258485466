-- What is read of a text, and where a line's own fields begin.
use Rattle.std.proofs.Common.{◌≡◌, ◌∙◌, ◌<◌, ◌+◌, ◌-◌, ℕ, Bool, true, false, List, [], ◌∷◌, length, take, drop, Option, Some, None, refl, sym, ap, arith}
use Rattle.std.specs.Prelude.{◌==◌, ◌&&◌, is_some, slice_index, IfSome}
use Rattle.std.specs.Option.{IsSomeAnd}
use Rattle.std.proofs.lemmas.List.{drop_more, length-drop, take_all}
use Rattle.gw_audit.specs.Entry.{IsLineOf, IsShowable, ShowsAsk, denial_of}
use Rattle.gw_audit.specs.Laws.{AreShownAlike}
use Rattle.gw_audit.specs.declared.denial.Denial.{Denial}
use Rattle.gw_audit.specs.declared.entry.Shown.{Shown}
use Rattle.gw_audit.specs.declared.entry.ShownAsk.{ShownAsk}
use Rattle.gw_audit.specs.internal.Reading.{line_in, shown_by}
use Rattle.gw_audit.proofs.TranslatingLemmas.{line_again, line_takes, told_again, told_takes}
use Rattle.gw_log_words.specs.Fields.{end_from, is_denial, shows_ask}

none_is_some : {A : Type 0} (x : A) → None ≡ Some x → ⊥
none_is_some x e = cc

-- what shows an ask is what is read as one
pub ask_read : (text : List ℕ) (r : Option ShownAsk) → IfSome r (ShowsAsk text) → ((s : ShownAsk) → ShowsAsk text s → r ≡ Some s)
    → is_some r ≡ shows_ask text
ask_read text (Some s) found only = ap is_some (sym (told_again text s found))
ask_read text None found only = by (shown_by (line_in text) text) refl
  where
    by : (t : Option ShownAsk) → shown_by (line_in text) text ≡ t → false ≡ is_some t
    by None e = refl
    by (Some s) e = absurd (none_is_some s (only s (told_takes text s e)))

-- so is a denial's line
pub denial_read : (text : List ℕ) (r : Option Shown) → IfSome r (λ s. IsLineOf text (denial_of s)) → IfSome r (λ s. IsShowable (denial_of s))
    → ((d : Denial) → IsShowable d → IsLineOf text d → IsSomeAnd r (λ s. AreShownAlike d (denial_of s)))
    → is_some r ≡ is_denial text
denial_read text (Some s) found is only = ap is_some (sym (line_again text (denial_of s) is found))
denial_read text None found is only = by (line_in text) refl
  where
    by : (t : Option Denial) → line_in text ≡ t → false ≡ is_some t
    by None e = refl
    by (Some d) e =
        let taken = line_takes text d e in
        absurd (only d taken.is taken.line)

module _ (passes : List ℕ → Bool) where
  -- the rest of a line from a place on is what is lent of it from there to its end
  pub rest_passes : (line : List ℕ) (at : ℕ) → passes (take (length line - at) (drop at line)) ≡ passes (drop at line)
  rest_passes line at = ap passes (take_all (length line - at) (drop at line) (omega (arith, length-drop at line)))

  -- the text itself passes
  pub end_found : (begins : Bool) (text : List ℕ) → begins ≡ true → passes text ≡ true → end_from passes begins text ≡ Some text
  unfolding end_from
  end_found begins [] word holds = rw (word, holds) refl
  end_found begins (c ∷ text) word holds = rw (word, holds) refl

  -- it doesn't, and what comes after its first octet may
  pub goes_on : (begins : Bool) (c : ℕ) (text : List ℕ) → (begins && passes (c ∷ text)) ≡ false
      → end_from passes begins (c ∷ text) ≡ end_from passes (c == 32) text
  unfolding end_from
  goes_on begins c text fails = rw fails refl

  pub end_further : (line : List ℕ) (at : ℕ) (begins : Bool) → at < length line → (begins && passes (drop at line)) ≡ false
      → end_from passes begins (drop at line) ≡ end_from passes (slice_index line at == 32) (drop (at + 1) line)
  end_further line at begins within fails =
      let parts = drop_more line at 0 within in
      ap (end_from passes begins) parts ∙ goes_on begins (slice_index line at) (drop (at + 1) line) (ap (λ (t : List ℕ). begins && passes t) (sym parts) ∙ fails)

  pub end_none : (begins : Bool) (text : List ℕ) → text ≡ [] → (begins && passes []) ≡ false → end_from passes begins text ≡ None
  unfolding end_from
  end_none begins text none fails = rw (none, fails) refl

  pub end_empty : (begins : Bool) (text : List ℕ) → text ≡ [] → begins ≡ true → passes [] ≡ true → end_from passes begins text ≡ Some []
  unfolding end_from
  end_empty begins text none word holds = rw (none, word, holds) refl
