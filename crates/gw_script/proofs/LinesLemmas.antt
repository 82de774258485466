-- The writing goes on line by line.
use Rattle.std.proofs.Common.{◌≡◌, ℕ, suc, ◌+◌, List, [], ◌∷◌, ◌++◌, length, take, drop, Option, Some, Result, Ok, Err, true, false, refl, sym, ap, subst, ◌∙◌, ◌≤◌, arith, append_assoc}
use Rattle.std.specs.Prelude.{IfSome, IsSomeAnd}
use Rattle.std.specs.Io.KnownBytes.{Keeps, prepend_known}
use Rattle.std.proofs.lemmas.List.{append-nil, take_at, drop_at, length-append, length-drop, length-take}
use Rattle.std.proofs.lemmas.List.Concat.{flat_map-cons}
use Rattle.std.proofs.lemmas.Grind.{flat_map-append}
use Rattle.gw_script.specs.Reader.{IsNextLine, IsWithin}
use Rattle.gw_script.specs.Script.{lines_of}
use Rattle.gw_script.specs.declared.reader.NextLine.{NextLine}
use Rattle.gw_script.specs.declared.reader.NextLine.TheVariants as next
use Rattle.gw_script.proofs.KnownTexts.{holds_known, if_known, left_known}
use Rattle.gw_script.proofs.Passing.{Passes, passes_on}
use Rattle.gw_script.specs.declared.lines.LinesFault.{LinesFault}
use Rattle.gw_script.specs.declared.lines.LinesFault.TheVariants.{Read, Line, Write, Memory}
use Rattle.gw_script.specs.Lines.{AreTranslated, FirstTranslated, IsTranslatedLine, LeavesLines, OnKnownLine, TranslatesFront, TranslatesPart, TranslatesToLine, TranslatesWhole, joined}

-- ---- the first line

-- the octets that are unread begin with the text's first line, which is short; the source has the rest left
pub record IsFound (front text : List ℕ) (len span : ℕ) (known : Option (List ℕ)) : Type 0 where
  pub rest : List ℕ
  pub is : known ≡ Some rest
  pub most : length (take len front) ≤ 4096
  pub lines : lines_of text ≡ take len front ∷ lines_of (drop span front ++ rest)
  pub fewer : length (drop span front ++ rest) + 1 ≤ length text

pub line_found : (old new : Option (List ℕ)) (before front text : List ℕ) (found : NextLine) (len span : ℕ)
    → Keeps (prepend_known before old) (prepend_known front new) → prepend_known before old ≡ Some text
    → found ≡ next.Line len span → IfSome new (λ rest. IsNextLine front rest found) → IsWithin front found
    → IsFound front text len span new
line_found old new before front text found len span keeps known is piece within =
    let left = left_known old new before front text keeps known in
    let stands : IsNextLine front left.rest found = if_known (λ (r : List ℕ). IsNextLine front r found) new left.rest left.is piece in
    let lines : lines_of (front ++ left.rest) ≡ take len front ∷ lines_of (drop span front ++ left.rest) =
    subst (λ (p : NextLine). IsNextLine front left.rest p) is stands in
    let bounds = subst (λ (p : NextLine). IsWithin front p) is within in
    record {
      rest = left.rest;
      is = left.is;
      most = omega (arith, length-take len front, bounds.0);
      lines = ap lines_of left.text_is ∙ lines;
      fewer = omega (
        arith,
        bounds,
        ap length left.text_is,
        length-append front left.rest,
        length-append (drop span front) left.rest,
        length-drop span front,
      );
    }

-- ---- lines, and the texts for them

one_more : (texts : List (List ℕ)) (translated : List ℕ) → joined (texts ++ translated ∷ []) ≡ joined texts ++ translated
one_more texts translated =
    flat_map-append (λ (t : List ℕ). t) texts (translated ∷ [])
    ∙ ap (λ (t : List ℕ). joined texts ++ t) (flat_map-cons (λ (t : List ℕ). t) translated [] ∙ append-nil translated)

text_after : (before : List ℕ) (texts : List (List ℕ)) (translated : List ℕ)
    → (before ++ joined texts) ++ translated ≡ before ++ joined (texts ++ translated ∷ [])
text_after before texts translated =
    append_assoc before (joined texts) translated ∙ ap (λ (t : List ℕ). before ++ t) (sym (one_more texts translated))

module _ (Translates : List ℕ → List ℕ → Type 0) where
  are_more : (lines texts : List (List ℕ)) (line translated : List ℕ) → AreTranslated Translates lines texts → IsTranslatedLine Translates line translated
      → AreTranslated Translates (lines ++ line ∷ []) (texts ++ translated ∷ [])
  are_more [] [] line translated are is = (is, tt)
  are_more [] (x ∷ texts) line translated are is = absurd are
  are_more (l ∷ lines) [] line translated are is = absurd are
  are_more (l ∷ lines) (x ∷ texts) line translated are is = (are.0, are_more lines texts line translated are.1 is)

  are_length : (lines texts : List (List ℕ)) → AreTranslated Translates lines texts → length lines ≡ length texts
  are_length [] [] are = refl
  are_length [] (x ∷ texts) are = absurd are
  are_length (l ∷ lines) [] are = absurd are
  are_length (l ∷ lines) (x ∷ texts) are = ap suc (are_length lines texts are.1)

  first_lines : (script : List ℕ) (done others texts : List (List ℕ)) → AreTranslated Translates done texts → lines_of script ≡ done ++ others
      → FirstTranslated Translates script texts
  first_lines script done others texts are lines =
      let front : take (length texts) (lines_of script) ≡ done =
      ap (take (length texts)) lines ∙ take_at done others (length texts) (are_length done texts are) in
      subst (λ (l : List (List ℕ)). AreTranslated Translates l texts) (sym front) are

  other_lines : (script : List ℕ) (done others texts : List (List ℕ)) → AreTranslated Translates done texts → lines_of script ≡ done ++ others
      → drop (length texts) (lines_of script) ≡ others
  other_lines script done others texts are lines =
      ap (drop (length texts)) lines ∙ drop_at done others (length texts) (are_length done texts are)

  -- what is written whole is a front of itself
  pub whole_is_front : (script before after : List ℕ) → TranslatesWhole Translates script before after → TranslatesFront Translates script before after
  whole_is_front script before after whole = record {
    texts = whole.texts;
    lines = first_lines script (lines_of script) [] whole.texts whole.lines (sym (append-nil (lines_of script)));
    front = joined whole.texts;
    unwritten = [];
    parts = sym (append-nil (joined whole.texts));
    written = whole.written;
  }

-- ---- how far they have come

-- these lines are done, these texts are for them, and this text is left
pub record Progress (Translates : List ℕ → List ℕ → Type 0) (script before : List ℕ) (n : ℕ) (text written : Option (List ℕ)) : Type 0 where
  pub texts : List (List ℕ)
  pub done : List (List ℕ)
  pub left : List ℕ
  pub are : AreTranslated Translates done texts
  pub lines : lines_of script ≡ done ++ lines_of left
  pub text_is : text ≡ Some left
  pub written_is : written ≡ Some (before ++ joined texts)
  pub number : n ≡ length texts + 1

module _ (Translates : List ℕ → List ℕ → Type 0) (script before : List ℕ) where
  pub begins : (text written : Option (List ℕ)) → text ≡ Some script → written ≡ Some before
      → Progress Translates script before 1 text written
  begins text written known held = record {
    texts = [];
    done = [];
    left = script;
    are = tt;
    lines = refl;
    text_is = known;
    written_is = held ∙ ap (λ (t : List ℕ). Some t) (sym (append-nil before));
    number = refl;
  }

  -- where memory is wanted before the first line
  pub part_before : (written : Option (List ℕ)) → written ≡ Some before → IsSomeAnd written (TranslatesPart Translates script before)
  part_before written is =
      holds_known (TranslatesPart Translates script before) written before is (record { texts = []; lines = tt; written = sym (append-nil before) })

  -- what holds what was written so far leaves the whole texts of some first lines
  stops_part : (n : ℕ) (text written after : Option (List ℕ)) (p : Progress Translates script before n text written)
      → after ≡ Some (before ++ joined p.texts) → IsSomeAnd after (TranslatesPart Translates script before)
  stops_part n text written after p same =
      holds_known (TranslatesPart Translates script before) after (before ++ joined p.texts) same
      (record { texts = p.texts; lines = first_lines Translates script p.done (lines_of p.left) p.texts p.are p.lines; written = refl })

  pub ends_part : (n : ℕ) (text written : Option (List ℕ)) → Progress Translates script before n text written
      → IsSomeAnd written (TranslatesPart Translates script before)
  ends_part n text written p = stops_part n text written written p p.written_is

-- ---- a line more, and how they end

module _ (Translates : List ℕ → List ℕ → Type 0) (Refuses : List ℕ → Type 0) (script before : List ℕ) (n : ℕ)
    (text left written after : Option (List ℕ)) (p : Progress Translates script before n text written) where
  pub goes_on : OnKnownLine Translates Refuses n text left written after (Ok true) → Progress Translates script before (n + 1) left after
  goes_on turns =
      let step = turns p.left (before ++ joined p.texts) p.text_is p.written_is in
      let done_lines : lines_of script ≡ (p.done ++ step.line ∷ []) ++ lines_of step.rest =
      p.lines ∙ ap (λ (l : List (List ℕ)). p.done ++ l) step.lines ∙ sym (append_assoc p.done (step.line ∷ []) (lines_of step.rest)) in
      record {
        texts = p.texts ++ step.translated ∷ [];
        done = p.done ++ step.line ∷ [];
        left = step.rest;
        are = are_more Translates p.done p.texts step.line step.translated p.are step.translates;
        lines = done_lines;
        text_is = step.remains;
        written_is = step.appended ∙ ap (λ (t : List ℕ). Some t) (text_after before p.texts step.translated);
        number = omega (arith, p.number, length-append p.texts (step.translated ∷ []));
      }

  pub ends_whole : OnKnownLine Translates Refuses n text left written after (Ok false) → IsSomeAnd after (TranslatesWhole Translates script before)
  ends_whole turns =
      let said = turns p.left (before ++ joined p.texts) p.text_is p.written_is in
      let all : lines_of script ≡ p.done = p.lines ∙ ap (λ (l : List (List ℕ)). p.done ++ l) said.0 ∙ append-nil p.done in
      holds_known (TranslatesWhole Translates script before) after (before ++ joined p.texts) said.1
      (record { texts = p.texts; lines = subst (λ (l : List (List ℕ)). AreTranslated Translates l p.texts) (sym all) p.are; written = refl })

  ends_at_line : (m : ℕ) → OnKnownLine Translates Refuses n text left written after (Err (Line m))
      → IsSomeAnd after (TranslatesToLine Translates Refuses m script before)
  ends_at_line m turns =
      let said = turns p.left (before ++ joined p.texts) p.text_is p.written_is in
      let none = said.1 in
      holds_known (TranslatesToLine Translates Refuses m script before) after (before ++ joined p.texts) said.2 (record {
        texts = p.texts;
        number = said.0 ∙ p.number;
        lines = first_lines Translates script p.done (lines_of p.left) p.texts p.are p.lines;
        line = none.line;
        rest = none.others;
        stands = other_lines Translates script p.done (lines_of p.left) p.texts p.are p.lines ∙ none.lines;
        untranslated = none.untranslated;
        written = refl;
      })

  ends_at_write : OnKnownLine Translates Refuses n text left written after (Err Write) → IsSomeAnd after (TranslatesFront Translates script before)
  ends_at_write turns =
      let cut_step = turns p.left (before ++ joined p.texts) p.text_is p.written_is in
      let so_far = before ++ joined p.texts in
      let lines : lines_of script ≡ (p.done ++ cut_step.line ∷ []) ++ cut_step.others =
      p.lines ∙ ap (λ (l : List (List ℕ)). p.done ++ l) cut_step.lines ∙ sym (append_assoc p.done (cut_step.line ∷ []) cut_step.others) in
      holds_known (TranslatesFront Translates script before) after (so_far ++ cut_step.front) cut_step.appended (record {
        texts = p.texts ++ cut_step.translated ∷ [];
        lines = first_lines Translates script (p.done ++ cut_step.line ∷ []) cut_step.others (p.texts ++ cut_step.translated ∷ [])
            (are_more Translates p.done p.texts cut_step.line cut_step.translated p.are cut_step.translates) lines;
        front = joined p.texts ++ cut_step.front;
        unwritten = cut_step.unwritten;
        parts = one_more p.texts cut_step.translated ∙ ap (λ (t : List ℕ). joined p.texts ++ t) cut_step.parts
            ∙ sym (append_assoc (joined p.texts) cut_step.front cut_step.unwritten);
        written = append_assoc before (joined p.texts) cut_step.front;
      })

  ends_at_fault : (fault : LinesFault) → OnKnownLine Translates Refuses n text left written after (Err fault)
      → IsSomeAnd after (LeavesLines Translates Refuses (Err fault) script before)
  ends_at_fault (Line m) turns = ends_at_line m turns
  ends_at_fault Read turns =
      stops_part Translates script before n text written after p (turns p.left (before ++ joined p.texts) p.text_is p.written_is)
  ends_at_fault Write turns = ends_at_write turns
  ends_at_fault Memory turns =
      stops_part Translates script before n text written after p (turns p.left (before ++ joined p.texts) p.text_is p.written_is)

  pub ends_passed : (fault : LinesFault) (r : Result (Unit {0}) LinesFault) → Passes fault r
      → OnKnownLine Translates Refuses n text left written after (Err fault)
      → IsSomeAnd after (LeavesLines Translates Refuses r script before)
  ends_passed fault r passes turns =
      passes_on (λ (q : Result (Unit {0}) LinesFault). IsSomeAnd after (LeavesLines Translates Refuses q script before)) fault r passes
      (ends_at_fault fault turns)
