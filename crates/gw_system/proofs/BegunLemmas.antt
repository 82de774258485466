-- A log that goes on with stamps and notes, and its first note.
use Rattle.std.proofs.Common.{◌≡◌, ◌∙◌, ℕ, Bool, true, false, true≢false, List, [], ◌∷◌, ◌++◌, length, Option, ap, refl, subst, sym, arith}
use Rattle.std.specs.Prelude.{◌==◌, if◌then◌else◌}
use Rattle.std.specs.Io.KnownBytes.{Appends, Keeps}
use Rattle.std.proofs.Math.Dec.{ltb}
use Rattle.std.proofs.lemmas.Bool.{ltb-false, ltb-true}
use Rattle.std.proofs.lemmas.List.{take_all}
use Rattle.gw_addr.proofs.Lacking.{lacks_cons}
use Rattle.gw_addr.specs.Text.{Lacks}
use Rattle.gw_log_words.specs.Noted.{IsBeforeLineFeed, IsNoted, ending, held_without_notes, note_line}
use Rattle.gw_log_words.specs.Stamped.{held_without}
use Rattle.gw_log_words.specs.declared.noted.Noted.{Noted}
use Rattle.gw_log_words.specs.declared.noted.Place.{Place}
use Rattle.gw_log_words.specs.declared.noted.Place.TheVariants.{Begin}
use Rattle.gw_log_words.specs.declared.stamped.Stamped.{Stamped}
use Rattle.gw_system.specs.StampedHost.{IsBegunIn, began_text, held_in, log_in}

-- no octet of a text is a line feed
is_one_line : List ℕ → Bool
is_one_line [] = true
is_one_line (c ∷ text) = if c == 10 then false else is_one_line text

lacks_feed : (text : List ℕ) → is_one_line text ≡ true → Lacks 10 text
unfolding is_one_line
lacks_feed [] e = λ i within. absurd (omega (arith, within))
lacks_feed (c ∷ text) e = by (c == 10) refl e (λ f. lacks_feed text f)
  where
    by : (b : Bool) → (c == 10) ≡ b → (if b then false else is_one_line text) ≡ true → (is_one_line text ≡ true → Lacks 10 text)
        → Lacks 10 (c ∷ text)
    by true is e more = absurd cc
    by false is e more = lacks_cons 10 c text (λ same. true≢false (sym (ap (λ (x : ℕ). x == 10) same) ∙ is)) (more e)

-- what is before the first line feed of a text without one is all of it
whole : (text part : List ℕ) → IsBeforeLineFeed text part → Lacks 10 text → part ≡ text
whole text part is lacks = by (ltb (length part) (length text)) refl
  where
    by : (b : Bool) → ltb (length part) (length text) ≡ b → part ≡ text
    by true e =
        let within = ltb-true (length part) (length text) e in
        absurd (lacks (length part) within (is.ends within))
    by false e = is.front ∙ take_all (length part) text (ltb-false (length part) (length text) e)

began_feedless : Lacks 10 began_text
unfolding is_one_line
began_feedless = lacks_feed began_text refl

-- a log that goes on so begins with its note
pub begun : {Log C : Type 0} (held : Log → Option (List ℕ)) (opened : Log) (stamped : Stamped Log C) (first noted : Noted (Stamped Log C))
    → stamped.sink ≡ opened → stamped.in_stamp ≡ true → first.sink ≡ stamped → first.place ≡ Begin
    → IsNoted first.place (held_without first.sink.in_stamp (held first.sink.sink)) began_text
    (held_without noted.sink.in_stamp (held (log_in noted))) → Keeps (held_in held first) (held_in held noted) → IsBegunIn held opened noted
begun {Log} {C} held opened stamped first noted is_log begins is_stamped at note keeps =
    let log : first.sink.sink ≡ opened = ap (λ (s : Stamped Log C). s.sink) is_stamped ∙ is_log in
    let stamp : first.sink.in_stamp ≡ true = ap (λ (s : Stamped Log C). s.in_stamp) is_stamped ∙ begins in
    let after = held_without noted.sink.in_stamp (held (log_in noted)) in
    let part : note.0 ≡ began_text = whole began_text note.0 note.1 began_feedless in record {
      note = subst (λ (x : Log). Appends (held_without true (held x)) after (note_line began_text)) log
          (subst (λ (b : Bool). Appends (held_without b (held first.sink.sink)) after (note_line began_text)) stamp
          (subst (λ (p : Place). Appends (held_without first.sink.in_stamp (held first.sink.sink)) after (ending p ++ note_line began_text)) at
          (subst (λ (t : List ℕ). Appends (held_without first.sink.in_stamp (held first.sink.sink)) after (ending first.place ++ note_line t)) part
          note.2)));
      keeps = subst (λ (x : Log). Keeps (held_without_notes Begin (held_without true (held x))) (held_in held noted)) log
          (subst (λ (b : Bool). Keeps (held_without_notes Begin (held_without b (held first.sink.sink))) (held_in held noted)) stamp
          (subst (λ (p : Place). Keeps (held_without_notes p (held_without first.sink.in_stamp (held first.sink.sink))) (held_in held noted)) at
          keeps));
    }
