-- A line has one text.
use Rattle.std.proofs.Common.{◌≡◌, inl, inr, ℕ, Bool, List, [], ◌∷◌, ◌++◌, Option, sym, ap, subst, ◌∙◌}
use Rattle.gw_audit.specs.Entry.{IsLineOf, IsShowable, shown_ask}
use Rattle.gw_audit.specs.Laws.{AreShownAlike}
use Rattle.gw_log_words.specs.Moment.{IsMomentOf, front_text}
use Rattle.gw_audit.specs.declared.denial.Denial.{Denial}
use Rattle.gw_log_words.specs.declared.moment.Moment.{Moment}
use Rattle.gw_log_words.proofs.MomentLemmas.{one_front}
use Rattle.gw_audit.proofs.LineLemmas.{names_one_denial}
use Rattle.gw_log_words.specs.Translation.{IsTranslation, TranslatesEach, TranslatesOnce, TranslatesWords}
use Rattle.gw_audit.specs.internal.Reading.{with_both}
use Rattle.gw_log_words.specs.Words.{words, words_of}

-- what is shown of two denials that are shown alike is the same
same_ask : (a b : Denial) → AreShownAlike a b → shown_ask a ≡ shown_ask b
same_ask a b same =
    rw (same.port, same.source, same.operation, same.destination_network, same.service, same.object_type, same.instance, same.property, same.priority)
    (ap (with_both (shown_ask b) b.ask.operation) same.stations)

-- so are their words
same_words : (allowed : Bool) (a b : Denial) (line : List ℕ) → IsShowable a → IsShowable b → IsLineOf line a → IsLineOf line b → words allowed a ≡ words allowed b
same_words allowed a b line shown_a shown_b of_a of_b =
    let same = names_one_denial a b shown_a.numbers shown_b.numbers (sym of_a ∙ of_b) in
    ap (λ ask. words_of allowed ask a.rule) (same_ask a b same) ∙ ap (words_of allowed (shown_ask b)) same.rule

-- a tick has one moment
same_front : (start : Option Moment) (tick other : ℕ) (a b : Option Moment) → tick ≡ other → IsMomentOf start tick a → IsMomentOf start other b
    → front_text a ≡ front_text b
same_front start tick other a b same of_a of_b =
    one_front start other a b (subst (λ (t : ℕ). IsMomentOf start t a) same of_a) of_b

-- so two texts for denials that are shown alike are the same
same_telling : (start : Option Moment) (allowed : Bool) (a b : Denial) (line x y : List ℕ) → IsShowable a → IsShowable b → IsLineOf line a → IsLineOf line b
    → IsTranslation start allowed a x → IsTranslation start allowed b y → x ≡ y
same_telling start allowed a b line x y shown_a shown_b of_a of_b told_x told_y =
    let same = names_one_denial a b shown_a.numbers shown_b.numbers (sym of_a ∙ of_b) in
    let front = same_front start a.tick b.tick told_x.at told_y.at same.tick told_x.moment told_y.moment in
    let spelled = same_words allowed a b line shown_a shown_b of_a of_b in
    told_x.translated ∙ ap (λ (t : List ℕ). t ++ words allowed a ++ 10 ∷ []) front
    ∙ ap (λ (t : List ℕ). front_text told_y.at ++ t ++ 10 ∷ []) spelled ∙ sym told_y.translated

-- a text for a denial is one for each that is shown alike
alike : (start : Option Moment) (allowed : Bool) (a b : Denial) (line text : List ℕ) → IsShowable a → IsShowable b → IsLineOf line a → IsLineOf line b
    → IsTranslation start allowed a text → IsTranslation start allowed b text
alike start allowed a b line text shown_a shown_b of_a of_b translated =
    let same = names_one_denial a b shown_a.numbers shown_b.numbers (sym of_a ∙ of_b) in
    record {
      at = translated.at;
      moment = subst (λ (t : ℕ). IsMomentOf start t translated.at) same.tick translated.moment;
      translated = translated.translated ∙ ap (λ (t : List ℕ). front_text translated.at ++ t ++ 10 ∷ []) (same_words allowed a b line shown_a shown_b of_a of_b);
    }

pub each : TranslatesEach
each start allowed d line text shown of_d (inl translated) = alike start allowed translated.denial d line text translated.showable shown translated.spelled of_d translated.translated
each start allowed d line text shown of_d (inr passed) = absurd (passed.is_none d shown of_d)

pub once : TranslatesOnce
once start allowed line a b (inl translated) (inl other) =
    same_telling start allowed translated.denial other.denial line a b translated.showable other.showable translated.spelled other.spelled translated.translated other.translated
once start allowed line a b (inl translated) (inr passed) = absurd (passed.is_none translated.denial translated.showable translated.spelled)
once start allowed line a b (inr passed) (inl translated) = absurd (passed.is_none translated.denial translated.showable translated.spelled)
once start allowed line a b (inr passed) (inr other) = passed.same ∙ sym other.same

pub words_alone : TranslatesWords
words_alone allowed d text translated = translated.translated ∙ ap (λ (at : Option Moment). front_text at ++ words allowed d ++ 10 ∷ []) translated.moment
