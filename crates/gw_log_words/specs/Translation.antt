-- What becomes of a line of a log that is written in words.
use Rattle.std.specs.Prelude.{◌≡◌, ◌⊎◌, ℕ, Bool, List, [], ◌∷◌, ◌++◌, Option, None}
use Rattle.gw_audit.specs.Entry.{IsLineOf, IsShowable}
use Rattle.gw_audit.specs.declared.denial.Denial.{Denial}
use Rattle.gw_log_words.specs.declared.moment.Moment.{Moment}
use Rattle.gw_log_words.specs.Moment.{IsMomentOf, front_text}
use Rattle.gw_log_words.specs.Words.{words}

-- ---- a line

-- the words of a denial, or of what was allowed, after the moment of its tick if the log began at a moment that is known
pub record IsTranslation (start : Option Moment) (is_allowed : Bool) (d : Denial) (text : List ℕ) : Type 0 where
  pub at : Option Moment
  pub moment : IsMomentOf start d.tick at
  pub translated : text ≡ front_text at ++ words is_allowed d ++ 10 ∷ []

-- a line that a denial has, written in its words
pub record IsInWords (start : Option Moment) (is_allowed : Bool) (line text : List ℕ) : Type 0 where
  pub denial : Denial
  pub showable : IsShowable denial
  pub spelled : IsLineOf line denial
  pub translated : IsTranslation start is_allowed denial text

-- a line that no denial has, passed on as it is
pub record IsPassedOn (line text : List ℕ) : Type 0 where
  pub is_none : (d : Denial) → IsShowable d → ¬ (IsLineOf line d)
  pub same : text ≡ line ++ 10 ∷ []

-- what becomes of a line, with a line feed after it
abbrev pub IsTranslatedAs : Option Moment → Bool → List ℕ → List ℕ → Type 0
IsTranslatedAs start is_allowed line text = IsInWords start is_allowed line text ⊎ IsPassedOn line text

-- a line has one text
abbrev pub TranslatesOnce : Type 0
TranslatesOnce =
    (start : Option Moment) (is_allowed : Bool) (line a b : List ℕ) → IsTranslatedAs start is_allowed line a
    → IsTranslatedAs start is_allowed line b → a ≡ b

-- and that for a denial's line is the words of the denial, after the moment of its tick
abbrev pub TranslatesEach : Type 0
TranslatesEach =
    (start : Option Moment) (is_allowed : Bool) (d : Denial) (line text : List ℕ) → IsShowable d → IsLineOf line d
    → IsTranslatedAs start is_allowed line text → IsTranslation start is_allowed d text

-- where it isn't known when the log began, the words alone
abbrev pub TranslatesWords : Type 0
TranslatesWords =
    (is_allowed : Bool) (d : Denial) (text : List ℕ) → IsTranslation None is_allowed d text → text ≡ words is_allowed d ++ 10 ∷ []

-- ---- the lines of a log

-- no line is refused
abbrev pub RefusesNone : List ℕ → Type 0
RefusesNone line = ⊥
