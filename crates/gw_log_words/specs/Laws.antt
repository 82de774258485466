-- Nothing changes for a line with nothing in front.
use Rattle.std.specs.Prelude.{◌≡◌, ℕ, true, false, List, ◌++◌, Option, IsTrue, codes}
use Rattle.gw_audit.specs.Entry.{IsLineOf, IsShowable, ShowsAsk}
use Rattle.gw_log_words.specs.Translation.{IsTranslatedAs, IsTranslation}
use Rattle.gw_audit.specs.declared.denial.Denial.{Denial}
use Rattle.gw_audit.specs.declared.entry.ShownAsk.{ShownAsk}
use Rattle.gw_log_words.specs.declared.moment.Moment.{Moment}
use Rattle.gw_log_words.specs.Fields.{is_denial, shows_ask}
use Rattle.gw_log_words.specs.Translating.{IsTranslatedAfterFront}

-- the line of a denial has itself as its own fields, and becomes what it became
abbrev pub StaysAsBefore : Type 0
StaysAsBefore = (start : Option Moment) (d : Denial) (line text : List ℕ) → IsShowable d → IsLineOf line d
    → IsTranslatedAfterFront start line text → IsTranslatedAs start false line text

-- a record of an audit says that the ask was allowed, by its rule
abbrev pub SaysAllowed : Type 0
SaysAllowed = (start : Option Moment) (d : Denial) (line text : List ℕ) → IsShowable d → IsLineOf line d
    → IsTranslatedAfterFront start (codes "allow " ++ line) text
    → (translated : List ℕ) × IsTranslation start true d translated × (text ≡ codes "allow " ++ translated)

-- fields pass the test exactly if a denial has this line, or if they show an ask
pub record AreFields (text : List ℕ) : Type 0 where
  pub denial : IsTrue (is_denial text) → (d : Denial) × IsShowable d × IsLineOf text d
  pub of_denial : (d : Denial) → IsShowable d → IsLineOf text d → IsTrue (is_denial text)
  pub ask : IsTrue (shows_ask text) → (ask : ShownAsk) × ShowsAsk text ask
  pub of_ask : (ask : ShownAsk) → ShowsAsk text ask → IsTrue (shows_ask text)
