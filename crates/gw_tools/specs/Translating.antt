-- What `log` leaves written, at each outcome: over the definitions of `gw_audit`.
use Rattle.std.specs.Prelude.{ℕ, List, Option, Result}
use Rattle.gw_log_words.specs.Translation.{RefusesNone}
use Rattle.gw_log_words.specs.declared.moment.Moment.{Moment}
use Rattle.gw_log_words.specs.Translating.{IsTranslatedAfterFront}
use Rattle.gw_tools.specs.Lines.{Leaves}
use Rattle.gw_ending.specs.declared.fault.Fault.{Fault}

-- `before` was written before this log, which began at a moment that may be known, was put into words with this
-- outcome, and `after` when that ended
abbrev pub Translates : Option Moment → List ℕ → List ℕ → Result (Unit {0}) Fault → List ℕ → Type 0
Translates start = Leaves (IsTranslatedAfterFront start) RefusesNone
