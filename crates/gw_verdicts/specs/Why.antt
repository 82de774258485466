-- Which rule would decide the asks that a text shows, line by line.
use Rattle.std.specs.Prelude.{◌≡◌, ℕ, ◌-◌, ◌==◌, List, [], ◌∷◌, ◌++◌, codes, if◌then◌else◌, length, Option, Some, None, Result, slice_get}
use Rattle.std.specs.Option.{option_map_or}
use Rattle.gw_audit.specs.Entry.{ShowsAsk, ask_shown}
use Rattle.gw_audit.specs.declared.entry.ShownAsk.{ShownAsk}
use Rattle.gw_rules.specs.Ask.{Ask}
use Rattle.gw_configuration.specs.Configuration.{Configuration}
use Rattle.gw_configuration.specs.Shown.{shown}
use Rattle.gw_policy_review.specs.Places.{place_words}
use Rattle.gw_rules.specs.RuleList.{first}
use Rattle.gw_rules.specs.declared.rule.Rule.{Rule}
use Rattle.gw_core.specs.Explained.{verdict_text}
use Rattle.gw_script.specs.Lines.{LeavesLines}
use Rattle.gw_script.specs.declared.lines.LinesFault.{LinesFault}

-- ---- an answer

-- a note as it is shown, and nothing if it is empty
abbrev pub noted : List ℕ → List ℕ
noted note = if length note == 0 then [] else codes ": " ++ shown note

-- the note of the rule of a number, counted from 1
abbrev pub note_text : (notes : List (List ℕ)) → Option ℕ → List ℕ
note_text notes None = []
note_text notes (Some number) = option_map_or noted (slice_get notes (number - 1)) []

-- what is said of the rule of a number of a configuration, if there is one: the place of its table, if that has another number, and
-- its note; the tables of the rules begin on these lines of the text
abbrev pub place_text : (tables lines : List ℕ) → Option ℕ → List ℕ
place_text tables lines None = []
place_text tables lines (Some number) = place_words tables lines number

abbrev pub said_text : Configuration → (lines : List ℕ) → Option ℕ → List ℕ
said_text c lines by = place_text c.tables lines by ++ note_text c.notes by

-- the answer to an ask: what the policy says of it, by which rule, and what is said of that rule
abbrev pub answer : List Rule → (said : Option ℕ → List ℕ) → Ask → List ℕ
answer rules said ask = verdict_text rules ask ++ said (first rules ask) ++ 10 ∷ []

-- and to an ask that is shown
abbrev pub answer_to : List Rule → (said : Option ℕ → List ℕ) → ShownAsk → List ℕ
answer_to rules said ask = answer rules said (ask_shown ask)

-- ---- the lines of a text

-- a line that shows an ask, and the answer to it
pub record IsAnswered (rules : List Rule) (said : Option ℕ → List ℕ) (line text : List ℕ) : Type 0 where
  pub ask : ShownAsk
  pub translates : ShowsAsk line ask
  pub answers : text ≡ answer_to rules said ask

-- a line that shows no ask
abbrev pub ShowsNoAsk : List ℕ → Type 0
ShowsNoAsk line = (ask : ShownAsk) → ¬ (ShowsAsk line ask)

-- what the answers by these rules leave written, of which this is said, by their outcome; a line that shows no ask ends them, or one
-- of more than 4096 octets
abbrev pub LeavesAnswers : List Rule → (said : Option ℕ → List ℕ) → Result (Unit {0}) LinesFault → (text before after : List ℕ) → Type 0
LeavesAnswers rules said = LeavesLines (IsAnswered rules said) ShowsNoAsk
