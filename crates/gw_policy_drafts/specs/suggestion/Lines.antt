-- The asks that the lines of a text show.
use Rattle.std.specs.Prelude.{◌≡◌, ℕ, nat_eq, Bool, true, false, if◌then◌else◌, List, [], ◌∷◌, codes, drop, ⊤}
use Rattle.std.specs.Prelude.{Option, None, Some, Result, Ok, Err}
use Rattle.std.specs.List.{flat_map, starts_with}
use Rattle.std.specs.Option.{option_to_list}
use Rattle.gw_audit.specs.Entry.{ShowsAsk, ask_shown}
use Rattle.gw_audit.specs.declared.entry.ShownAsk.{ShownAsk}
use Rattle.gw_rules.specs.Ask.{Ask}
use Rattle.gw_rules.specs.declared.rule.Rule.{Rule}
use Rattle.gw_script.specs.Script.{lines_of}
use Rattle.gw_policy_drafts.specs.suggestion.Given.{AddsAll, HaveSame, denied}
use Rattle.gw_policy_drafts.specs.declared.suggestion.fault.SuggestFault.{SuggestFault}

-- ---- a line

-- a line without the word that a replay writes in front of the line of a denial
abbrev pub words_of : List ℕ → List ℕ
words_of line = if starts_with nat_eq line (codes "deny ") then drop 5 line else line

-- the ask that a line shows: as a line of the log, or by its eight words; or that it shows none
abbrev pub HasAsk : List ℕ → Option Ask → Type 0
HasAsk line (Some ask) = (shown : ShownAsk) × ShowsAsk (words_of line) shown × (ask ≡ ask_shown shown)
HasAsk line None = (shown : ShownAsk) → ¬ (ShowsAsk (words_of line) shown)

-- a line is taken: the ask that it shows is there then, if these rules deny it
pub record IsTaken (rules : List Rule) (line : List ℕ) (before after : List Ask) : Type 0 where
  pub ask : Option Ask
  pub shown_asks : HasAsk line ask
  pub added : AddsAll before after (denied rules (option_to_list ask))

-- ---- the lines of a text

-- what each line shows
abbrev pub HaveAsks : List (List ℕ) → List (Option Ask) → Type 0
HaveAsks [] [] = ⊤
HaveAsks [] (ask ∷ asks) = ⊥
HaveAsks (line ∷ lines) [] = ⊥
HaveAsks (line ∷ lines) (ask ∷ asks) = HasAsk line ask × HaveAsks lines asks

abbrev pub asks_in : List (Option Ask) → List Ask
asks_in shown_asks = flat_map option_to_list shown_asks

-- Of the asks that the lines of a text show, these are those that the rules deny.
pub record AreSeen (rules : List Rule) (lines : List (List ℕ)) (asks : List Ask) : Type 0 where
  pub shown_asks : List (Option Ask)
  pub each : HaveAsks lines shown_asks
  pub same : HaveSame asks (denied rules (asks_in shown_asks))

-- ---- one line of a text

-- the first line is taken, and the rest is left
pub record IsTakenFirst (rules : List Rule) (text : List ℕ) (left : Option (List ℕ)) (before after : List Ask) : Type 0 where
  pub line : List ℕ
  pub rest : List ℕ
  pub remains : left ≡ Some rest
  pub lines : lines_of text ≡ line ∷ lines_of rest
  pub taken : IsTaken rules line before after

abbrev pub TakesNext : List Rule → List ℕ → Option (List ℕ) → List Ask → List Ask → Result Bool SuggestFault → Type 0
TakesNext rules text left before after (Ok true) = IsTakenFirst rules text left before after
TakesNext rules text left before after (Ok false) = (lines_of text ≡ []) × (after ≡ before)
TakesNext rules text left before after (Err fault) = ⊤
