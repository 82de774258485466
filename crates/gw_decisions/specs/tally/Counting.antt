-- The asks that a text says, line by line, counted.
use Rattle.std.specs.Prelude.{◌≡◌, ⊤, ℕ, ◌+◌, ◌≤◌, Bool, true, false, List, [], ◌∷◌, ◌++◌, length, Option, Some, Result, Ok, Err}
use Rattle.gw_audit.specs.Entry.{ShowsAsk, ask_shown}
use Rattle.gw_audit.specs.declared.entry.ShownAsk.{ShownAsk}
use Rattle.gw_rules.specs.Ask.{Ask}
use Rattle.gw_rules.specs.declared.rule.Rule.{Rule}
use Rattle.gw_script.specs.Lines.{BeginsUntranslated, IsUntranslated}
use Rattle.gw_script.specs.Script.{lines_of}
use Rattle.gw_script.specs.declared.lines.LinesFault.{LinesFault}
use Rattle.gw_script.specs.declared.lines.LinesFault.TheVariants.{Line, Memory, Read, Write}
use Rattle.gw_decisions.specs.tally.Tally.{AddsOne, IsTally, place}

-- a line of at most 4096 octets that says this ask
pub record SaysAsk (line : List ℕ) (ask : Ask) : Type 0 where
  pub most : length line ≤ 4096
  pub shown : ShownAsk
  pub translates : ShowsAsk line shown
  pub is : ask ≡ ask_shown shown

-- a line that says none
abbrev pub SaysNone : List ℕ → Type 0
SaysNone line = (shown : ShownAsk) → ¬ (ShowsAsk line shown)

-- lines, and the ask that each says
abbrev pub SayAsks : List (List ℕ) → List Ask → Type 0
SayAsks [] [] = ⊤
SayAsks [] (ask ∷ asks) = ⊥
SayAsks (line ∷ lines) [] = ⊥
SayAsks (line ∷ lines) (ask ∷ asks) = SaysAsk line ask × SayAsks lines asks

-- every line says an ask, and these are the counts of them
pub record CountsAll (rules : List Rule) (text counts : List ℕ) : Type 0 where
  pub asks : List Ask
  pub say : SayAsks (lines_of text) asks
  pub tally : IsTally rules asks counts

-- the lines before this one, which is counted from 1, say asks, and this one says none or is too long
pub record EndsAtLine (n : ℕ) (text : List ℕ) : Type 0 where
  pub done : List (List ℕ)
  pub asks : List Ask
  pub say : SayAsks done asks
  pub number : n ≡ length done + 1
  pub line : List ℕ
  pub others : List (List ℕ)
  pub lines : lines_of text ≡ done ++ line ∷ others
  pub untranslated : IsUntranslated SaysNone line

-- what is counted of a text; a read may fail and memory may run out at any
abbrev pub IsCounted : List Rule → List ℕ → Result (List ℕ) LinesFault → Type 0
IsCounted rules text (Ok counts) = CountsAll rules text counts
IsCounted rules text (Err (Line n)) = EndsAtLine n text
IsCounted rules text (Err Read) = ⊤
IsCounted rules text (Err Memory) = ⊤
IsCounted rules text (Err Write) = ⊥

-- the first line says an ask, which is counted
pub record CountsOne (rules : List Rule) (text : List ℕ) (left : Option (List ℕ)) (before after : List ℕ) : Type 0 where
  pub line : List ℕ
  pub ask : Ask
  pub says : SaysAsk line ask
  pub rest : List ℕ
  pub remains : left ≡ Some rest
  pub lines : lines_of text ≡ line ∷ lines_of rest
  pub adds : AddsOne (place rules ask) before after

-- what comes of the first line, whose number this is
abbrev pub IsNext : List Rule → ℕ → List ℕ → Option (List ℕ) → (before after : List ℕ) → Result Bool LinesFault → Type 0
IsNext rules n text left before after (Ok true) = CountsOne rules text left before after
IsNext rules n text left before after (Ok false) = (lines_of text ≡ []) × (after ≡ before)
IsNext rules n text left before after (Err (Line m)) = (m ≡ n) × BeginsUntranslated SaysNone text
IsNext rules n text left before after (Err Read) = ⊤
IsNext rules n text left before after (Err Memory) = ⊤
IsNext rules n text left before after (Err Write) = ⊥

-- what was counted of the whole text, by the outcome
abbrev pub IsCountedIn : List Rule → List ℕ → List ℕ → Result (Unit {0}) LinesFault → Type 0
IsCountedIn rules text counts (Ok done) = CountsAll rules text counts
IsCountedIn rules text counts (Err (Line n)) = EndsAtLine n text
IsCountedIn rules text counts (Err Read) = ⊤
IsCountedIn rules text counts (Err Memory) = ⊤
IsCountedIn rules text counts (Err Write) = ⊥
