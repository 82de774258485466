-- The texts for the lines of a text, each by itself: `Translates` says which text is made for a line, and `Refuses`
-- which lines are refused.
use Rattle.std.specs.Prelude.{◌≡◌, ◌⊎◌, ℕ, ◌+◌, ◌<◌, ◌≤◌, Bool, true, false, List, [], ◌∷◌, ◌++◌, length, take, drop}
use Rattle.std.specs.Prelude.{Option, Some, Result, Ok, Err, ⊤}
use Rattle.std.specs.List.{flat_map}
use Rattle.gw_script.specs.Script.{lines_of}
use Rattle.gw_script.specs.declared.lines.LinesFault.{LinesFault}
use Rattle.gw_script.specs.declared.lines.LinesFault.TheVariants.{Read, Line, Write, Memory}

-- ---- a line

-- a line of at most 4096 octets without its line feed, and the text for it
pub record IsTranslatedLine (Translates : List ℕ → List ℕ → Type 0) (line text : List ℕ) : Type 0 where
  pub most : length line ≤ 4096
  pub translated : Translates line text

-- a line that ends the writing: it has more than 4096 octets without its line feed, or is refused
abbrev pub IsUntranslated : (List ℕ → Type 0) → List ℕ → Type 0
IsUntranslated Refuses line = (4096 < length line) ⊎ Refuses line

-- ---- the lines of a text

-- lines, and the text for each
abbrev pub AreTranslated : (List ℕ → List ℕ → Type 0) → List (List ℕ) → List (List ℕ) → Type 0
AreTranslated Translates [] [] = ⊤
AreTranslated Translates [] (translated ∷ texts) = ⊥
AreTranslated Translates (line ∷ lines) [] = ⊥
AreTranslated Translates (line ∷ lines) (translated ∷ texts) = IsTranslatedLine Translates line translated × AreTranslated Translates lines texts

-- texts one after the other
abbrev pub joined : List (List ℕ) → List ℕ
joined texts = flat_map (λ text. text) texts

-- the texts for the first lines of a text
abbrev pub FirstTranslated : (List ℕ → List ℕ → Type 0) → List ℕ → List (List ℕ) → Type 0
FirstTranslated Translates text texts = AreTranslated Translates (take (length texts) (lines_of text)) texts

-- every line has a text, and these texts were written
pub record TranslatesWhole (Translates : List ℕ → List ℕ → Type 0) (text before after : List ℕ) : Type 0 where
  pub texts : List (List ℕ)
  pub lines : AreTranslated Translates (lines_of text) texts
  pub written : after ≡ before ++ joined texts

-- the lines before this one, which is counted from 1, have texts, this line ends the writing, and what was written is
-- the texts for those before it
pub record TranslatesToLine (Translates : List ℕ → List ℕ → Type 0) (Refuses : List ℕ → Type 0) (n : ℕ)
    (text before after : List ℕ) : Type 0 where
  pub texts : List (List ℕ)
  pub number : n ≡ length texts + 1
  pub lines : FirstTranslated Translates text texts
  pub line : List ℕ
  pub rest : List (List ℕ)
  pub stands : drop (length texts) (lines_of text) ≡ line ∷ rest
  pub untranslated : IsUntranslated Refuses line
  pub written : after ≡ before ++ joined texts

-- some first lines have texts, and these were written whole
pub record TranslatesPart (Translates : List ℕ → List ℕ → Type 0) (text before after : List ℕ) : Type 0 where
  pub texts : List (List ℕ)
  pub lines : FirstTranslated Translates text texts
  pub written : after ≡ before ++ joined texts

-- some first lines have texts, and a front of these was written
pub record TranslatesFront (Translates : List ℕ → List ℕ → Type 0) (text before after : List ℕ) : Type 0 where
  pub texts : List (List ℕ)
  pub lines : FirstTranslated Translates text texts
  pub front : List ℕ
  pub unwritten : List ℕ
  pub parts : joined texts ≡ front ++ unwritten
  pub written : after ≡ before ++ front

-- what the writing leaves, by its outcome
abbrev pub LeavesLines : (List ℕ → List ℕ → Type 0) → (List ℕ → Type 0) → Result (Unit {0}) LinesFault
    → (text before after : List ℕ) → Type 0
LeavesLines Translates Refuses (Ok done) text before after = TranslatesWhole Translates text before after
LeavesLines Translates Refuses (Err (Line n)) text before after = TranslatesToLine Translates Refuses n text before after
LeavesLines Translates Refuses (Err Read) text before after = TranslatesPart Translates text before after
LeavesLines Translates Refuses (Err Write) text before after = TranslatesFront Translates text before after
LeavesLines Translates Refuses (Err Memory) text before after = TranslatesPart Translates text before after

-- ---- one line of a text

-- the first line has a text, and that was appended
pub record WholeLine (Translates : List ℕ → List ℕ → Type 0) (text : List ℕ) (left : Option (List ℕ)) (before : List ℕ)
    (after : Option (List ℕ)) : Type 0 where
  pub line : List ℕ
  pub translated : List ℕ
  pub translates : IsTranslatedLine Translates line translated
  pub rest : List ℕ
  pub remains : left ≡ Some rest
  pub lines : lines_of text ≡ line ∷ lines_of rest
  pub appended : after ≡ Some (before ++ translated)

-- the first line ends the writing
pub record BeginsUntranslated (Refuses : List ℕ → Type 0) (text : List ℕ) : Type 0 where
  pub line : List ℕ
  pub others : List (List ℕ)
  pub lines : lines_of text ≡ line ∷ others
  pub untranslated : IsUntranslated Refuses line

-- the first line has a text, and a front of that was appended
pub record CutLine (Translates : List ℕ → List ℕ → Type 0) (text before : List ℕ) (after : Option (List ℕ)) : Type 0 where
  pub line : List ℕ
  pub translated : List ℕ
  pub others : List (List ℕ)
  pub translates : IsTranslatedLine Translates line translated
  pub lines : lines_of text ≡ line ∷ others
  pub front : List ℕ
  pub unwritten : List ℕ
  pub parts : translated ≡ front ++ unwritten
  pub appended : after ≡ Some (before ++ front)

-- what comes of the first line, whose number this is
abbrev pub LineOutcome : (List ℕ → List ℕ → Type 0) → (List ℕ → Type 0) → ℕ → List ℕ → Option (List ℕ) → List ℕ
    → Option (List ℕ) → Result Bool LinesFault → Type 0
LineOutcome Translates Refuses n text left before after (Ok true) = WholeLine Translates text left before after
LineOutcome Translates Refuses n text left before after (Ok false) = (lines_of text ≡ []) × (after ≡ Some before)
LineOutcome Translates Refuses n text left before after (Err (Line m)) =
    (m ≡ n) × BeginsUntranslated Refuses text × (after ≡ Some before)
LineOutcome Translates Refuses n text left before after (Err Write) = CutLine Translates text before after
LineOutcome Translates Refuses n text left before after (Err Read) = after ≡ Some before
LineOutcome Translates Refuses n text left before after (Err Memory) = after ≡ Some before

-- the same, where the text that is left and what was written are known
abbrev pub OnKnownLine : (List ℕ → List ℕ → Type 0) → (List ℕ → Type 0) → ℕ → Option (List ℕ) → Option (List ℕ)
    → Option (List ℕ) → Option (List ℕ) → Result Bool LinesFault → Type 0
OnKnownLine Translates Refuses n left leaves held holds result =
    (text before : List ℕ) → left ≡ Some text → held ≡ Some before
    → LineOutcome Translates Refuses n text leaves before holds result
