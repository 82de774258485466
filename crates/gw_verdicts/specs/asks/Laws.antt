-- What is given of a text is what shows its asks.
use Rattle.std.specs.Prelude.{◌≡◌, ℕ, ◌≤◌, true, List, length, All}
use Rattle.gw_script.specs.Script.{lines_of}
use Rattle.gw_log_words.specs.Fields.{shows_ask}
use Rattle.gw_verdicts.specs.asks.Asks.{ask_lines, ended, shown_by}

-- Each line that is given is the own fields of a line, one after the other, and shows an ask by itself.
pub record EachIsAsk (text : List ℕ) : Type 0 where
  pub lines : lines_of (ask_lines text) ≡ shown_by (lines_of text)
  pub shown : All (λ line. shows_ask line ≡ true) (lines_of (ask_lines text))

-- A text whose lines show asks with nothing in front is given as it is, with a line feed after each line.
abbrev pub PlainStays : List ℕ → Type 0
PlainStays text =
    All (λ line. (shows_ask line ≡ true) × (length line ≤ 4096)) (lines_of text) → ask_lines text ≡ ended (lines_of text)

-- So what was given once is given the same again.
abbrev pub GivenAgain : List ℕ → Type 0
GivenAgain text = ask_lines (ask_lines text) ≡ ask_lines text
