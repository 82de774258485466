-- The asks that a text shows, a line each, whatever else the text has.
use Rattle.std.specs.Prelude.{ℕ, List, [], ◌∷◌, ◌++◌, Option, None, if◌then◌else◌, nat_le, is_none, length, filter_map, flat_map, count_by}
use Rattle.gw_script.specs.Script.{lines_of}
use Rattle.gw_log_words.specs.Fields.{fields_of, shows_ask}

-- the own fields by which a line shows an ask, if it has at most 4096 octets
abbrev pub shown_in : List ℕ → Option (List ℕ)
shown_in line = if nat_le (length line) 4096 then fields_of shows_ask line else None

-- those of some lines, in order
abbrev pub shown_by : List (List ℕ) → List (List ℕ)
shown_by lines = filter_map shown_in lines

-- lines, with a line feed after each
abbrev pub ended : List (List ℕ) → List ℕ
ended lines = flat_map (λ line. line ++ 10 ∷ []) lines

-- what is given of a text: of each line that shows an ask its own fields and a line feed, of another nothing
abbrev pub ask_lines : List ℕ → List ℕ
ask_lines text = ended (shown_by (lines_of text))

-- how many of some lines show no ask
abbrev pub unread_of : List (List ℕ) → ℕ
unread_of lines = count_by (λ line. is_none (shown_in line)) lines
