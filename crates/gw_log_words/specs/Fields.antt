-- A line's own fields, whatever is in front of them.
use Rattle.std.specs.Prelude.{ℕ, ◌==◌, ◌&&◌, ◌||◌, Bool, true, nat_eq, is_some, if◌then◌else◌, List, [], ◌∷◌, Option, Some, None, codes}
use Rattle.std.specs.Cmp.Lexicographic.{pointwise}
use Rattle.std.specs.List.{ends_with}
use Rattle.gw_audit.specs.internal.Reading.{line_in, shown_by}

-- a text is the line of a denial, without its line feed
abbrev pub is_denial : List ℕ → Bool
is_denial text = is_some (line_in text)

-- a text shows an ask: it is the line of a denial, or the eight words of one
abbrev pub shows_ask : List ℕ → Bool
shows_ask text = is_some (shown_by (line_in text) text)

-- The first end of a text that passes a test, of those that come after a space, and of the text itself if it begins a word.
unfoldable pub end_from : (List ℕ → Bool) → (begins : Bool) → List ℕ → Option (List ℕ)
end_from passes begins [] = if begins && passes [] then Some [] else None
end_from passes begins (c ∷ text) =
    if begins && passes (c ∷ text) then Some (c ∷ text) else end_from passes (c == 32) text

-- a line's own fields: the longest end that passes the test, of those that begin at the line's start or after a space
abbrev pub fields_of : (List ℕ → Bool) → List ℕ → Option (List ℕ)
fields_of passes line = end_from passes true line

-- The last word of what is in front of a line's own fields is `allow`: the line is a record of an ask that was allowed, as an
-- audit has it. Any other shows a denial.
abbrev pub says_allow : List ℕ → Bool
says_allow front = pointwise nat_eq front (codes "allow ") || ends_with nat_eq front (codes " allow ")
