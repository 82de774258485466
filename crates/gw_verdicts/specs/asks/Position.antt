-- Where in a text the reading of its asks is, and what is left of them there.
use Rattle.std.specs.Prelude.{◌≡◌, ℕ, ◌+◌, ◌-◌, ◌^◌, ◌≤◌, min, List, [], ◌∷◌, ◌++◌, length, take, drop, Option, Some, None, ⊤, option_map}
use Rattle.std.specs.Io.KnownBytes.{prepend_known}
use Rattle.gw_script.specs.Reader.{Reading}
use Rattle.gw_script.specs.Script.{lines_of}
use Rattle.gw_verdicts.specs.declared.asks.cursor.LinePlace.{LinePlace}
use Rattle.gw_verdicts.specs.declared.asks.cursor.LinePlace.TheVariants.{Start, Passed, Fields}
use Rattle.gw_verdicts.specs.asks.Asks.{ended, shown_by, unread_of}

-- the lines that are read, the place in the first of them, and how many were passed over
pub record Position : Type 0 where
  pub lines : Reading
  pub place : LinePlace
  pub unread : ℕ

-- own fields that are being given are at hand, with all of their line
abbrev pub IsPlaced : LinePlace → List ℕ → Type 0
IsPlaced Start octets = ⊤
IsPlaced Passed octets = ⊤
IsPlaced (Fields next len span) octets = (next ≤ len) × (len ≤ length octets) × (span ≤ length octets)

-- no own fields are being given
abbrev pub IsBetween : LinePlace → Type 0
IsBetween Start = ⊤
IsBetween Passed = ⊤
IsBetween (Fields next len span) = ⊥

-- the lines after the one at which the reading is
abbrev pub lines_left : LinePlace → List ℕ → List (List ℕ)
lines_left Start text = lines_of text
lines_left Passed text = drop 1 (lines_of text)
lines_left (Fields next len span) text = lines_of (drop span text)

-- what is left to give of the own fields of that line, with a line feed
abbrev pub at_hand : LinePlace → List ℕ → List ℕ
at_hand Start text = []
at_hand Passed text = []
at_hand (Fields next len span) text = drop next (take len text) ++ 10 ∷ []

-- what is left to give, and how many lines show no ask: those passed over and those to come, at most 2^64 - 1
pub record Rest : Type 0 where
  pub octets : List ℕ
  pub unread : ℕ

abbrev pub rest_of : LinePlace → ℕ → List ℕ → Rest
rest_of place unread text = record {
  octets = at_hand place text ++ ended (shown_by (lines_left place text));
  unread = min (unread + unread_of (lines_left place text)) (2 ^ 64 - 1);
}

-- the same, if it is known what a source has left
abbrev pub rest_at : Position → Option (List ℕ) → Option Rest
rest_at position left = option_map (rest_of position.place position.unread) (prepend_known position.lines.unread left)

-- The front of what was left was given, and the count stays true.
abbrev pub GivesFront : Option Rest → Option Rest → List ℕ → Type 0
GivesFront None new front = ⊤
GivesFront (Some old) None front = ⊥
GivesFront (Some old) (Some new) front = (old.octets ≡ front ++ new.octets) × (new.unread ≡ old.unread)

-- Nothing is left, and all lines that show no ask are counted.
abbrev pub IsDone : Option Rest → ℕ → Type 0
IsDone None unread = ⊤
IsDone (Some rest) unread = (rest.octets ≡ []) × (rest.unread ≡ unread)
