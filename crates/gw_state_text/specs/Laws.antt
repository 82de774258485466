-- What holds of the texts of all states that fit.
use Rattle.std.specs.Prelude.{◌≡◌, ℕ, ◌≤◌, length, Ok}
use Rattle.gw_state.specs.Saved.{Saved}
use Rattle.gw_state_text.specs.Fit.{AreFit}
use Rattle.gw_state_text.specs.Reading.{state_of}
use Rattle.gw_state_text.specs.Text.{state_text}

-- 8 ports of 12,769 octets each, 512 routes of 38, 256 objects of 9,526, and 88 of the other lines
abbrev pub most_octets : ℕ
most_octets = 2560352

-- the text of each state that fits has no more
abbrev pub TextsAreShort : Type 0
TextsAreShort = (saved : Saved) → AreFit saved → length (state_text saved) ≤ most_octets

-- the text of each state that fits is read, as that state
abbrev pub TextsAreRead : Type 0
TextsAreRead = (saved : Saved) → AreFit saved → state_of (state_text saved) ≡ Ok saved

-- two states that fit and have one text are one
abbrev pub TextsAreApart : Type 0
TextsAreApart = (a b : Saved) → AreFit a → AreFit b → state_text a ≡ state_text b → a ≡ b
