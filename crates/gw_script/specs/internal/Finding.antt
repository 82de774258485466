-- Where a character is first.
use Rattle.std.specs.Prelude.{◌≡◌, ◌≢◌, ℕ, ◌<◌, List, length, slice_index}

-- the character is nowhere in the text before this place
abbrev pub LacksTo : ℕ → List ℕ → ℕ → Type 0
LacksTo c text end = (i : ℕ) → i < end → slice_index text i ≢ c

-- the character is at this place of the text, and nowhere before it
pub record IsFirstAt (c : ℕ) (text : List ℕ) (place : ℕ) : Type 0 where
  pub inside : place < length text
  pub here : slice_index text place ≡ c
  pub before : LacksTo c text place
