-- The line at which a text stops being that of a state.
use Rattle.std.specs.Prelude.{◌≡◌, ℕ, ◌+◌, ◌==◌, List, ◌++◌, count_by}
use Rattle.gw_state.specs.Saved.{Saved}
use Rattle.gw_state_text.specs.Text.{state_text}

-- the text of some state begins so
pub record BeginsText (front : List ℕ) : Type 0 where
  pub saved : Saved
  pub more : List ℕ
  pub is : front ++ more ≡ state_text saved

-- how many lines these are
abbrev pub line_count : List ℕ → ℕ
line_count text = count_by (λ c. c == 10) text

-- the lines before the one of this number, from 1, begin the text of a state
pub record IsPlaceOf (text : List ℕ) (line : ℕ) : Type 0 where
  pub front : List ℕ
  pub rest : List ℕ
  pub parts : text ≡ front ++ rest
  pub begins : BeginsText front
  pub number : line ≡ line_count front + 1
