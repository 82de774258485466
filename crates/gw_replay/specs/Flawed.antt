-- Which line of a script writes no event, and what is wrong with it.
use Rattle.std.specs.Prelude.{◌≡◌, ℕ, ◌+◌, List, ◌∷◌, ◌++◌, length}
use Rattle.gw_script.specs.Flaw.{IsFlaw}
use Rattle.gw_script.specs.Script.{lines_of}
use Rattle.gw_script.specs.declared.flaw.LineFlaw.{LineFlaw}

-- the text's first line has this flaw
pub record IsFirstFlaw (ports : ℕ) (text : List ℕ) (flaw : LineFlaw) : Type 0 where
  pub line : List ℕ
  pub others : List (List ℕ)
  pub lines : lines_of text ≡ line ∷ others
  pub is : IsFlaw ports line flaw

-- the script's line of this number, counted from 1, has this flaw
pub record HasFlaw (ports n : ℕ) (script : List ℕ) (flaw : LineFlaw) : Type 0 where
  pub before : List (List ℕ)
  pub line : List ℕ
  pub others : List (List ℕ)
  pub lines : lines_of script ≡ before ++ line ∷ others
  pub number : n ≡ length before + 1
  pub is : IsFlaw ports line flaw
