-- The number from which a log goes on.
use Rattle.std.specs.Prelude.{◌≡◌, ℕ, List, Option, Some, None}
use Rattle.gw_audit.specs.Entry.{IsLineOf, IsShowable}
use Rattle.gw_audit.specs.declared.denial.Denial.{Denial}

-- the number that a line of a log shows, or 0 if it shows none
pub record IsNumberOf (line : List ℕ) (number : ℕ) : Type 0 where
  pub shown : (d : Denial) → IsShowable d → IsLineOf line d → number ≡ d.number
  pub other : ((d : Denial) → IsShowable d → ¬ (IsLineOf line d)) → number ≡ 0

-- of the line of the last denial, if one is shown
abbrev pub IsNumberAfter : Option (List ℕ) → ℕ → Type 0
IsNumberAfter None number = number ≡ 0
IsNumberAfter (Some line) number = IsNumberOf line number
