-- The place at which reading stops.
use Rattle.std.specs.Prelude.{◌≡◌, ℕ, List, ◌++◌, length}
use Rattle.gw_state_text.specs.Place.{BeginsText}

-- before so many octets the text is the beginning of that of some state
pub record StopsIn (text : List ℕ) (left : ℕ) : Type 0 where
  pub front : List ℕ
  pub rest : List ℕ
  pub parts : text ≡ front ++ rest
  pub begins : BeginsText front
  pub is : left ≡ length rest
