-- Lines of one kind that follow one another.
use Rattle.std.specs.Prelude.{◌≡◌, ℕ, List, ◌++◌, length}
use Rattle.std.specs.List.{flat_map}

-- before so many octets the text is that of items
pub record StopsAfter {A : Type 0} (line : A → List ℕ) (text : List ℕ) (left : ℕ) : Type 0 where
  pub items : List A
  pub rest : List ℕ
  pub parts : text ≡ flat_map line items ++ rest
  pub is : left ≡ length rest
