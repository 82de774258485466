-- What a page is made of.
use Rattle.std.specs.Prelude.{◌≡◌, ℕ, List, decimal}
use Rattle.std.specs.List.{flat_map}
use Rattle.gw_report.specs.page.Escape.{escaped}
use Rattle.gw_report.specs.page.Mark.{mark_text}
use Rattle.gw_report.specs.declared.page.mark.Mark.{Mark}

-- a constant of this crate, a number, or a foreign text
pub data Piece : Type 0 where
  Constant : Mark → Piece
  Count : ℕ → Piece
  Foreign : List ℕ → Piece

abbrev pub piece_text : Piece → List ℕ
piece_text (Constant mark) = mark_text mark
piece_text (Count number) = decimal number
piece_text (Foreign text) = escaped text

-- octets that are a row of such pieces
pub record IsPage (octets : List ℕ) : Type 0 where
  pub pieces : List Piece
  pub row : octets ≡ flat_map piece_text pieces
