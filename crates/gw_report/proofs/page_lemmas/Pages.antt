-- Pages follow one another as one.
use Rattle.std.proofs.Common.{◌≡◌, ◌∙◌, ◌++◌, ℕ, List, [], ◌∷◌, Result, Ok, Err, ap, append-nil, decimal, refl, subst, sym}
use Rattle.std.specs.Prelude.{OnErr, OnOk}
use Rattle.std.specs.List.{flat_map}
use Rattle.std.proofs.lemmas.Grind.{flat_map-append}
use Rattle.gw_report.specs.page.Escape.{escaped}
use Rattle.gw_report.specs.page.Mark.{mark_text}
use Rattle.gw_report.specs.page.Page.{Constant, Count, Foreign, IsPage, Piece, piece_text}
use Rattle.gw_report.specs.declared.page.mark.Mark.{Mark}

pub empty : IsPage []
empty = record { pieces = []; row = refl }

one : (piece : Piece) → IsPage (piece_text piece)
one piece = record { pieces = piece ∷ []; row = sym (append-nil (piece_text piece)) }

pub constant : (mark : Mark) → IsPage (mark_text mark)
constant mark = one (Constant mark)

pub count : (number : ℕ) → IsPage (decimal number)
count number = one (Count number)

pub foreign : (text : List ℕ) → IsPage (escaped text)
foreign text = one (Foreign text)

pub then : (front rest : List ℕ) → IsPage front → IsPage rest → IsPage (front ++ rest)
then front rest first second = record {
  pieces = first.pieces ++ second.pieces;
  row =
      ap (λ (t : List ℕ). t ++ rest) first.row
      ∙ ap (λ (t : List ℕ). flat_map piece_text first.pieces ++ t) second.row
      ∙ sym (flat_map-append piece_text first.pieces second.pieces);
}

-- what is appended whole or not at all leaves a page
pub kept : {T E : Type 0} (result : Result T E) (text before after : List ℕ) → IsPage before → IsPage text
    → OnOk result (after ≡ before ++ text) → OnErr result (after ≡ before) → IsPage after
kept (Ok done) text before after was is ok err = subst IsPage (sym ok) (then before text was is)
kept (Err failed) text before after was is ok err = subst IsPage (sym err) was
