-- The elements of a page, each with the text that it has.
use Rattle.std.specs.Prelude.{ℕ, List, ◌++◌, decimal}
use Rattle.gw_report.specs.declared.page.element.PageElement.{PageElement}
use Rattle.gw_report.specs.declared.page.element.PageElement.TheVariants as element
use Rattle.gw_report.specs.declared.page.mark.Mark.TheVariants as mark
use Rattle.gw_report.specs.page.Escape.{escaped}
use Rattle.gw_report.specs.page.Mark.{mark_text}

unfoldable pub open_text : PageElement → List ℕ
open_text e = mark_text (mark.Open e)

unfoldable pub close_text : PageElement → List ℕ
close_text e = mark_text (mark.Close e)

-- an element with a foreign text
unfoldable pub element_text : PageElement → List ℕ → List ℕ
element_text e text = open_text e ++ (escaped text ++ close_text e)

-- a cell of a table with a number
unfoldable pub number_cell : ℕ → List ℕ
number_cell number = open_text element.Number ++ (decimal number ++ close_text element.Number)

-- the beginning of a document of this title
unfoldable pub begin_text : List ℕ → List ℕ
begin_text title = mark_text mark.Begin ++ (escaped title ++ mark_text mark.Style)
