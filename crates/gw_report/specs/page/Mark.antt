-- The constants of a page.
use Rattle.std.specs.Prelude.{ℕ, List, codes}
use Rattle.gw_report.specs.declared.page.drawing.Label.{Label}
use Rattle.gw_report.specs.declared.page.drawing.Label.TheVariants as label
use Rattle.gw_report.specs.declared.page.drawing.Shape.{Shape}
use Rattle.gw_report.specs.declared.page.drawing.Shape.TheVariants as shape
use Rattle.gw_report.specs.declared.page.element.PageElement.{PageElement}
use Rattle.gw_report.specs.declared.page.element.PageElement.TheVariants as element
use Rattle.gw_report.specs.declared.page.mark.Mark.{Mark}
use Rattle.gw_report.specs.declared.page.mark.Mark.TheVariants as mark
use Rattle.gw_report.specs.declared.page.mark.TheConstants.{BEGIN, STYLE}

abbrev pub opening : PageElement → List ℕ
opening element.Title = codes "<h1>"
opening element.Heading = codes "<h2>"
opening element.Subheading = codes "<h3>"
opening element.Paragraph = codes "<p>"
opening element.Aside = codes "<p class=\"aside\">"
opening element.Table = codes "<div class=\"wide\"><table>\n"
opening element.Row = codes "<tr>"
opening element.Head = codes "<th>"
opening element.Cell = codes "<td>"
opening element.Number = codes "<td class=\"number\">"
opening element.All = codes "<td class=\"all\">"
opening element.Some = codes "<td class=\"some\">"
opening element.Nothing = codes "<td class=\"nothing\">"
opening element.List = codes "<ul>\n"
opening element.Item = codes "<li>"
opening element.Code = codes "<code>"

abbrev pub closing : PageElement → List ℕ
closing element.Title = codes "</h1>\n"
closing element.Heading = codes "</h2>\n"
closing element.Subheading = codes "</h3>\n"
closing element.Paragraph = codes "</p>\n"
closing element.Aside = codes "</p>\n"
closing element.Table = codes "</table></div>\n"
closing element.Row = codes "</tr>\n"
closing element.Head = codes "</th>"
closing element.Cell = codes "</td>"
closing element.Number = codes "</td>"
closing element.All = codes "</td>"
closing element.Some = codes "</td>"
closing element.Nothing = codes "</td>"
closing element.List = codes "</ul>\n"
closing element.Item = codes "</li>\n"
closing element.Code = codes "</code>"

abbrev pub shape_text : Shape → List ℕ
shape_text shape.Gateway = codes "<rect class=\"gateway\" x=\""
shape_text shape.Network = codes "<rect class=\"network\" x=\""
shape_text shape.Peer = codes "<rect class=\"peer\" x=\""
shape_text shape.Router = codes "<rect class=\"router\" x=\""
shape_text shape.Device = codes "<rect class=\"device\" x=\""
shape_text shape.Bar = codes "<rect class=\"bar\" x=\""

abbrev pub label_text : Label → List ℕ
label_text label.Plain = codes "<text x=\""
label_text label.Strong = codes "<text class=\"strong\" x=\""
label_text label.Light = codes "<text class=\"light\" x=\""

-- the octets of a constant; the two long ones are those of `mark.rt`
abbrev pub mark_text : Mark → List ℕ
mark_text mark.Begin = BEGIN.now
mark_text mark.Style = STYLE.now
mark_text mark.End = codes "</body></html>\n"
mark_text (mark.Open e) = opening e
mark_text (mark.Close e) = closing e
mark_text mark.Picture = codes "<div class=\"wide\"><svg role=\"img\" viewBox=\"0 0 724 "
mark_text mark.PictureBody = codes "\">\n"
mark_text mark.PictureEnd = codes "</svg></div>\n"
mark_text (mark.Shape s) = shape_text s
mark_text (mark.Label l) = label_text l
mark_text mark.Down = codes "\" y=\""
mark_text mark.Width = codes "\" width=\""
mark_text mark.Height = codes "\" height=\""
mark_text mark.ShapeEnd = codes "\" rx=\"3\"/>\n"
mark_text mark.LabelBody = codes "\">"
mark_text mark.LabelEnd = codes "</text>\n"
