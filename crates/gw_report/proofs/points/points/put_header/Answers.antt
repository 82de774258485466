use Rattle.std.proofs.Common.{[], ◌∷◌, ◌∙◌, ◌++◌, List, ap, codes, ℕ}
use Rattle.gw_report.proofs.points_lemmas.Rows.{header_put}
use Rattle.gw_report.proofs.points.points.put_header.Goals as goal
use Rattle.gw_report.specs.points.Cells.{guarded, row_text}
use Rattle.gw_report.specs.points.Points.{column_row, setting_rows}

pub returns : goal.returns
returns c =
    let project = c.in_ok-project.ensures in
    header_put c.args.out.now.items c.put_row.new.out.items c.put_settings.new.out.items c.put_columns.new.out.items
    (codes "PROJECT_NAME" ∷ guarded c.args.device.now.name ∷ []) setting_rows column_row
    (c.in_ok-put_row.ensures ∙ ap (λ (name : List ℕ). c.args.out.now.items ++ row_text (codes "PROJECT_NAME" ∷ name ∷ [])) (c.as_slice.ensures.value ∙ project ∙ ap guarded c.as_str.ensures.text))
    c.in_ok-put_settings.ensures c.in_ok-put_columns.ensures
