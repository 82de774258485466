use Rattle.std.proofs.Common.{◌∙◌, ◌++◌, ap, List, ℕ}
use Rattle.gw_report.specs.Report.{access_text}
use Rattle.gw_report.proofs.access.access_of.Goals as goal

pub returns : goal.returns
returns c = (
  c.in_ok-table.table,
  c.in_ok-table.ensures,
  c.in_ok-put_access.ensures ∙ ap (λ (x : List ℕ). x ++ access_text c.in_ok-table.table) c.new-page.ensures,
)
