use Rattle.std.proofs.Common.{◌∙◌, ◌++◌, ap, List, ℕ}
use Rattle.gw_policy_review.specs.permissions.Texts.{AreInTurn}
use Rattle.gw_report.specs.Report.{IsRow, table_text}
use Rattle.gw_report.specs.declared.access.Whence.TheVariants.{Beyond}
use Rattle.gw_report.proofs.Cells.{alone}
use Rattle.gw_report.proofs.access.whole_table.Goals as goal

pub returns : goal.returns
returns c =
    let t = c.args.table.now in
    let between = c.in_ok-between.between in
    let rest = c.in_ok-_rest._rest in
    let rows = c.put_rows.new.page in
    let last = c.put_row.new.page in record {
      between = between;
      rows = rows;
      are_rows = alone (AreInTurn (λ place whence. IsRow t.rules.now t.own.now t.shapes.now whence) 1 t.own.now 262144 between)
          c.new-rows.result rows c.new-rows.ensures c.in_ok-between.ensures;
      rest = rest;
      last = last;
      is_last = alone (IsRow t.rules.now t.own.now t.shapes.now Beyond between rest) c.new-last.result last c.new-last.ensures c.in_ok-_rest.ensures;
      whole = c.in_ok-put_table.ensures ∙ ap (λ (x : List ℕ). x ++ table_text rows last) c.new-page.ensures;
    }
