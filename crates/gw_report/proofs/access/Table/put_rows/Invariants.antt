use Rattle.gw_report.specs.Report.{IsRow}
use Rattle.gw_policy_review.proofs.permissions_lemmas.InTurn.{Turned}
use Rattle.gw_report.proofs.access.Table.put_rows.Given as goal

abbrev pub invariant-loop-whence : goal.invariant-loop-whence
invariant-loop-whence l =
    Turned (λ place whence. IsRow l.self.rules.now l.self.own.now l.self.shapes.now whence) l.self.own.now l.whence-index l.fn.left l.rest
    l.fn.page l.page
