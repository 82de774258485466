use Rattle.std.proofs.Common.{length, rules, ◌≤◌}
use Rattle.std.proofs.lemmas.List.{drop_all}
use Rattle.gw_report.specs.Report.{IsRow}
use Rattle.gw_policy_review.proofs.permissions_lemmas.InTurn.{turned_all, turned_more, turned_none}
use Rattle.gw_report.proofs.access.Table.put_rows.Goals as goal

pub loop-whence-init : goal.loop-whence-init
loop-whence-init c =
    let self = c.args.self.now in
    turned_none (λ place whence. IsRow self.rules.now self.own.now self.shapes.now whence) self.own.now c.args.left c.args.page.now

pub loop-whence-preserved : goal.loop-whence-preserved
loop-whence-preserved c =
    let self = c.args.self.now in
    turned_more (λ place whence. IsRow self.rules.now self.own.now self.shapes.now whence) self.own.now c.loop-whence.whence-index _
    c.args.left c.loop-whence.rest c.in_ok-rest.rest c.args.page.now c.loop-whence.page c.put_row.new.page c.loop-whence-test.true c.loop-whence.invariant c.in_ok-rest.ensures

pub returns : goal.returns
returns c =
    let self = c.args.self.now in
    let ends : length self.own.now ≤ c.loop-whence.whence-index = search rules in
    turned_all (λ place whence. IsRow self.rules.now self.own.now self.shapes.now whence) self.own.now c.loop-whence.whence-index c.args.left
    c.loop-whence.rest
    c.args.page.now c.loop-whence.page (drop_all c.loop-whence.whence-index self.own.now ends) c.loop-whence.invariant
