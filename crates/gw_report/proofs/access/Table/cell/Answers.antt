use Rattle.std.proofs.Common.{List, rules, ◌≡◌, subst}
use Rattle.gw_ask_sets.specs.shapes.Shape.{Shape}
use Rattle.gw_report.specs.Access.{IsCell, asked_shapes}
use Rattle.gw_report.proofs.access.Table.cell.Goals as goal

pub returns : goal.returns
returns c =
    let self = c.args.self.now in
    let same : c.deref.result.now ≡ asked_shapes self.own.now self.shapes.now c.args.whence c.args.operation = search rules in
    subst (λ (those : List Shape). IsCell those self.rules.now c.args.left c.in_ok-found.found.left c.in_ok-found.found.extent) same c.in_ok-found.ensures
