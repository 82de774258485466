use Rattle.std.proofs.Common.{◌∙◌, ap, sym}
use Rattle.std.proofs.lemmas.List.{drop_all}
use Rattle.gw_ask_sets.specs.shapes.Shapes.{gaps_between}
use Rattle.gw_ask_sets.proofs.shapes_lemmas.Listing.{between_step}
use Rattle.gw_ask_sets.proofs.shapes.shapes.gaps.Goals as goal

pub loop-port-preserved : goal.loop-port-preserved
loop-port-preserved c =
    let made = rw (c.from.ensures, c.get.ensures.value, c.deref.ensures.value) at c.in_ok-sides-2.ensures in
    between_step c.loop-port.sides.items _ c.args.ports.now c.loop-port.port-index c.port-item.result c.loop-port-test.true c.port-item.is made
    ∙ c.loop-port.invariant

pub returns : goal.returns
returns c =
    ap (gaps_between c.loop-port.sides.items) (sym (drop_all c.loop-port.port-index c.args.ports.now c.loop-port-test.false))
    ∙ c.loop-port.invariant
