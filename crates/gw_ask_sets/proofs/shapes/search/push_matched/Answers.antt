use Rattle.std.proofs.Common.{subst, sym}
use Rattle.gw_ask_sets.specs.regions.Regions.{IsParted, Region}
use Rattle.gw_ask_sets.specs.shapes.Regions.{region_of}
use Rattle.gw_ask_sets.proofs.shapes_lemmas.Narrowing.{none_pushed, one_pushed}
use Rattle.gw_ask_sets.proofs.shapes.search.push_matched.Goals as goal

pub returns-then-not-meets : goal.returns-then-not-meets
returns-then-not-meets c = none_pushed c.args.shape.now c.args.rule.now c.args.regions.now.items (sym c.if-not-meets.ensures)

pub returns : goal.returns
returns c =
    let made = c.in_ok-part.ensures.parted in
    let parted : IsParted c.args.rule.now (region_of c.args.shape.now) c.part.new.region made.0 =
    subst (λ (region : Region). IsParted c.args.rule.now region c.part.new.region made.0) c.in_ok-region.ensures.region made.2 in
    one_pushed c.args.shape.now c.args.rule.now c.part.new.region made.0 c.args.regions.now.items c.push.new.self.items parted
    c.in_ok-push.ensures.items
