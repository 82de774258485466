use Rattle.std.proofs.Common.{refl}
use Rattle.gw_service.proofs.HoldingLemmas.{passed_by, withheld_by}
use Rattle.gw_service.proofs.holding.HoldingGuard.pass.Goals as goal

pub returns-then-withholds : goal.returns-then-withholds
returns-then-withholds g c = λ w event is seen.
    withheld_by g.K.Guard.Passes c.args.self.now (record c.args.self.now { keeper = c.pass-passes.new.self; withheld = c.one_more-self.result }) w event
    c.args.taken.now.effects c.pass-passes.result c.withholds.result is.effects c.withholds.ensures c.if-withholds.true
    (c.pass-passes.ensures w event is seen) refl c.one_more-self.ensures

pub returns : goal.returns
returns g c = λ w event is seen.
    passed_by g.K.Guard.Passes c.args.self.now (record c.args.self.now { keeper = c.pass-passes.new.self }) w event
    c.args.taken.now.effects c.pass-passes.result c.withholds.result is.effects c.withholds.ensures c.if-withholds.false
    (c.pass-passes.ensures w event is seen) refl refl
