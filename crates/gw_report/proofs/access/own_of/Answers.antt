use Rattle.std.proofs.Common.{rules, ◌≡◌, ◌∷◌, ◌+◌, ◌++◌, [], get_or}
use Rattle.gw_report.specs.declared.access.Whence.TheVariants.{Port}
use Rattle.gw_report.proofs.Owning.{own_step}
use Rattle.gw_report.proofs.access.own_of.Goals as goal

pub loop-place-preserved : goal.loop-place-preserved
loop-place-preserved c =
    let item = c.index-ports-place.result in
    let here : get_or c.args.ports.now c.loop-place.place item ≡ item = search rules in
    let made : c.push.new.self.items ≡ c.loop-place.own.items ++ Port (c.loop-place.place + 1) item.network ∷ [] = search rules in
    own_step c.args.ports.now c.loop-place.place item c.loop-place.own.items c.push.new.self.items c.loop-place-test.true here
    c.loop-place.invariant made
