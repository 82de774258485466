use Rattle.std.proofs.lemmas.Result.{IfOk-weaker}
use Rattle.gw_ask_sets.proofs.regions_lemmas.TidyLaw.{united_law}
use Rattle.gw_ask_sets.proofs.regions.ranges.united.Goals as goal

pub returns : goal.returns
returns c =
    IfOk-weaker c.with_all.result _ _
    (λ all made. united_law all c.in_ok-some.some c.args.xs.now c.args.ys.now c.in_ok-some.ensures made) c.with_all.ensures
