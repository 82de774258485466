use Rattle.std.proofs.Common.{◌≡◌, ◌+◌, ◌++◌, drop}
use Rattle.gw_core.specs.Denials.{denials_from}
use Rattle.gw_core.specs.internal.View.{origin_view}
use Rattle.gw_core.proofs.denial.add_denials_from.Given as goal

abbrev pub invariant-loop-place : goal.invariant-loop-place
invariant-loop-place l =
    let from = origin_view l.from in
    l.denials ++ denials_from l.rules (l.first + l.place) l.counts.ticks from (drop l.place l.refusals)
    ≡ l.fn.denials ++ denials_from l.rules l.first l.counts.ticks from l.refusals
