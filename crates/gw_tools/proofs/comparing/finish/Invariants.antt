use Rattle.std.proofs.Common.{◌≡◌}
use Rattle.gw_policy_review.specs.comparison.Comparing.{IsUnderWay}
use Rattle.gw_tools.proofs.ComparingLemmas.{Tells}
use Rattle.gw_tools.proofs.comparing.finish.Given as goal

abbrev pub invariant-loop-portion : goal.invariant-loop-portion
invariant-loop-portion g l =
    let held = g.E.OctetSink.held in
    let sure = g.E.OctetSink.NeverFails in
    (l.comparing.old_one ≡ l.fn.comparing.old_one) × (l.comparing.new_one ≡ l.fn.comparing.new_one)
    × (IsUnderWay l.fn.comparing → IsUnderWay l.comparing)
    × (IsUnderWay l.fn.comparing
    → Tells l.fn.comparing.old_one l.fn.comparing.new_one l.comparing.steps (sure l.fn.errors) (held l.fn.errors) (held l.errors))
    × (sure l.fn.errors → sure l.errors)
