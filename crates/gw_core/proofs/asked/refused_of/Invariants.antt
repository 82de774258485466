use Rattle.std.proofs.Common.{◌≡◌, take}
use Rattle.gw_core.specs.Asked.{refused_of}
use Rattle.gw_core.proofs.asked.refused_of.Given as goal

abbrev pub invariant-loop-verdict : goal.invariant-loop-verdict
invariant-loop-verdict l = l.refusals ≡ refused_of (take l.verdict-index l.verdicts)
