use Rattle.std.proofs.Common.{◌∙◌, ap, arith}
use Rattle.gw_policy_text.specs.faults.Near.{nearest}
use Rattle.gw_policy_text.proofs.faults.near.nearest.Goals as goal

pub returns : goal.returns
returns c = c.loop-number.invariant ∙ ap (λ n. nearest c.args.names c.args.text.now n) (omega (arith, c.loop-number-test.false))
