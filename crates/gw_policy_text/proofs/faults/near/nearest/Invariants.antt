use Rattle.std.proofs.Common.{◌≡◌, option_map}
use Rattle.gw_policy_text.specs.faults.Near.{nearest}
use Rattle.gw_policy_text.proofs.faults.near.nearest.Given as goal

abbrev pub invariant-loop-number : goal.invariant-loop-number
invariant-loop-number l = option_map (λ x. (x.0, x.1.now)) l.best ≡ nearest l.names l.text l.number
