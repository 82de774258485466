use Rattle.std.proofs.Common.{◌≡◌, length}
use Rattle.gw_policy_text.specs.keys.Value.{subnet_in}
use Rattle.gw_policy_text.proofs.Each.{IsReadTo}
use Rattle.gw_policy_text.proofs.port.subnets.Given as goal

abbrev pub invariant-loop-value : goal.invariant-loop-value
invariant-loop-value l = record { read : IsReadTo subnet_in l.values l.value-index l.all; count : length l.all ≡ l.value-index }
