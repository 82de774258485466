use Rattle.std.proofs.Common.{◌≡◌, ◌++◌}
use Rattle.gw_configuration.proofs.display.put_shown.Given as goal

abbrev pub invariant-loop-octet : goal.invariant-loop-octet
invariant-loop-octet l = l.out.items ≡ l.fn.out.items ++ l.yielded
