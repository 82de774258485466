use Rattle.std.proofs.Common.{◌≡◌, ◌++◌, take}
use Rattle.gw_notices.specs.metrics.Escape.{escaped}
use Rattle.gw_notices.proofs.metrics.escape.put_escaped.Given as goal

abbrev pub invariant-loop-octet : goal.invariant-loop-octet
invariant-loop-octet l = l.out.items ≡ l.fn.out.items ++ escaped (take l.octet-index l.value)
