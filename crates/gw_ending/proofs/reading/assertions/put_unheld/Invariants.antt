use Rattle.std.proofs.Common.{◌≡◌, ◌++◌, take}
use Rattle.gw_ending.specs.reading.Assertions.{unheld_line}
use Rattle.gw_script.specs.Order.{in_order}
use Rattle.gw_ending.proofs.reading.assertions.put_unheld.Given as goal

abbrev pub invariant-loop-place : goal.invariant-loop-place
invariant-loop-place l = l.out.items ≡ l.fn.out.items ++ in_order (unheld_line l.config) 1 (take l.place l.judged)
