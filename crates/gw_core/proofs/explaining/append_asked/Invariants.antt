use Rattle.std.proofs.Common.{◌≡◌, ◌≤◌, ◌++◌, take, vec_capacity}
use Rattle.gw_core.specs.Explained.{asked_lines}
use Rattle.gw_core.proofs.explaining.append_asked.Given as goal

abbrev pub invariant-loop-ask : goal.invariant-loop-ask
invariant-loop-ask l = record {
  items : l.out.items ≡ l.fn.out.items ++ asked_lines l.rules (take l.ask-index l.asked);
  capacity : vec_capacity l.fn.out ≤ vec_capacity l.out;
}
