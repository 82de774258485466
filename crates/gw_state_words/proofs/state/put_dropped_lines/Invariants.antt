use Rattle.std.proofs.Common.{◌≡◌, ◌++◌, take}
use Rattle.std.specs.List.{flat_map}
use Rattle.gw_state_words.specs.Words.{dropped_line}
use Rattle.gw_state_words.proofs.state.put_dropped_lines.Given as goal

abbrev pub invariant-loop-finding : goal.invariant-loop-finding
invariant-loop-finding l = l.out.items ≡ l.fn.out.items ++ flat_map dropped_line (take l.finding-index l.findings)
