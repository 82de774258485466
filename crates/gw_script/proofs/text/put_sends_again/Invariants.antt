use Rattle.std.proofs.Common.{◌≡◌, ◌≤◌, ◌++◌, take, vec_capacity}
use Rattle.gw_script.specs.Text.{EndsWith, send_lines, send_tail}
use Rattle.gw_script.proofs.text.put_sends_again.Given as goal

abbrev pub invariant-loop-target : goal.invariant-loop-target
invariant-loop-target l = record {
  items : l.out.items ≡ l.fn.out.items ++ send_lines l.port (take l.target-index l.targets) l.octets;
  capacity : vec_capacity l.fn.out ≤ vec_capacity l.out;
  tail : EndsWith l.out.items (send_tail l.octets);
}
