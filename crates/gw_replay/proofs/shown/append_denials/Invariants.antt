use Rattle.std.proofs.Common.{◌≡◌, ◌≤◌, ◌++◌, take, vec_capacity}
use Rattle.gw_replay.specs.Shown.{denials_text}
use Rattle.gw_replay.proofs.shown.append_denials.Given as goal

abbrev pub invariant-loop-denial : goal.invariant-loop-denial
invariant-loop-denial l = record {
  items : l.out.items ≡ l.fn.out.items ++ denials_text (take l.denial-index l.denials);
  capacity : vec_capacity l.fn.out ≤ vec_capacity l.out;
}
