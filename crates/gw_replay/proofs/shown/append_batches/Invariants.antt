use Rattle.std.proofs.Common.{◌≡◌, ◌≤◌, ◌++◌, take, vec_capacity}
use Rattle.std.specs.List.{flat_map}
use Rattle.gw_replay.specs.Shown.{batch_text}
use Rattle.gw_replay.proofs.shown.append_batches.Given as goal

abbrev pub invariant-loop-batch : goal.invariant-loop-batch
invariant-loop-batch l = record {
  items : l.out.items ≡ l.fn.out.items ++ flat_map batch_text (take l.batch-index l.batches);
  capacity : vec_capacity l.fn.out ≤ vec_capacity l.out;
}
