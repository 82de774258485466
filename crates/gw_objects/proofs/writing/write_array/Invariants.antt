use Rattle.std.proofs.Common.{◌≡◌, ◌≤◌, ◌++◌, take}
use Rattle.std.specs.List.{flat_map}
use Rattle.std.specs.Vec.{vec_capacity}
use Rattle.gw_codecs.specs.tags.Value.{value_encoding}
use Rattle.gw_objects.specs.internal.View.{array_view}
use Rattle.gw_objects.proofs.writing.write_array.Given as goal

abbrev pub invariant-loop-place : goal.invariant-loop-place
invariant-loop-place l = record {
  written : l.out.items ≡ l.fn.out.items ++ flat_map value_encoding (take l.place (array_view l.array));
  wider : vec_capacity l.fn.out ≤ vec_capacity l.out;
}
