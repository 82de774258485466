use Rattle.std.proofs.Common.{◌≡◌, ℕ, ◌+◌, ◌*◌, ◌<◌, length}
use Rattle.std.specs.Prelude.{slice_index}
use Rattle.std.specs.Int.{bit_at}
use Rattle.gw_rule_index.specs.internal.Row.{admits_in, bit, is_marked}
use Rattle.gw_rule_index.proofs.row.Row.admitting.Given as goal

abbrev pub invariant-loop-place : goal.invariant-loop-place
invariant-loop-place l = record {
  len : length l.words ≡ 8;
  done : (k b : ℕ) → k < l.place → b < 64 → bit_at (slice_index l.words k) b ≡ bit (is_marked (admits_in l.field l.value) l.rules (64 * k + b));
}
