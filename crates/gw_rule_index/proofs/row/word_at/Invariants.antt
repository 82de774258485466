use Rattle.std.proofs.Common.{◌≡◌, ℕ, ◌+◌, ◌≤◌, ◌<◌}
use Rattle.std.specs.Int.{bit_at}
use Rattle.gw_rule_index.specs.internal.Row.{admits_in, bit, is_marked}
use Rattle.gw_rule_index.proofs.row.word_at.Given as goal

abbrev pub invariant-loop-place : goal.invariant-loop-place
invariant-loop-place l = record {
  done : (b : ℕ) → b < l.place → bit_at l.word b ≡ bit (is_marked (admits_in l.field l.value) l.rules (l.from + b));
  left : (b : ℕ) → l.place ≤ b → bit_at l.word b ≡ 0;
}
