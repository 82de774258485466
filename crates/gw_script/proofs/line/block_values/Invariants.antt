use Rattle.std.specs.Prelude.{◌≡◌, ℕ, ◌+◌, ◌*◌, ◌<◌, length, slice_index}
use Rattle.gw_script.specs.internal.Pairs.{IsValue}
use Rattle.gw_script.proofs.line.block_values.Given as goal

abbrev pub invariant-loop-k : goal.invariant-loop-k
invariant-loop-k g l =
    (length l.values ≡ g.row.DIGITS)
    × ((j : ℕ) → j < l.k → IsValue (slice_index l.text (2 * l.start + j)) (slice_index l.values j))
