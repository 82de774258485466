use Rattle.std.proofs.Common.{◌≡◌, ℕ, List, Some}
use Rattle.std.specs.Io.KnownBytes.{prepend_known}
use Rattle.gw_shell.proofs.deciding.read_script.Given as goal

abbrev pub invariant-loop-chunk : goal.invariant-loop-chunk
invariant-loop-chunk g l =
    let left = g.R.OctetSource.left in
    (text : List ℕ) → left l.fn.input ≡ Some text → prepend_known l.script.items (left l.input) ≡ Some text
