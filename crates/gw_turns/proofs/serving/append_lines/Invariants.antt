use Rattle.std.proofs.Common.{◌≡◌, ◌++◌, take}
use Rattle.gw_turns.specs.Serve.{lines_of}
use Rattle.gw_turns.proofs.serving.append_lines.Given as goal

abbrev pub invariant-loop-denial : goal.invariant-loop-denial
invariant-loop-denial l = l.out.items ≡ l.fn.out.items ++ lines_of (take l.denial-index l.denials)
