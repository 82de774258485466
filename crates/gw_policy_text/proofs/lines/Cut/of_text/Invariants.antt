use Rattle.std.proofs.Common.{◌≡◌, drop}
use Rattle.gw_policy_text.specs.Lines.{all_read, start}
use Rattle.gw_policy_text.specs.internal.Lines.{seen}
use Rattle.gw_policy_text.proofs.lines.Cut.of_text.Given as goal

abbrev pub invariant-loop-octet : goal.invariant-loop-octet
invariant-loop-octet l = all_read (seen l.cut) (drop l.octet-index l.text) ≡ all_read (start l.key) l.text
