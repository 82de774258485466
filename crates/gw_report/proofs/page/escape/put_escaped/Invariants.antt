use Rattle.std.proofs.Common.{◌≡◌, ◌++◌}
use Rattle.std.specs.List.{flat_map}
use Rattle.gw_report.specs.page.Escape.{escaped_octet}
use Rattle.gw_report.proofs.page.escape.put_escaped.Given as goal

abbrev pub invariant-loop-octet : goal.invariant-loop-octet
invariant-loop-octet l = l.out.items ≡ l.fn.out.items ++ flat_map escaped_octet l.yielded
