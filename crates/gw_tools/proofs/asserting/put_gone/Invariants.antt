use Rattle.std.proofs.Common.{◌≡◌, ◌++◌, take}
use Rattle.std.specs.List.{flat_map}
use Rattle.gw_tools.specs.Asserting.{gone_text}
use Rattle.gw_tools.proofs.asserting.put_gone.Given as goal

abbrev pub invariant-loop-assertion : goal.invariant-loop-assertion
invariant-loop-assertion l = l.out.items ≡ l.fn.out.items ++ flat_map (gone_text l.new) (take l.assertion-index l.old)
