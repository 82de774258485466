use Rattle.std.proofs.Common.{◌≡◌, ◌++◌, take}
use Rattle.std.specs.List.{flat_map}
use Rattle.gw_notices.specs.metrics.Text.{family_text}
use Rattle.gw_notices.proofs.metrics.text.put_families.Given as goal

abbrev pub invariant-loop-family : goal.invariant-loop-family
invariant-loop-family l = l.out.items ≡ l.fn.out.items ++ flat_map (family_text l.counts) (take l.family-index l.families)
