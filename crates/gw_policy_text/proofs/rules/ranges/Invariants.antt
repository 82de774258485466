use Rattle.std.proofs.Common.{◌≡◌, true}
use Rattle.std.specs.List.{list_all}
use Rattle.gw_rules.specs.Bounds.{is_within}
use Rattle.gw_policy_text.specs.keys.Range.{bounds_of, range_in}
use Rattle.gw_policy_text.proofs.Each.{IsReadTo}
use Rattle.gw_policy_text.proofs.rules.ranges.Given as goal

abbrev pub invariant-loop-value : goal.invariant-loop-value
invariant-loop-value l = record { read : IsReadTo (range_in l.of) l.values l.value-index l.all; within : list_all (is_within (bounds_of l.of)) l.all ≡ true }
