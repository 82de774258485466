use Rattle.std.proofs.Common.{◌≡◌, map, true}
use Rattle.std.specs.List.{list_all}
use Rattle.toml.specs.View.{view}
use Rattle.gw_rules.specs.Bounds.{is_within}
use Rattle.gw_policy_text.specs.keys.Range.{bounds_of}
use Rattle.gw_policy_text.proofs.keys_lemmas.Each.{AreReadTo}
use Rattle.gw_policy_text.proofs.keys.items.ranges.Given as goal

abbrev pub invariant-loop-item : goal.invariant-loop-item
invariant-loop-item l = record {
  read : AreReadTo (map view l.sets) l.of l.items l.item-index l.all;
  within : list_all (is_within (bounds_of l.of)) l.all ≡ true;
}
