use Rattle.std.proofs.Common.{◌≡◌, true}
use Rattle.std.specs.List.{list_all}
use Rattle.gw_rules.specs.Bounds.{is_within}
use Rattle.gw_policy_text.specs.keys.Items.{span_in}
use Rattle.gw_policy_text.specs.keys.Range.{bounds_of}
use Rattle.gw_policy_text.proofs.keys_lemmas.Each.{IsPutTo}
use Rattle.gw_policy_text.proofs.keys.items.add_spans.Given as goal

abbrev pub invariant-loop-item : goal.invariant-loop-item
invariant-loop-item l = record {
  put : IsPutTo (span_in l.of) l.items l.item-index l.fn.all l.all;
  within : list_all (is_within (bounds_of l.of)) l.fn.all ≡ true → list_all (is_within (bounds_of l.of)) l.all ≡ true;
}
