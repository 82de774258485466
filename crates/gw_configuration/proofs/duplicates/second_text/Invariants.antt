use Rattle.std.proofs.Common.{◌≡◌, ℕ, List, drop, map, nat_eq, take}
use Rattle.std.specs.Cmp.Lexicographic.{pointwise}
use Rattle.std.specs.List.{list_any}
use Rattle.gw_configuration.specs.Duplicates.{second, second_behind}
use Rattle.gw_configuration.proofs.duplicates.second_text.Given as goal

abbrev pub invariant-loop-index : goal.invariant-loop-index
invariant-loop-index l = let texts = map (λ t. t.now) l.texts in record {
  sought : second_behind (pointwise nat_eq) (take l.index texts) l.index (drop l.index texts) ≡ second (pointwise nat_eq) texts;
  seen : (q : List ℕ) → list_any (λ t. pointwise nat_eq q t.now) l.seen.keys ≡ list_any (pointwise nat_eq q) (take l.index texts);
}
