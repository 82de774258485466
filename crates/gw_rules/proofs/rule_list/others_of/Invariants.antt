use Rattle.std.proofs.Common.{◌≡◌, length, map, take}
use Rattle.gw_rules.specs.internal.Grouped.{names_another}
use Rattle.gw_rules.proofs.rule_list.others_of.Given as goal

abbrev pub invariant-loop-place : goal.invariant-loop-place
invariant-loop-place l = (length l.others ≡ 512) × (take l.place l.others ≡ map names_another (take l.place l.rules))
