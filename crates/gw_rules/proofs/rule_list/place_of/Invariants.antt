use Rattle.std.proofs.Common.{◌≤◌}
use Rattle.std.specs.List.{position_or_len}
use Rattle.gw_rules.specs.Rule.{matches}
use Rattle.gw_rules.proofs.rule_list.place_of.Given as goal

abbrev pub invariant-loop-place : goal.invariant-loop-place
invariant-loop-place l = l.place ≤ position_or_len (λ rule. matches rule l.ask) l.rules
