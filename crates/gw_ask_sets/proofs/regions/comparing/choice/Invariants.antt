use Rattle.std.proofs.Common.{◌≤◌, length}
use Rattle.gw_ask_sets.proofs.regions.comparing.choice.Given as goal

abbrev pub invariant-loop : goal.invariant-loop
invariant-loop l = record {
  one : l.a ≤ length l.p.places.items;
  two : l.b ≤ length l.q.places.items;
}
