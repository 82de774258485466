use Rattle.std.proofs.Common.{◌≡◌, ◌++◌, ◌+◌, drop}
use Rattle.gw_ask_sets.specs.shapes.Shapes.{entrances_from}
use Rattle.gw_ask_sets.proofs.shapes.shapes.entrances_apart.Given as goal

-- what is made and what is left are all of them
abbrev pub invariant-loop-place : goal.invariant-loop-place
invariant-loop-place l =
    l.entrances.items ++ entrances_from (1 + l.place) (drop l.place l.ports) ≡ entrances_from 1 l.ports
