use Rattle.std.proofs.Common.{◌≡◌, ◌++◌, map, take}
use Rattle.gw_state_words.specs.takeover.Findings.{finding_of_route}
use Rattle.gw_state_words.proofs.takeover.routes.add_routes.Given as goal

abbrev pub invariant-loop-learned : goal.invariant-loop-learned
invariant-loop-learned l =
    l.found.items
    ≡ l.fn.found.items ++ map (finding_of_route l.config l.saved.ports l.kept) (take l.learned-index l.saved.routes)
