use Rattle.std.proofs.Common.{◌≡◌, ◌++◌}
use Rattle.gw_tables.proofs.routes.routes.Routes.learned.Given as goal

-- what is pushed and what is left are all learned routes
abbrev pub invariant-loop-net : goal.invariant-loop-net
invariant-loop-net l = l.learned.items ++ l.net-iterator ≡ l.self.learned
