use Rattle.std.proofs.Common.{◌≡◌, ◌+◌, drop}
use Rattle.gw_state.specs.Carried.{number_now}
use Rattle.gw_state.proofs.routes.number_now.Given as goal

abbrev pub invariant-loop-place : goal.invariant-loop-place
invariant-loop-place l = number_now (1 + l.place) (drop l.place l.ports) l.saved ≡ number_now 1 l.ports l.saved
