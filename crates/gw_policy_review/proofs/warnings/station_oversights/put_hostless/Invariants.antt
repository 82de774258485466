use Rattle.std.proofs.Common.{◌≡◌, ◌++◌, take}
use Rattle.gw_policy_review.specs.warnings.Oversights.{hostless_lines}
use Rattle.gw_script.specs.Order.{in_order}
use Rattle.gw_policy_review.proofs.warnings.station_oversights.put_hostless.Given as goal

abbrev pub invariant-loop-place : goal.invariant-loop-place
invariant-loop-place l = l.out.items ≡ l.fn.out.items ++ in_order (hostless_lines l.number) 1 (take l.place l.stations)
