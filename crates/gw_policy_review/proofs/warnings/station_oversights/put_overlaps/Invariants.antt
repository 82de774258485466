use Rattle.std.proofs.Common.{◌≡◌, ◌++◌, take}
use Rattle.gw_policy_review.specs.warnings.Oversights.{overlap_lines}
use Rattle.gw_script.specs.Order.{in_order}
use Rattle.gw_policy_review.proofs.warnings.station_oversights.put_overlaps.Given as goal

abbrev pub invariant-loop-place : goal.invariant-loop-place
invariant-loop-place l = l.out.items ≡ l.fn.out.items ++ in_order (overlap_lines l.numbered.config.now.ports l.numbered.number l.numbered.port.now) 1 (take l.place l.stations)
