use Rattle.std.proofs.Common.{◌≡◌, ◌≤◌, ◌++◌, take}
use Rattle.std.specs.List.{flat_map}
use Rattle.std.specs.Vec.{vec_capacity}
use Rattle.gw_addr.specs.Station.{two_digits}
use Rattle.gw_audit.proofs.text.put_octets.Given as goal

abbrev pub invariant-loop-octet : goal.invariant-loop-octet
invariant-loop-octet l =
    (l.out.items ≡ l.fn.out.items ++ flat_map two_digits (take l.octet-index l.fn.octets)) × (vec_capacity l.fn.out ≤ vec_capacity l.out)
