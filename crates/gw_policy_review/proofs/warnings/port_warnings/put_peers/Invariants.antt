use Rattle.std.proofs.Common.{take}
use Rattle.gw_script.specs.Order.{in_order}
use Rattle.gw_policy_review.specs.warnings.Warnings.{peer_lines}
use Rattle.gw_addr.proofs.Appended.{IsGrown}
use Rattle.gw_policy_review.proofs.warnings.port_warnings.put_peers.Given as goal

abbrev pub invariant-loop-index : goal.invariant-loop-index
invariant-loop-index l = IsGrown (in_order (peer_lines l.at.ports.now l.at.place l.at.port.now) 0 (take l.index l.peers)) l.fn.out l.out
