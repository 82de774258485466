use Rattle.std.proofs.Common.{◌≡◌, take}
use Rattle.gw_relay.specs.Sends.{sendings}
use Rattle.gw_turns.specs.ServeTurn.{AreTried}
use Rattle.gw_turns.proofs.serving.try_batch.Given as goal

abbrev pub invariant-loop-target : goal.invariant-loop-target
invariant-loop-target g l =
    let wire = g.W.Wire in record {
      tried : AreTried (sendings l.batch.port (take l.target-index l.target-items) l.batch.octets) (wire.calls l.fn.wire) (wire.calls l.wire)
          l.fn.served l.served (wire.failure_count l.fn.wire) (wire.failure_count l.wire);
      ports : wire.port_count l.wire ≡ wire.port_count l.fn.wire;
      behind : wire.behind l.wire ≡ wire.behind l.fn.wire;
    }
