use Rattle.std.proofs.Common.{◌≡◌, take}
use Rattle.std.specs.List.{flat_map}
use Rattle.gw_relay.specs.Sends.{sendings_of}
use Rattle.gw_turns.specs.ServeTurn.{AreTried}
use Rattle.gw_turns.proofs.serving.try_sends.Given as goal

abbrev pub invariant-loop-batch : goal.invariant-loop-batch
invariant-loop-batch g l =
    let wire = g.W.Wire in record {
      tried : AreTried (flat_map sendings_of (take l.batch-index l.batch-items)) (wire.calls l.fn.wire) (wire.calls l.wire)
          l.fn.served l.served (wire.failure_count l.fn.wire) (wire.failure_count l.wire);
      ports : wire.port_count l.wire ≡ wire.port_count l.fn.wire;
      behind : wire.behind l.wire ≡ wire.behind l.fn.wire;
    }
