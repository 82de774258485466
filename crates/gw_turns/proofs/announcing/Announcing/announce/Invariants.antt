use Rattle.std.proofs.Common.{◌≡◌, ℕ}
use Rattle.gw_turns.specs.Announcing.{AreAnnounced}
use Rattle.gw_turns.specs.Stretch.{CanCount}
use Rattle.gw_turns.specs.declared.serving.Served.{Served}
use Rattle.gw_turns.specs.declared.tally.DropTally.{DropTally}
use Rattle.gw_turns.proofs.announcing.Announcing.announce.Given as goal

abbrev pub invariant-loop-place : goal.invariant-loop-place
invariant-loop-place g l =
    let wire = g.W.Wire in record {
      announced : AreAnnounced l.place l.fn.self l.gateway (wire.calls l.fn.wire) l.self (wire.calls l.wire);
      counted : (served : Served) (tally : DropTally) (more : ℕ) → CanCount served tally (wire.failure_count l.fn.wire) more
          → CanCount served tally (wire.failure_count l.wire) more;
      ports : wire.port_count l.wire ≡ wire.port_count l.fn.wire;
      behind : wire.behind l.wire ≡ wire.behind l.fn.wire;
    }
