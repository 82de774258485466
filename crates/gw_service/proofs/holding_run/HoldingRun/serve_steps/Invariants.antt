use Rattle.std.proofs.Common.{◌≡◌, ◌+◌, ◌≤◌}
use Rattle.gw_configuration.specs.Configuration.{Configuration}
use Rattle.gw_turns.specs.Stretch.{CanCount}
use Rattle.gw_service.specs.Holding.{hold, holding_manner, stage_of}
use Rattle.gw_service.specs.Scheduled.{reporting_by}
use Rattle.gw_service.proofs.HoldingRunLemmas.{Stepped}
use Rattle.gw_service.proofs.holding_run.HoldingRun.serve_steps.Given as goal

-- What the loop keeps: steps lead to where it is, and what isn't served is left.
abbrev pub invariant-loop : goal.invariant-loop
invariant-loop g l =
    (l.self.running.state.left + l.counter ≤ l.fn.self.running.state.left)
    × (l.self.running.state.served.turns + l.self.running.state.left
    ≡ l.fn.self.running.state.served.turns + l.fn.self.running.state.left)
    × CanCount l.self.running.state.served l.self.running.state.tally (g.W.Wire.failure_count l.wire) l.self.running.state.left
    × (g.E.OctetSink.NeverFails l.fn.errors → g.E.OctetSink.NeverFails l.errors)
    × Stepped (holding_manner g.K.Guard.Passes g.K.StateKeeper.conduct (reporting_by l.fn.schedule)) l.fn.self.running.origin
    (λ (c : Configuration). hold (stage_of g.Q.Requests.recorded c l.fn.self.running (g.L.OctetSink.held l.fn.log) (g.W.Wire.calls l.fn.wire)) l.fn.self.waiting)
    l.self.running.origin
    (λ (c : Configuration). hold (stage_of g.Q.Requests.recorded c l.self.running (g.L.OctetSink.held l.log) (g.W.Wire.calls l.wire)) l.self.waiting)
    (g.E.OctetSink.NeverFails l.fn.errors) (g.E.OctetSink.held l.fn.errors) (g.E.OctetSink.held l.errors)
