use Rattle.std.proofs.Common.{◌≡◌, ◌+◌, ◌≤◌}
use Rattle.gw_configuration.specs.Configuration.{Configuration}
use Rattle.gw_turns.specs.Serve.{scene}
use Rattle.gw_turns.specs.Stretch.{CanCount, moment}
use Rattle.gw_service.specs.Chain.{stage}
use Rattle.gw_service.specs.Metering.{metered}
use Rattle.gw_service.specs.Conduct.{manner_by}
use Rattle.gw_service.specs.Scheduled.{reporting_by}
use Rattle.gw_service.proofs.ChainLemmas.{Chained}
use Rattle.gw_service.proofs.running.Running.serve.Given as goal

-- What the loop keeps: a chain leads to where it is, and what isn't served is left.
abbrev pub invariant-loop : goal.invariant-loop
invariant-loop g l =
    (l.self.state.left + l.counter ≤ l.fn.self.state.left)
    × (l.self.state.served.turns + l.self.state.left ≡ l.fn.self.state.served.turns + l.fn.self.state.left)
    × CanCount l.self.state.served l.self.state.tally (g.W.Wire.failure_count l.wire) l.self.state.left
    × (g.E.OctetSink.NeverFails l.fn.errors → g.E.OctetSink.NeverFails l.errors)
    × Chained (manner_by g.K.Guard.Passes g.K.StateKeeper.conduct (reporting_by l.fn.schedule)) l.fn.self.origin
    (λ (c : Configuration). stage c (moment (scene l.fn.self.gateway (g.L.OctetSink.held l.fn.log) (g.W.Wire.calls l.fn.wire)) l.fn.self.keeper
    l.fn.self.state.served l.fn.self.state.tally) (g.Q.Requests.recorded l.fn.self.requests) l.fn.self.counts l.fn.self.announcing l.fn.self.said (metered l.fn.self.metrics))
    l.self.origin
    (λ (c : Configuration). stage c (moment (scene l.self.gateway (g.L.OctetSink.held l.log) (g.W.Wire.calls l.wire)) l.self.keeper
    l.self.state.served l.self.state.tally) (g.Q.Requests.recorded l.self.requests) l.self.counts l.self.announcing l.self.said (metered l.self.metrics))
    (g.E.OctetSink.NeverFails l.fn.errors) (g.E.OctetSink.held l.fn.errors) (g.E.OctetSink.held l.errors)
