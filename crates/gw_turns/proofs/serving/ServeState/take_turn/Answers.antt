use Rattle.std.proofs.Common.{◌≡◌, true}
use Rattle.gw_turns.specs.Serve.{scene}
use Rattle.gw_turns.proofs.GuardLemmas.{unguarded, unguarded_fault}
use Rattle.gw_turns.proofs.serving.ServeState.take_turn.Goals as goal

pub returns-in-Ok-clause-end : goal.returns-in-Ok-clause-end
returns-in-Ok-clause-end g c =
    let before = scene c.args.gateway.now (g.L.OctetSink.held c.args.log.now) (g.W.Wire.calls c.args.wire.now) in
    let new = c.take_guarded_turn.new in
    let after = scene new.gateway (g.L.OctetSink.held new.log) (g.W.Wire.calls new.wire) in
    unguarded _ _ before after c.args.self.now.served new.self.served c.args.self.now.tally new.self.tally new.self.unwritten.items _
    c.in-Ok.ensures.end

pub returns-in-Err-clause-end : goal.returns-in-Err-clause-end
returns-in-Err-clause-end g c =
    let before = scene c.args.gateway.now (g.L.OctetSink.held c.args.log.now) (g.W.Wire.calls c.args.wire.now) in
    let new = c.take_guarded_turn.new in
    let after = scene new.gateway (g.L.OctetSink.held new.log) (g.W.Wire.calls new.wire) in
    unguarded_fault (λ _ _ _ _ passes. passes ≡ true) _ _ before after c.args.self.now.served new.self.served c.args.self.now.tally
    new.self.tally new.self.unwritten.items c.in-Err.fault c.in-Err.ensures.end
