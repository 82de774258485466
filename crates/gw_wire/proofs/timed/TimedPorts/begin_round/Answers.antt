use Rattle.std.proofs.Common.{refl}
use Rattle.gw_wire.specs.Timed.{begins}
use Rattle.gw_wire.proofs.timed.TimedPorts.begin_round.Goals as goal

pub returns-clause-looks : goal.returns-clause-looks
returns-clause-looks g c = begins c.wait.new.self c.hold_all.new.ports c.requires c.in_ok-wait.ensures.waits c.hold_all.ensures refl
