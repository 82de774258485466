use Rattle.std.proofs.Common.{ap, ◌+◌}
use Rattle.gw_wire.specs.Ports.{Ports}
use Rattle.gw_wire.proofs.ports.Ports.fail.Goals as goal

pub returns : goal.returns
returns g c = ap (λ (w : Ports _). record w { failures = w.failures + 1 }) c.self.view_is
