use Rattle.std.proofs.Common.{ap, ◌-◌, false, slice_index_or}
use Rattle.gw_wire.specs.Ports.{Ports}
use Rattle.gw_wire.proofs.ports.Ports.own_first.Goals as goal

pub returns : goal.returns
returns g c =
    rw c.from.ensures (ap (λ (w : Ports _). slice_index_or w.own_first (c.args.port - 1) false) c.self.view_is)
