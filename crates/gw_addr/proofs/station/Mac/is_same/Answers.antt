use Rattle.std.proofs.Common.{sym, ◌∙◌}
use Rattle.gw_addr.proofs.Stations.{same_to, same_from}
use Rattle.gw_addr.proofs.station.Mac.is_same.Goals as goal

pub returns : goal.returns
returns c = (
  λ e. same_to c.args.self.now c.args.other.now (sym c.eq.ensures ∙ e),
  λ e. c.eq.ensures ∙ same_from c.args.self.now c.args.other.now e,
)
