use Rattle.std.proofs.Common.{sym, ◌∙◌}
use Rattle.gw_addr.proofs.Stations.{same_source_to, same_source_from}
use Rattle.gw_addr.proofs.station.Source.is_same.Goals as goal

pub returns : goal.returns
returns c = (
  λ e. same_source_to c.args.self.now c.args.other.now (sym c.eq.ensures ∙ e),
  λ e. c.eq.ensures ∙ same_source_from c.args.self.now c.args.other.now e,
)
