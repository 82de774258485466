use Rattle.std.proofs.Common.{◌∙◌, ap, refl}
use Rattle.gw_core.specs.Resumed.{carried}
use Rattle.gw_service.proofs.reload.adopt.Goals as goal

pub returns : goal.returns
returns c =
    let is = c.in_ok-saved.ensures in
    record {
      gateway = c.in_ok-gateway.ensures ∙ ap (carried c.args.edition.config) is.saved;
      origin = is.origin;
      checksum = refl;
      successor = is.successor;
      line = is.line;
    }
