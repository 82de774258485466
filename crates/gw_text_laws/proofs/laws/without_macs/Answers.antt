use Rattle.gw_text_laws.proofs.Macs.{as_before}
use Rattle.gw_text_laws.proofs.laws.without_macs.Goals as goal

pub returns : goal.returns
returns c = as_before
