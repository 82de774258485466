use Rattle.gw_policy_text.proofs.TwoFormats.{kept}
use Rattle.gw_policy_text.proofs.laws.two_formats.Goals as goal

pub returns : goal.returns
returns c = kept
