use Rattle.std.proofs.Common.{refl}
use Rattle.gw_json.proofs.laws.regions.Goals as goal

pub returns : goal.returns
returns c = λ old new most steps found. refl
