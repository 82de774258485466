use Rattle.gw_json.proofs.Shallow.{differences_stay}
use Rattle.gw_json.proofs.laws.differences.Goals as goal

pub returns : goal.returns
returns c = differences_stay
