use Rattle.gw_json.proofs.Reading.{answers_stay}
use Rattle.gw_json.proofs.laws.answers.Goals as goal

pub returns : goal.returns
returns c = answers_stay
