-- states
use Rattle.gw_verdicts.proofs.StateLaw.{carried_are_under, histories_are_under, states_stay_under}
use Rattle.gw_verdicts.proofs.laws.states.Goals as goal

pub returns : goal.returns
returns c = record {
  histories = histories_are_under;
  carried = carried_are_under;
  runs = states_stay_under;
}
