use Rattle.gw_verdicts.proofs.ComparedLaw.{events_are_alike, events_are_compared, events_are_paired, lines_are_true_of_events}
use Rattle.gw_verdicts.proofs.laws.comparisons.Goals as goal

pub returns : goal.returns
returns c = record { compared = events_are_compared; paired = events_are_paired; alike = events_are_alike; lines = lines_are_true_of_events }
