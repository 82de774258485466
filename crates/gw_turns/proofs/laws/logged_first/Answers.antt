use Rattle.gw_turns.proofs.LoggedLemmas.{serving_logs_first, stops_log_first, stretches_log_first}
use Rattle.gw_turns.proofs.laws.logged_first.Goals as goal

pub returns-clause-stretches : goal.returns-clause-stretches
returns-clause-stretches g c = stretches_log_first g.G.Guard.Passes

pub returns-clause-serving : goal.returns-clause-serving
returns-clause-serving g c = serving_logs_first

pub returns-clause-stops : goal.returns-clause-stops
returns-clause-stops g c = stops_log_first
