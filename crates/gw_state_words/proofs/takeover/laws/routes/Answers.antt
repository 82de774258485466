use Rattle.gw_state_words.proofs.takeover_lemmas.FullLaw.{full_tables_are_full}
use Rattle.gw_state_words.proofs.takeover_lemmas.RouteLaws.{routes_are_as_said}
use Rattle.gw_state_words.proofs.takeover.laws.routes.Goals as goal

pub returns-clause-as_said : goal.returns-clause-as_said
returns-clause-as_said c = routes_are_as_said

pub returns-clause-full : goal.returns-clause-full
returns-clause-full c = full_tables_are_full
