use Rattle.gw_tables.proofs.routes_lemmas.Learning.{learned_once}
use Rattle.gw_tables.proofs.routes_lemmas.Words.{named_are_learned, places_are_kept, last_learning_holds}
use Rattle.gw_tables.proofs.routes.laws.learned_networks.Goals as goal

pub returns : goal.returns
returns c = record {
  each_once = learned_once;
  named = named_are_learned;
  places = places_are_kept;
  last = last_learning_holds;
}
