use Rattle.gw_tables.proofs.routes_lemmas.News.{go_last, new_once, new_unknown, new_named}
use Rattle.gw_tables.proofs.routes.laws.new_networks.Goals as goal

pub returns : goal.returns
returns c = record {
  last = λ t nets route. go_last t route nets;
  once = new_once;
  unknown = new_unknown;
  named = new_named;
}
