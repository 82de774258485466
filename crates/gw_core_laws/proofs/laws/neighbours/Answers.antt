use Rattle.gw_core_laws.proofs.BareLemmas.{bare_after, bare_carried, bare_next}
use Rattle.gw_core_laws.proofs.OwnLemmas.{each_network_is_once, own_networks_are_unnamed}
use Rattle.gw_core_laws.proofs.EchoLemmas.{two_gateways_stop}
use Rattle.gw_core_laws.proofs.PlainLemmas.{plain_is_as_before, plain_runs_as_before}
use Rattle.gw_core_laws.proofs.laws.neighbours.Goals as goal

pub returns : goal.returns
returns c = record {
  plain = plain_is_as_before;
  runs = plain_runs_as_before;
  bare = bare_after;
  carried = bare_carried;
  events = bare_next;
  own = own_networks_are_unnamed;
  once = each_network_is_once;
  stop = two_gateways_stop;
}
