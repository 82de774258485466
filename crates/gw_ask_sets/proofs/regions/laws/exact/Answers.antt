use Rattle.std.proofs.Common.{[], refl, true}
use Rattle.gw_rules.specs.Ask.{Ask}
use Rattle.gw_ask_sets.proofs.regions_lemmas.ComparingLaw.{alike_finished, exact_known}
use Rattle.gw_ask_sets.proofs.regions.laws.exact.Goals as goal

pub returns : goal.returns
returns c = record {
  known = exact_known (λ (ask : Ask). true);
  finished = λ shapes old new found is ask there. exact_known (λ (ask : Ask). true) shapes old new found [] is ask there refl;
  alike = alike_finished (λ (ask : Ask). true);
}
