use Rattle.std.proofs.Common.{refl, true}
use Rattle.gw_rules.specs.Ask.{Ask}
use Rattle.gw_ask_sets.proofs.regions_lemmas.ComparingLaw.{found_differs, was_decided}
use Rattle.gw_ask_sets.proofs.regions.laws.found.Goals as goal

pub returns : goal.returns
returns c = record {
  differs = λ shapes old new found left is ask there. found_differs (λ (ask : Ask). true) old new found is.verdicts ask refl there;
  asks = λ shapes old new found left is. was_decided (λ (ask : Ask). true) shapes old new found (λ ask in_shape. refl) is.verdicts is.asks;
}
