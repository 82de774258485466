use Rattle.std.proofs.Common.{[], refl}
use Rattle.gw_ask_sets.specs.regions.Regions.{lies_in_one}
use Rattle.gw_ask_sets.proofs.regions_lemmas.ComparingLaw.{alike_finished, exact_known, found_differs, was_decided}
use Rattle.gw_ask_sets.proofs.regions_lemmas.CoverageLaw.{any_absent, any_number}
use Rattle.gw_ask_sets.proofs.regions_lemmas.MergingLaw.{summary_of}
use Rattle.gw_ask_sets.proofs.regions.laws.summary.Goals as goal

pub returns : goal.returns
returns c = record {
  compared = summary_of;
  known = λ shapes. exact_known (lies_in_one shapes) shapes;
  finished = λ shapes old new found is ask there. exact_known (lies_in_one shapes) shapes old new found [] is ask there refl;
  alike = λ shapes. alike_finished (lies_in_one shapes) shapes;
  differs = λ shapes old new found left is ask in_shape there. found_differs (lies_in_one shapes) old new found is.verdicts ask in_shape there;
  asks = λ shapes old new found left is. was_decided (lies_in_one shapes) shapes old new found (λ ask in_shape. in_shape) is.verdicts is.asks;
  absent = any_absent;
  number = any_number;
}
