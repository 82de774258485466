use Rattle.std.proofs.Common.{◌∙◌, ap, sym}
use Rattle.gw_ask_sets.specs.regions.Regions.{Region, lies}
use Rattle.gw_ask_sets.proofs.regions_lemmas.Growing.{any_at}
use Rattle.gw_ask_sets.proofs.assertions.judging.any_ask.Goals as goal

pub returns-in-Some-clause-some : goal.returns-in-Some-clause-some
returns-in-Some-clause-some c =
    any_at (λ r. lies r c.in-Some.ask) c.args.regions.now c.loop-region.region-index c.region-item.result c.loop-region-test.true
    (sym (ap (λ (r : Region). lies r c.in-Some.ask) c.region-item.is) ∙ c.in-Some.ensures.some)
