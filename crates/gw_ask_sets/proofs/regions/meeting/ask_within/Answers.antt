use Rattle.std.proofs.Common.{◌∙◌, ap, sym}
use Rattle.std.proofs.lemmas.Bool.{and_from, and_parts}
use Rattle.gw_ask_sets.specs.regions.Regions.{Region, lies, lies_in_one}
use Rattle.gw_ask_sets.proofs.regions_lemmas.Growing.{any_at}
use Rattle.gw_ask_sets.proofs.regions.meeting.ask_within.Goals as goal

pub returns-in-Some-clause-some : goal.returns-in-Some-clause-some
returns-in-Some-clause-some c =
    let ask = c.in-Some.ask in
    let region = c.args.region.now in
    let shapes = c.args.shapes.now in
    let parts = and_parts (lies region ask) (lies c.shape-item.result ask) c.in-Some.ensures.some in
    and_from (lies region ask) (lies_in_one shapes ask) parts.0
    (any_at (λ s. lies s ask) shapes c.loop-shape.shape-index _ c.loop-shape-test.true (sym (ap (λ (s : Region). lies s ask) c.shape-item.is) ∙ parts.1))
