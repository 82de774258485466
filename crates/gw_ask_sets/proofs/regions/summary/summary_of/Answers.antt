use Rattle.std.proofs.Common.{List, subst, sym}
use Rattle.gw_ask_sets.specs.regions.Comparing.{IsSummary}
use Rattle.gw_ask_sets.specs.regions.Regions.{Region, lies_in_one}
use Rattle.gw_ask_sets.specs.declared.regions.comparison.Found.{Found}
use Rattle.gw_ask_sets.proofs.regions_lemmas.MergingLaw.{summary_of}
use Rattle.gw_ask_sets.proofs.regions.summary.summary_of.Goals as goal

pub returns-clause-summary : goal.returns-clause-summary
returns-clause-summary c = λ old new was.
    let shapes = c.args.shapes.now in
    let found = c.args.comparison.found.items in
    let left = c.args.comparison.left.items in
    let rest = c.into_parts-found.result.1.items in
    let start = subst (λ (fs : List Found). IsSummary shapes old new fs rest) (sym c.into_parts-found.ensures.found)
    (subst (λ (xs : List Region). IsSummary shapes old new found xs) (sym c.into_parts-found.ensures.left) (summary_of shapes old new found left was)) in
    let merged = c.in_ok-merged.ensures.found (lies_in_one shapes) shapes old new rest start in
    let wide = c.in_ok-wide.ensures old new rest merged in
    let joined = c.in_ok-joined.ensures.found (lies_in_one shapes) shapes old new rest wide in
    c.in_ok-found.ensures.summary old new rest joined
