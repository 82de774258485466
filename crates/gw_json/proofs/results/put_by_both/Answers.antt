use Rattle.std.proofs.Common.{◌∙◌, ◌++◌, List, ap, length}
use Rattle.gw_ask_sets.specs.declared.regions.comparison.Found.{Found}
use Rattle.gw_ask_sets.specs.declared.regions.pairs.ShownPair.{ShownPair}
use Rattle.gw_json.specs.Document.{line_of}
use Rattle.gw_json.specs.Results.{given_up_value, pairs_lines, regions_lines}
use Rattle.gw_policy_review.proofs.comparison_lemmas.Appending.{three}
use Rattle.gw_json.proofs.results.put_by_both.Goals as goal

pub returns : goal.returns
returns c =
    let listing = c.args.listing.now in
    let old = listing.old.now in
    let new = listing.new.now in
    let summary = c.args.summary.now in
    let pairs = c.args.pairs.now in
    let found = summary.found.items in
    let before = c.args.out.now.items in
    let regions = c.put_regions.new.out.items in
    three c.put_given_up.result before regions c.put_pairs.new.out.items c.put_given_up.new.out.items
    (regions_lines old new listing.most found) (pairs_lines old new listing.most pairs.found.items)
    (line_of (given_up_value (length found) summary.steps (length pairs.found.items) (length pairs.given_up.items)))
    (c.in_ok-put_regions.ensures ∙ ap (λ (xs : List Found). before ++ regions_lines old new listing.most xs) c.deref.ensures.value)
    (c.in_ok-put_pairs.ensures ∙ ap (λ (xs : List ShownPair). regions ++ pairs_lines old new listing.most xs) c.deref-2.ensures.value)
    c.put_given_up.ensures.ok
