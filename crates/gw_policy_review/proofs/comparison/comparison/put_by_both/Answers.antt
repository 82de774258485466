use Rattle.std.proofs.Common.{◌≡◌, ◌∙◌, ◌++◌, ℕ, List, ap, arith, length}
use Rattle.gw_ask_sets.specs.declared.regions.pairs.ShownPair.{ShownPair}
use Rattle.gw_policy_review.specs.comparison.Comparison.{ending_text}
use Rattle.gw_policy_review.specs.comparison.Groups.{regions_text}
use Rattle.gw_policy_review.specs.comparison.PairLines.{given_up_text, pairs_text}
use Rattle.gw_policy_review.proofs.comparison_lemmas.Appending.{four}
use Rattle.gw_policy_review.proofs.comparison.comparison.put_by_both.Goals as goal

pub returns : goal.returns
returns c =
    let listing = c.args.listing.now in
    let old = listing.old.now in
    let new = listing.new.now in
    let pairs = c.args.pairs.now in
    let found = length pairs.found.items in
    let up = length pairs.given_up.items in
    let is_found : c.len.result ≡ found = omega (arith, pairs.found.ok.0, c.len.ensures) in
    let is_up : c.len-2.result ≡ up = omega (arith, pairs.given_up.ok.0, c.len-2.ensures) in
    let regions = c.put_regions.new.out.items in
    let paired = c.put_pairs.new.out.items in
    let counted = c.put_given_up.new.out.items in
    four c.put_ending.result c.args.out.now.items regions paired counted c.put_ending.new.out.items
    (regions_text old new listing.most listing.found.now) (pairs_text old new listing.most pairs.found.items) (given_up_text found up)
    (ending_text c.args.made (length listing.found.now)) c.in_ok-put_regions.ensures
    (c.in_ok-put_pairs.ensures ∙ ap (λ (xs : List ShownPair). regions ++ pairs_text old new listing.most xs) c.deref.ensures.value)
    (c.in_ok-put_given_up.ensures ∙ ap (λ (n : ℕ). paired ++ given_up_text n c.len-2.result) is_found
    ∙ ap (λ (n : ℕ). paired ++ given_up_text found n) is_up)
    c.put_ending.ensures
