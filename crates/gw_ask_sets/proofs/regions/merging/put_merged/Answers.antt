use Rattle.std.proofs.Common.{◌≡◌, ◌∙◌, ◌<◌, ◌++◌, ◌∷◌, [], List, ap, get_or, length, subst, sym}
use Rattle.gw_ask_sets.specs.regions.Merging.{AreJoint, AreKept}
use Rattle.gw_ask_sets.specs.declared.regions.comparison.Found.{Found}
use Rattle.gw_ask_sets.proofs.regions_lemmas.MergingLaw.{merged_step}
use Rattle.gw_ask_sets.proofs.regions.merging.put_merged.Goals as goal

pub loop-partner-preserved : goal.loop-partner-preserved
loop-partner-preserved c = λ rest.
    let start = c.args.done.now.items ++ c.args.found ∷ [] in
    let done = c.loop-partner.done.items in
    let carried = c.loop-partner.carried in
    let partner = c.in-Some.partner in
    let other = c.swap_remove-other.result in
    let near = c.in-Some.ensures in
    let within = subst (λ (xs : List Found). partner.place < length xs) c.as_slice.ensures.value near.0 in
    let there : get_or c.as_slice.result.now partner.place other ≡ other =
    ap (λ (xs : List Found). get_or xs partner.place other) c.as_slice.ensures.value ∙ sym c.swap_remove-other.ensures.value in
    let joint = subst (λ (f : Found). AreJoint partner.field carried f) there (near.1 other) in
    subst (λ (less : List Found). AreKept (rest ++ start) (rest ++ (less ++ c.in_ok-carried.carried ∷ []))) (sym c.swap_remove-other.ensures.items)
    (merged_step start done partner.place carried other c.in_ok-carried.carried within c.swap_remove-other.ensures.value (c.in_ok-carried.ensures joint)
    c.loop-partner.invariant rest)

pub returns : goal.returns
returns c = λ rest.
    subst (λ (xs : List Found). AreKept (rest ++ (c.args.done.now.items ++ c.args.found ∷ [])) (rest ++ xs)) (sym c.in_ok-push.ensures.items)
    (c.loop-partner.invariant rest)
