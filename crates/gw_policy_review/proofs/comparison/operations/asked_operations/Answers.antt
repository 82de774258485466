use Rattle.std.proofs.Common.{◌≡◌, ◌∙◌, ◌+◌, ◌++◌, ◌∷◌, [], List, add-one, ap, subst, sym, take}
use Rattle.std.proofs.Math.Seq.{take-suc}
use Rattle.std.proofs.lemmas.List.{take_all}
use Rattle.gw_ask_sets.specs.regions.Regions.{Region}
use Rattle.gw_policy_review.specs.comparison.Operations.{AreAsked}
use Rattle.gw_policy_review.proofs.comparison_lemmas.OperationLaw.{asked_more, nothing_of_none}
use Rattle.gw_policy_review.proofs.comparison.operations.asked_operations.Goals as goal

pub loop-shape-init : goal.loop-shape-init
loop-shape-init c = nothing_of_none c.args.region.now c.nothing-operations.result c.nothing-operations.ensures

pub loop-shape-preserved : goal.loop-shape-preserved
loop-shape-preserved c =
    let shapes = c.args.shapes.now in
    let region = c.args.region.now in
    let i = c.loop-shape.shape-index in
    let shape = c.shape-item.result in
    let taken : take (i + 1) shapes ≡ take i shapes ++ shape ∷ [] =
    ap (λ n. take n shapes) (add-one i) ∙ take-suc shapes i shape c.loop-shape-test.true ∙ ap (λ s. take i shapes ++ s ∷ []) (sym c.shape-item.is) in
    subst (λ (xs : List Region). AreAsked xs region c.in_ok-operations.operations) (sym taken)
    (asked_more (take i shapes) shape region c.loop-shape.operations c.in_ok-more.more c.in_ok-operations.operations
    c.loop-shape.invariant c.in_ok-more.ensures c.in_ok-operations.ensures)

pub returns : goal.returns
returns c =
    subst (λ (xs : List Region). AreAsked xs c.args.region.now c.loop-shape.operations)
    (take_all c.loop-shape.shape-index c.args.shapes.now c.loop-shape-test.false) c.loop-shape.invariant
