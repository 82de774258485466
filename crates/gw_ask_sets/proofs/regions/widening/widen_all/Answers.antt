use Rattle.std.proofs.Common.{◌∙◌, ◌++◌, List, refl, subst, sym}
use Rattle.std.proofs.lemmas.List.{nil_from_length}
use Rattle.gw_ask_sets.specs.regions.Comparing.{IsSummary}
use Rattle.gw_ask_sets.specs.declared.regions.comparison.Found.{Found}
use Rattle.gw_ask_sets.proofs.regions_lemmas.MergingLaw.{widen_step}
use Rattle.gw_ask_sets.proofs.regions.widening.widen_all.Goals as goal

pub loop-next-preserved : goal.loop-next-preserved
loop-next-preserved c = λ old new left was.
    let shapes = c.args.shapes.now in
    subst (λ (xs : List Found). IsSummary shapes old new (c.pop.new.self.items ++ xs) left) (sym c.in_ok-push.ensures.items)
    (widen_step shapes old new left c.pop.new.self.items c.loop-next.done.items c.loop-next.rest.items c.in-Some.next _
    c.in-Some.ensures.items refl c.in_ok-widen.ensures (c.loop-next.invariant old new left was))

pub returns : goal.returns
returns c = λ old new left was.
    subst (λ (xs : List Found). IsSummary c.args.shapes.now old new (xs ++ c.loop-next.done.items) left)
    (nil_from_length c.loop-next.rest.items (sym c.loop-next.rest.ok.0 ∙ c.in_default.ensures.cases.0)) (c.loop-next.invariant old new left was)
