use Rattle.std.proofs.Common.{◌∙◌, ◌++◌, List, refl, subst, sym}
use Rattle.std.proofs.lemmas.List.{nil_from_length}
use Rattle.gw_ask_sets.specs.regions.Comparing.{IsSummary}
use Rattle.gw_ask_sets.specs.regions.Presence.{NoneIsMeant, OrNoneIsMeant}
use Rattle.gw_ask_sets.specs.regions.Regions.{lies_in_one}
use Rattle.gw_ask_sets.specs.declared.regions.comparison.Found.{Found}
use Rattle.gw_ask_sets.proofs.regions_lemmas.ComparingLaw.{all_push}
use Rattle.gw_ask_sets.proofs.regions_lemmas.MergingLaw.{all_moved, found_moved, widen_step}
use Rattle.gw_ask_sets.proofs.regions_lemmas.PresenceLaw.{meant_moved, meant_push}
use Rattle.gw_policy_review.specs.comparison.Operations.{OperationIsMeant, OperationsAreMeant}
use Rattle.gw_policy_review.proofs.comparison_lemmas.OperationLaw.{all_but_last}
use Rattle.gw_policy_review.proofs.comparison.operations.narrow_all.Goals as goal

pub loop-next-preserved : goal.loop-next-preserved
loop-next-preserved c =
    let shapes = c.args.shapes.now in
    let parts = all_but_last (λ g. NoneIsMeant shapes g.region) c.pop.new.self.items c.in-Some.next
    (subst (λ (xs : List Found). OrNoneIsMeant shapes xs) c.in-Some.ensures.items c.loop-next.invariant.before) in
    record {
      summary = λ old new left was.
          subst (λ (xs : List Found). IsSummary shapes old new (c.pop.new.self.items ++ xs) left) (sym c.in_ok-push.ensures.items)
          (widen_step shapes old new left c.pop.new.self.items c.loop-next.done.items c.loop-next.rest.items c.in-Some.next _
          c.in-Some.ensures.items refl c.in_ok-narrow.ensures.asks (c.loop-next.invariant.summary old new left was));
      before = parts.0;
      meant = subst (λ (xs : List Found). OrNoneIsMeant shapes xs) (sym c.in_ok-push.ensures.items)
          (meant_push shapes c.loop-next.done.items _ c.loop-next.invariant.meant (c.in_ok-narrow.ensures.or_none parts.1));
      operations = subst (λ (xs : List Found). OperationsAreMeant shapes xs) (sym c.in_ok-push.ensures.items)
          (all_push (λ g. OperationIsMeant shapes g.region) c.loop-next.done.items _ c.loop-next.invariant.operations c.in_ok-narrow.ensures.operations);
    }

pub returns : goal.returns
returns c = record {
  summary = λ old new left was.
      let shapes = c.args.shapes.now in
      found_moved (lies_in_one shapes) shapes old new left c.loop-next.done.items c.reverse.new.self.items c.reverse.ensures.permutation
      (subst (λ (xs : List Found). IsSummary shapes old new (xs ++ c.loop-next.done.items) left)
      (nil_from_length c.loop-next.rest.items (sym c.loop-next.rest.ok.0 ∙ c.in_default.ensures.cases.0)) (c.loop-next.invariant.summary old new left was));
  or_none = meant_moved c.args.shapes.now c.loop-next.done.items c.reverse.new.self.items c.reverse.ensures.permutation c.loop-next.invariant.meant;
  operations = all_moved (λ f. OperationIsMeant c.args.shapes.now f.region) c.loop-next.done.items c.reverse.new.self.items
      c.reverse.ensures.permutation c.loop-next.invariant.operations;
}
