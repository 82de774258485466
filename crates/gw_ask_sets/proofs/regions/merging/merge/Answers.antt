use Rattle.std.proofs.Common.{◌∙◌, ◌++◌, List, subst, sym}
use Rattle.std.proofs.lemmas.List.{nil_from_length}
use Rattle.gw_ask_sets.specs.regions.Merging.{AreKept}
use Rattle.gw_ask_sets.specs.declared.regions.comparison.Found.{Found}
use Rattle.gw_ask_sets.proofs.regions_lemmas.MergingLaw.{merge_step}
use Rattle.gw_ask_sets.proofs.regions.merging.merge.Goals as goal

pub loop-next-preserved : goal.loop-next-preserved
loop-next-preserved c =
    merge_step c.args.found.items c.pop.new.self.items c.loop-next.done.items c.put_merged.new.done.items c.loop-next.rest.items c.in-Some.next
    c.in-Some.ensures.items c.loop-next.invariant (c.in_ok-put_merged.ensures c.pop.new.self.items)

pub returns : goal.returns
returns c =
    subst (λ (xs : List Found). AreKept c.args.found.items (xs ++ c.loop-next.done.items))
    (nil_from_length c.loop-next.rest.items (sym c.loop-next.rest.ok.0 ∙ c.in_default.ensures.cases.0)) c.loop-next.invariant
