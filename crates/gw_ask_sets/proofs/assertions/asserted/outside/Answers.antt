use Rattle.std.proofs.Common.{◌≡◌, ◌∙◌, ◌&&◌, ◌||◌, [], List, ap, sym}
use Rattle.std.specs.Prelude.{not}
use Rattle.std.proofs.lemmas.List.{nil_from_length}
use Rattle.gw_rules.specs.Rule.{matches}
use Rattle.gw_ask_sets.specs.regions.Regions.{Region, lies_in_one}
use Rattle.gw_ask_sets.proofs.assertions_lemmas.GrowingLaw.{outside_next}
use Rattle.gw_ask_sets.proofs.regions_lemmas.RangeLaw.{or_none}
use Rattle.gw_ask_sets.proofs.assertions.asserted.outside.Goals as goal

pub loop-region-preserved : goal.loop-region-preserved
loop-region-preserved c = λ ask.
    outside_next c.loop-region.rest.items c.pop.new.self.items c.loop-region.out.items c.push_outside.new.out.items c.in-Some.region
    (matches c.args.rule.now ask) _ ask c.in-Some.ensures.items (c.in_ok-push_outside.ensures ask) (c.loop-region.invariant ask)

pub returns : goal.returns
returns c = λ ask.
    let none : c.loop-region.rest.items ≡ [] = nil_from_length c.loop-region.rest.items (sym c.loop-region.rest.ok.0 ∙ c.in_default.ensures.cases.0) in
    sym (or_none (lies_in_one c.loop-region.out.items ask))
    ∙ ap (λ (rs : List Region). lies_in_one c.loop-region.out.items ask || (lies_in_one rs ask && not (matches c.args.rule.now ask))) (sym none)
    ∙ c.loop-region.invariant ask
