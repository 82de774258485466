use Rattle.std.proofs.Common.{◌≡◌, ◌∙◌, ◌+◌, ◌++◌, ◌∷◌, [], ap, sym, subst, ℕ, List}
use Rattle.gw_ask_sets.specs.regions.Comparing.{DecideFrom}
use Rattle.gw_ask_sets.proofs.regions_lemmas.DecidersLaw.{decider_apart, decider_more, decider_whole}
use Rattle.gw_ask_sets.proofs.regions.deciders.take_decider.Goals as goal

pub returns-in-Nothing : goal.returns-in-Nothing
returns-in-Nothing c =
    decider_apart c.args.rules.now c.args.region.now c.args.place c.index-rules-place.result c.args.numbers.now.items c.requires
    c.index-rules-place.is (c.coverage_of.ensures.apart c.in-Nothing.is)

pub returns-in_ok-push-in-All : goal.returns-in_ok-push-in-All
returns-in_ok-push-in-All c = λ later.
    let rules = c.args.rules.now in
    let region = c.args.region.now in
    let place = c.args.place in
    let grown : c.push.new.self.items ≡ (place + 1) ∷ [] =
    c.in_ok-push-in-All.ensures.items ∙ ap (λ (ns : List ℕ). ns ++ (place + 1) ∷ []) c.clear.ensures.items in
    subst (λ (ns : List ℕ). DecideFrom rules region place ns) (sym grown)
    (decider_whole rules region place c.index-rules-place.result c.requires c.index-rules-place.is (c.coverage_of.ensures.whole c.in-All.is))

pub returns-in_ok-push-in-Perhaps : goal.returns-in_ok-push-in-Perhaps
returns-in_ok-push-in-Perhaps c = λ later.
    let rules = c.args.rules.now in
    let region = c.args.region.now in
    subst (λ (ns : List ℕ). DecideFrom rules region c.args.place ns) (sym c.in_ok-push-in-Perhaps.ensures.items)
    (decider_more rules region c.args.place c.index-rules-place.result c.args.numbers.now.items c.requires c.index-rules-place.is later)
