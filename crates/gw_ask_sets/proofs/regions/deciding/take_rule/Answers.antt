use Rattle.std.proofs.Common.{rules, ◌≡◌, length, sym, subst, ℕ, List}
use Rattle.std.specs.List.{AllByRecursion}
use Rattle.gw_ask_sets.specs.regions.Deciding.{DecidesIn}
use Rattle.gw_ask_sets.specs.regions.internal.Looking.{Divides}
use Rattle.gw_ask_sets.proofs.regions_lemmas.ComparingLaw.{all_push}
use Rattle.gw_ask_sets.proofs.regions_lemmas.DecidingLaw.{left_idle, taken}
use Rattle.gw_ask_sets.proofs.regions_lemmas.StepLaw.{divides_there}
use Rattle.gw_ask_sets.proofs.regions.deciding.take_rule.Goals as goal

pub returns-in_ok-push-in-Perhaps-clause-decides : goal.returns-in_ok-push-in-Perhaps-clause-decides
returns-in_ok-push-in-Perhaps-clause-decides c = λ later.
    let rules = c.args.rules.now in
    let region = c.args.region.now in
    subst (λ (places : List ℕ). DecidesIn rules region c.args.place places c.args.deciding.now.otherwise) (sym c.in_ok-push-in-Perhaps.ensures.items)
    (taken rules region c.args.place c.index-rules-place.result c.args.deciding.now.places.items c.args.deciding.now.otherwise c.requires
    c.index-rules-place.is later)

pub returns-in_ok-push-in-Perhaps-clause-divide : goal.returns-in_ok-push-in-Perhaps-clause-divide
returns-in_ok-push-in-Perhaps-clause-divide c = λ all.
    let rules = c.args.rules.now in
    let region = c.args.region.now in
    subst (λ (places : List ℕ). AllByRecursion (λ p. Divides rules region p) places) (sym c.in_ok-push-in-Perhaps.ensures.items)
    (all_push (λ p. Divides rules region p) c.args.deciding.now.places.items c.args.place all
    (divides_there rules region c.args.place c.index-rules-place.result c.requires c.index-rules-place.is (c.coverage_of.ensures.perhaps c.in-Perhaps.is)))

pub returns-else-rule-deciding-clause-decides : goal.returns-else-rule-deciding-clause-decides
returns-else-rule-deciding-clause-decides c = λ later.
    let none : length c.args.deciding.now.places.items ≡ 0 = search rules in
    let same : c.args.deciding.now.otherwise ≡ c.index-rules-place.result.allow = search rules in
    left_idle c.args.rules.now c.args.region.now c.args.place c.index-rules-place.result c.args.deciding.now.places.items c.args.deciding.now.otherwise
    c.requires c.index-rules-place.is none same later
