use Rattle.std.proofs.Common.{◌≡◌, ◌∙◌, ◌++◌, ◌∷◌, [], ap, sym, ℕ, ◌+◌, ◌-◌, List, subst, length, arith}
use Rattle.gw_ask_sets.specs.regions.Comparing.{DecideFrom}
use Rattle.gw_ask_sets.proofs.regions_lemmas.DecidersLaw.{deciders_taken, default_alone}
use Rattle.gw_ask_sets.proofs.regions.deciders.deciders_of.Goals as goal

pub loop-count-init : goal.loop-count-init
loop-count-init c =
    let rules = c.args.rules.now in
    let grown : c.push.new.self.items ≡ 0 ∷ [] = c.in_ok-push.ensures.items ∙ ap (λ (ns : List ℕ). ns ++ 0 ∷ []) c.new-numbers.ensures.items in
    let all : length rules ≡ length rules - 0 = omega arith in
    subst (λ (n : ℕ). DecideFrom rules c.args.region.now n c.push.new.self.items) all
    (subst (λ (ns : List ℕ). DecideFrom rules c.args.region.now (length rules) ns) (sym grown) (default_alone rules c.args.region.now))

pub loop-count-preserved : goal.loop-count-preserved
loop-count-preserved c =
    let rules = c.args.rules.now in
    let region = c.args.region.now in
    let within = c.loop-count-test.true in
    let one : length rules - c.loop-count.count ≡ length rules - 1 - c.loop-count.count + 1 = omega arith in
    let two : length rules - 1 - c.loop-count.count ≡ length rules - (c.loop-count.count + 1) = omega arith in
    let before = subst (λ (n : ℕ). DecideFrom rules region n c.loop-count.numbers.items) one c.loop-count.invariant in
    subst (λ (n : ℕ). DecideFrom rules region n c.take_decider.new.numbers.items) two (c.in_ok-take_decider.ensures before)

pub returns : goal.returns
returns c =
    let all : length c.args.rules.now - c.loop-count.count ≡ 0 = omega (arith, c.loop-count-test.false) in
    deciders_taken c.args.rules.now c.args.region.now (length c.args.rules.now - c.loop-count.count) c.loop-count.numbers.items
    c.reverse.new.self.items all c.reverse.ensures.permutation c.loop-count.invariant
