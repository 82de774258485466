use Rattle.std.proofs.Common.{◌≡◌, ℕ, ◌+◌, ◌-◌, subst, length, arith}
use Rattle.gw_ask_sets.specs.regions.Deciding.{DecidesIn}
use Rattle.gw_ask_sets.proofs.regions_lemmas.DecidingLaw.{all_taken}
use Rattle.gw_ask_sets.proofs.regions.deciding.deciding_of.Goals as goal

pub loop-count-preserved : goal.loop-count-preserved
loop-count-preserved c =
    let rules = c.args.rules.now in
    let region = c.args.region.now in
    let within = c.loop-count-test.true in
    let made = c.loop-count.made in
    let next = c.take_rule.new.deciding in
    let one : length rules - c.loop-count.count ≡ length rules - 1 - c.loop-count.count + 1 = omega arith in
    let two : length rules - 1 - c.loop-count.count ≡ length rules - (c.loop-count.count + 1) = omega arith in
    let before = subst (λ (n : ℕ). DecidesIn rules region n made.places.items made.otherwise) one c.loop-count.invariant.decides in
    record {
      decides = subst (λ (n : ℕ). DecidesIn rules region n next.places.items next.otherwise) two (c.in_ok-take_rule.ensures.decides before);
      divide = c.in_ok-take_rule.ensures.divide c.loop-count.invariant.divide;
    }

pub returns : goal.returns
returns c =
    let all : length c.args.rules.now - c.loop-count.count ≡ 0 = omega (arith, c.loop-count-test.false) in
    record {
      allows = all_taken c.args.rules.now c.args.region.now (length c.args.rules.now - c.loop-count.count) c.loop-count.made.places.items
          c.loop-count.made.otherwise all c.loop-count.invariant.decides;
      divide = c.loop-count.invariant.divide;
    }
