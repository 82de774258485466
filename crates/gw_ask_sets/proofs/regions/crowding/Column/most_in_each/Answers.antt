use Rattle.std.proofs.Common.{◌≡◌, ◌≤◌, ℕ, Some, arith, refl}
use Rattle.gw_rules.specs.Range.{holds}
use Rattle.gw_ask_sets.specs.regions.internal.Crowding.{miss_count}
use Rattle.gw_ask_sets.proofs.regions_lemmas.CrowdingLaw.{bound_end, bound_step}
use Rattle.gw_ask_sets.proofs.regions.crowding.Column.most_in_each.Goals as goal

pub loop-range-preserved : goal.loop-range-preserved
loop-range-preserved c =
    let self = c.args.self.now in
    let before : c.args.given ≤ c.loop-range.most = c.loop-range.invariant.least in
    let first : c.loop-range.most ≤ c.greater-most.result = c.greater-most.ensures.first in
    let second : c.most_in.result ≤ c.greater-most.result = c.greater-most.ensures.second in
    record {
      least = omega (arith, before, first);
      numbers = λ n t.
          bound_step holds (λ k. k ≡ k) (λ k. miss_count self.rules.now self.places.now self.field (Some k)) c.args.ranges.now
          c.loop-range.range-index _ c.loop-range.most c.greater-most.result c.loop-range-test.true first
          (λ k here same. let counted = c.most_in.ensures k here in omega (arith, counted, second))
          (λ k here same. c.loop-range.invariant.numbers k here) n t refl;
    }

pub returns-clause-numbers : goal.returns-clause-numbers
returns-clause-numbers c = λ n t.
    let self = c.args.self.now in
    bound_end holds (λ k. k ≡ k) (λ k. miss_count self.rules.now self.places.now self.field (Some k)) c.args.ranges.now
    c.loop-range.range-index c.loop-range.most c.loop-range-test.false (λ k here same. c.loop-range.invariant.numbers k here) n t refl
