use Rattle.std.proofs.Common.{◌≡◌, ◌≤◌, ◌<◌, ◌+◌, ◌==◌, ℕ, Some, arith, subst}
use Rattle.std.proofs.lemmas.Bool.{eqb-true}
use Rattle.gw_rules.specs.declared.range.Range.{Range}
use Rattle.gw_ask_sets.specs.regions.internal.Crowding.{miss_count}
use Rattle.gw_ask_sets.proofs.regions_lemmas.CrowdingLaw.{bound_end, bound_step}
use Rattle.gw_ask_sets.proofs.regions.crowding.Column.most_behind.Goals as goal

pub loop-one-preserved : goal.loop-one-preserved
loop-one-preserved c =
    let self = c.args.self.now in
    let range = c.args.range in
    let before : c.args.given ≤ c.loop-one.most = c.loop-one.invariant.least in
    let first : c.loop-one.most ≤ c.greater-most.result = c.greater-most.ensures.first in
    let second : c.count_behind.result ≤ c.greater-most.result = c.greater-most.ensures.second in
    record {
      least = omega (arith, before, first);
      ends = bound_step (λ k (r : Range). r.high == k) (λ k. (range.low ≤ k) × (k < range.high))
          (λ k. miss_count self.rules.now self.places.now self.field (Some (k + 1))) c.args.ends.now c.loop-one.one-index _ c.loop-one.most
          c.greater-most.result c.loop-one-test.true first
          (λ k t within.
          let counted = subst
          (λ (n : ℕ). range.low ≤ n → n < range.high → miss_count self.rules.now self.places.now self.field (Some (n + 1)) ≤ c.count_behind.result)
          (eqb-true _ k t) c.count_behind.ensures within.0 within.1 in
          omega (arith, counted, second))
          c.loop-one.invariant.ends;
    }

pub returns-clause-ends : goal.returns-clause-ends
returns-clause-ends c =
    let self = c.args.self.now in
    let range = c.args.range in
    bound_end (λ k (r : Range). r.high == k) (λ k. (range.low ≤ k) × (k < range.high))
    (λ k. miss_count self.rules.now self.places.now self.field (Some (k + 1))) c.args.ends.now c.loop-one.one-index c.loop-one.most
    c.loop-one-test.false c.loop-one.invariant.ends
