use Rattle.std.proofs.Common.{◌≡◌, ◌≤◌, ◌<◌, ◌+◌, ℕ, Some, arith}
use Rattle.gw_ask_sets.specs.regions.internal.Crowding.{ends_at, miss_count}
use Rattle.gw_ask_sets.proofs.regions_lemmas.CrowdingLaw.{bound_end, bound_step, few_in}
use Rattle.gw_ask_sets.proofs.regions_lemmas.RangeLaw.{held}
use Rattle.gw_ask_sets.proofs.regions.crowding.Column.most_in.Goals as goal

pub loop-place-preserved : goal.loop-place-preserved
loop-place-preserved c =
    let self = c.args.self.now in
    let range = c.args.range in
    let before : miss_count self.rules.now self.places.now self.field (Some range.low) ≤ c.loop-place.most = c.loop-place.invariant.first in
    let more : c.loop-place.most ≤ c.most_of_rule-most.result = c.most_of_rule-most.ensures.least in
    record {
      first = omega (arith, before, more);
      ends = bound_step (ends_at self.rules.now self.field) (λ k. (range.low ≤ k) × (k < range.high))
          (λ k. miss_count self.rules.now self.places.now self.field (Some (k + 1))) self.places.now c.loop-place.place-index _ c.loop-place.most
          c.most_of_rule-most.result c.loop-place-test.true more c.most_of_rule-most.ensures.ends c.loop-place.invariant.ends;
    }

pub returns : goal.returns
returns c = λ n t.
    let self = c.args.self.now in
    let range = c.args.range in
    let is = held n range t in
    few_in self.rules.now self.places.now self.field range.low range.high c.loop-place.most c.loop-place.invariant.first
    (bound_end (ends_at self.rules.now self.field) (λ k. (range.low ≤ k) × (k < range.high))
    (λ k. miss_count self.rules.now self.places.now self.field (Some (k + 1))) self.places.now c.loop-place.place-index c.loop-place.most
    c.loop-place-test.false c.loop-place.invariant.ends)
    n is.0 is.1
