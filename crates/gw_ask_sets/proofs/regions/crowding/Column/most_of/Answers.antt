use Rattle.std.proofs.Common.{◌≡◌, ◌≤◌, ℕ, List, None, Some, arith, subst, true}
use Rattle.std.specs.List.{list_any}
use Rattle.gw_rules.specs.Range.{holds}
use Rattle.gw_rules.specs.declared.range.Range.{Range}
use Rattle.gw_ask_sets.specs.regions.internal.Crowding.{miss_count}
use Rattle.gw_ask_sets.proofs.regions_lemmas.CrowdingLaw.{few_of}
use Rattle.gw_ask_sets.proofs.regions.crowding.Column.most_of.Goals as goal

pub returns : goal.returns
returns c =
    let self = c.args.self.now in
    let values = c.args.values.now in
    let most = c.most_in_each.result in
    let more : c.count_absent.result ≤ most = c.most_in_each.ensures.least in
    few_of self.rules.now self.places.now self.field values most
    (λ absent. let counted = c.count_absent.ensures absent in omega (arith, counted, more))
    (subst (λ (rs : List Range). (n : ℕ) → list_any (holds n) rs ≡ true → miss_count self.rules.now self.places.now self.field (Some n) ≤ most)
    c.as_slice.ensures c.most_in_each.ensures.numbers)
