use Rattle.std.proofs.Common.{◌≡◌, ◌∙◌, ◌+◌, ◌||◌, ℕ, List, ap, arith, length, subst, sym, take}
use Rattle.std.proofs.lemmas.Result.{on_ok_weaker}
use Rattle.gw_rules.specs.Rule.{matches}
use Rattle.gw_rules.specs.declared.rule.Rule.{Rule}
use Rattle.gw_ask_sets.specs.regions.Pairs.{AreTried, cell, cells, findings}
use Rattle.gw_ask_sets.specs.regions.Regions.{Region, lies_in_one}
use Rattle.gw_ask_sets.specs.regions.Unmatched.{is_matched}
use Rattle.gw_ask_sets.proofs.regions_lemmas.PairLaw.{cells_more, taken}
use Rattle.gw_ask_sets.proofs.regions.pairs.try_row.Goals as goal

pub loop-other-preserved : goal.loop-other-preserved
loop-other-preserved c =
    let policies = c.args.policies.now in
    let old = policies.old.now in
    let new = policies.new.now in
    let place = c.args.place in
    let other = c.loop-other.other in
    record {
      tried = cells_more policies.shapes.now old new c.args.says place other _ _ _ c.loop-other.invariant.tried
          (c.in_ok-try_pair.ensures (λ ask. ap (λ (rs : List Region). lies_in_one rs ask) c.deref.ensures.value ∙ c.in_ok-asks.ensures ask)
          (λ ask. ap (λ (rs : List Rule). is_matched rs ask) c.deref-in-loop-other.ensures.value ∙ c.loop-other.invariant.in_front ask));
      in_front = λ ask.
          taken new c.loop-other.front.items c.push_rule.new.front.items other c.index-policies-other.result ask (is_matched (take place old) ask)
          c.loop-other-test.true c.index-policies-other.is (c.loop-other.invariant.in_front ask) (c.in_ok-push_rule.ensures ask
          ∙ ap (λ (r : Rule). is_matched c.loop-other.front.items ask || matches r ask) (sym c.index-policies-other.is));
    }

pub returns : goal.returns
returns c =
    let policies = c.args.policies.now in
    let shapes = policies.shapes.now in
    let old = policies.old.now in
    let new = policies.new.now in
    let place = c.args.place in
    let says = c.args.says in
    let other = c.loop-other.other in
    let at : other ≡ length new = omega (arith, c.loop-other-test.false) in
    let start = findings c.args.pairs.now.found.items c.args.pairs.now.given_up.items c.args.pairs.now.steps in
    let before = findings c.loop-other.pairs.found.items c.loop-other.pairs.given_up.items c.loop-other.pairs.steps in
    let pairs = c.try_pair-2.new.pairs in
    let after = findings pairs.found.items pairs.given_up.items pairs.steps in
    on_ok_weaker c.try_pair-2.result
    (λ so. subst (λ (n : ℕ). AreTried shapes old new (cells new says place (n + 1)) start after) at
    (cells_more shapes old new says place other start before after c.loop-other.invariant.tried
    (subst (λ (n : ℕ). AreTried shapes old new (cell new says place n) before after) (sym at)
    (so (λ ask. ap (λ (rs : List Region). lies_in_one rs ask) c.deref.ensures.value ∙ c.in_ok-asks.ensures ask)
    (λ ask. ap (λ (rs : List Rule). is_matched rs ask) c.deref-2.ensures.value ∙ c.loop-other.invariant.in_front ask
    ∙ ap (λ (n : ℕ). is_matched (take place old) ask || is_matched (take n new) ask) at))))) c.try_pair-2.ensures
