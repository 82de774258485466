use Rattle.std.proofs.Common.{rules, ◌≡◌, ◌∙◌, ◌∷◌, [], List, Ok, Option, ap, refl, subst}
use Rattle.std.specs.Prelude.{IfSome}
use Rattle.gw_ask_sets.specs.regions.Regions.{Region}
use Rattle.gw_ask_sets.specs.regions.Unmatched.{AreNarrowed, IsNarrowed, IsUnmatched}
use Rattle.gw_ask_sets.proofs.regions_lemmas.UnmatchedLaw.{one_narrowed}
use Rattle.gw_ask_sets.proofs.regions.unmatched.search_counted.Goals as goal

pub returns-in_default-clause-ended : goal.returns-in_default-clause-ended
returns-in_default-clause-ended c =
    let none : c.loop-used.left.items ≡ [] = search rules in
    subst (λ (left : List Region). AreNarrowed c.args.rules.now c.loop-used.used c.args.regions.items left) none c.loop-used.invariant

pub returns-in-Some-2-clause-ended : goal.returns-in-Some-2-clause-ended
returns-in-Some-2-clause-ended c =
    let rules = c.args.rules.now in
    record {
      earlier = c.loop-used.used;
      counted = refl;
      rest = c.pop.new.self.items;
      region = c.in-Some.region;
      made = subst (λ (left : List Region). AreNarrowed rules c.loop-used.used c.args.regions.items left) c.in-Some.ensures.items c.loop-used.invariant;
      there = subst (λ (found : Option _). IfSome found (λ a. IsUnmatched (c.in-Some.region ∷ []) rules a)) c.in-Some-2.is c.in_ok-ask.ensures.found;
    }

pub loop-used-preserved : goal.loop-used-preserved
loop-used-preserved c =
    let rules = c.args.rules.now in
    let is = c.narrow.ensures.left (c.in_ok-ask.was ∙ ap Ok c.in_default-2.is) in
    let step : IsNarrowed rules c.loop-used.left.items c.narrow.new.left.items = record {
      rest = c.pop.new.self.items;
      region = c.in-Some.region;
      back = is.0;
      taken = c.in-Some.ensures.items;
      narrowing = is.1;
      left = is.2;
    } in
    one_narrowed rules c.loop-used.used c.args.regions.items c.loop-used.left.items c.narrow.new.left.items c.loop-used.invariant step
