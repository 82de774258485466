use Rattle.std.proofs.Common.{◌∙◌, ◌<◌, Some, ap, arith, length, subst, sym}
use Rattle.std.specs.Prelude.{IsTrue}
use Rattle.std.proofs.lemmas.Option.{slice_get-get_or}
use Rattle.gw_policy_review.proofs.comparison_lemmas.PartsLaw.{same_name}
use Rattle.gw_policy_review.proofs.comparison.parts.have_same_names.Goals as goal

pub returns-then-not-have_same_name : goal.returns-then-not-have_same_name
returns-then-not-have_same_name c = (
  λ e. absurd cc,
  λ same.
      let rules = c.args.rules.now in
      let others = c.args.others.now in
      let place = c.loop-place.place in
      let a = c.index-rules-place.result in
      let b = c.index-others-place.result in
      let test = c.loop-place-test.true in
      let lengths = c.loop-place.invariant.lengths in
      let within : place < length others = omega (arith, test, lengths) in
      let here = slice_get-get_or rules place a test ∙ ap Some (sym c.index-rules-place.is) in
      let there = slice_get-get_or others place b within ∙ ap Some (sym c.index-others-place.is) in
      subst IsTrue c.if-not-have_same_name.true (c.have_same_name.ensures.1 (same_name rules others place a b same here there)),
)
