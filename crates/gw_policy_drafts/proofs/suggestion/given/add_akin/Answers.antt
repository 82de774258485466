use Rattle.std.proofs.Common.{List, [], ◌∷◌, arith, subst}
use Rattle.std.specs.Prelude.{if◌then◌else◌}
use Rattle.std.proofs.lemmas.List.{take_all}
use Rattle.gw_rules.specs.Ask.{Ask}
use Rattle.gw_policy_drafts.specs.suggestion.Given.{AddsAll, akin, filled_from, of_both}
use Rattle.gw_policy_drafts.proofs.suggestion_lemmas.GivenLaw.{adds_step}
use Rattle.gw_policy_drafts.proofs.suggestion.given.add_akin.Goals as goal

pub loop-b-preserved : goal.loop-b-preserved
loop-b-preserved c =
    adds_step (λ b. if akin c.args.a.now b then of_both c.args.a.now b ∷ [] else []) c.args.given.now c.loop-b.b-index _ c.args.all.now
    c.loop-b.all c.add_both.new.all c.loop-b-test.true c.loop-b.invariant c.in_ok-add_both.ensures

pub returns : goal.returns
returns c =
    subst (λ (xs : List Ask). AddsAll c.args.all.now c.loop-b.all (filled_from xs c.args.a.now))
    (take_all c.loop-b.b-index c.args.given.now (omega (arith, c.loop-b-test.false))) c.loop-b.invariant
