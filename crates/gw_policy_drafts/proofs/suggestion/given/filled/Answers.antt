use Rattle.std.proofs.Common.{List, [], arith, subst}
use Rattle.std.specs.List.{flat_map}
use Rattle.std.proofs.lemmas.List.{take_all}
use Rattle.gw_rules.specs.Ask.{Ask}
use Rattle.gw_policy_drafts.specs.suggestion.Given.{AddsAll, filled_from}
use Rattle.gw_policy_drafts.proofs.suggestion_lemmas.GivenLaw.{adds_step}
use Rattle.gw_policy_drafts.proofs.suggestion.given.filled.Goals as goal

pub loop-a-preserved : goal.loop-a-preserved
loop-a-preserved c =
    adds_step (filled_from c.args.given.now) c.args.given.now c.loop-a.a-index _ [] c.loop-a.all c.add_akin.new.all c.loop-a-test.true
    c.loop-a.invariant c.in_ok-add_akin.ensures

pub returns : goal.returns
returns c =
    subst (λ (xs : List Ask). AddsAll [] c.loop-a.all (flat_map (filled_from c.args.given.now) xs))
    (take_all c.loop-a.a-index c.args.given.now (omega (arith, c.loop-a-test.false))) c.loop-a.invariant
