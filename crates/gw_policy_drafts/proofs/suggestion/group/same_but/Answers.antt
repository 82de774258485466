use Rattle.std.proofs.Common.{◌≡◌, arith, refl, subst}
use Rattle.std.proofs.lemmas.List.{get_or_default}
use Rattle.gw_rules.specs.Ask.{Ask}
use Rattle.gw_rules.specs.declared.field.FieldName.{FieldName}
use Rattle.gw_rules.specs.declared.field.TheConstants.FieldName.{ALL}
use Rattle.gw_ask_sets.proofs.regions_lemmas.WideningLaw.{so_far}
use Rattle.gw_policy_drafts.specs.suggestion.Own.{admits_but}
use Rattle.gw_policy_drafts.proofs.suggestion_lemmas.GroupLaw.{same_but_law}
use Rattle.gw_policy_drafts.proofs.suggestion.group.same_but.Goals as goal

pub loop-other-preserved : goal.loop-other-preserved
loop-other-preserved c =
    so_far (λ (other : FieldName). (ask : Ask) → admits_but c.args.field other c.args.a.now ask ≡ admits_but c.args.field other c.args.b.now ask)
    c.loop-other.other-index c.loop-other.invariant
    (λ d. subst (λ (other : FieldName). (ask : Ask) → admits_but c.args.field other c.args.a.now ask ≡ admits_but c.args.field other c.args.b.now ask)
    (get_or_default ALL c.loop-other.other-index _ d c.loop-other-test.true) (c.if-not-same_at.ensures refl))

pub returns : goal.returns
returns c = λ e. same_but_law c.args.field c.args.a.now c.args.b.now (λ k d within. c.loop-other.invariant k d (omega (arith, within, c.loop-other-test.false)))
