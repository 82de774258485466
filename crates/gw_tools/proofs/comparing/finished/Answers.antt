use Rattle.std.proofs.Common.{◌∙◌, [], refl, subst}
use Rattle.gw_configuration.specs.Configuration.{Configuration}
use Rattle.gw_notices.proofs.AppendLemmas.{appends_nothing}
use Rattle.gw_tools.specs.Comparing.{AreProgress}
use Rattle.gw_tools.proofs.comparing.finished.Goals as goal

pub returns-in_err-comparing-clause-said : goal.returns-in_err-comparing-clause-said
returns-in_err-comparing-clause-said g c =
    ([], ([], tt, refl), λ never. appends_nothing (g.E.OctetSink.held c.args.errors.now))

pub returns-in_err-finish-clause-said : goal.returns-in_err-finish-clause-said
returns-in_err-finish-clause-said g c =
    let begun = c.in_ok-comparing.ensures in
    let at = c.in_ok-comparing.comparing in
    let said = c.finish.ensures.said begun.is_right in (
      said.0,
      subst (λ (one : Configuration). AreProgress one c.args.new.now said.0) begun.old
          (subst (λ (other : Configuration). AreProgress at.old_one other said.0) begun.new said.1),
      said.2,
    )

pub returns-clause-said : goal.returns-clause-said
returns-clause-said g c =
    let begun = c.in_ok-comparing.ensures in
    let at = c.in_ok-comparing.comparing in
    let said = c.finish.ensures.said begun.is_right in (
      said.0,
      subst (λ (one : Configuration). AreProgress one c.args.new.now said.0) begun.old
          (subst (λ (other : Configuration). AreProgress at.old_one other said.0) begun.new said.1),
      said.2,
    )
