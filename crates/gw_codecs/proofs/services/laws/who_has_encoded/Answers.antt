use Rattle.gw_codecs.specs.services.WhoHas.{who_has_view}
use Rattle.gw_codecs.proofs.services_lemmas.EncodedBodies.{who_has_is}
use Rattle.gw_codecs.proofs.services_lemmas.Values.{limits_fit, sought_fits}
use Rattle.gw_codecs.proofs.services.laws.who_has_encoded.Goals as goal

pub returns : goal.returns
returns c = λ fits.
    let w = c.args.request.now in
    who_has_is (who_has_view w) (limits_fit w.limits) (sought_fits w.sought fits)
