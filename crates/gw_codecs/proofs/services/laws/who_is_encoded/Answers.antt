use Rattle.gw_codecs.specs.services.WhoIs.{who_is_view}
use Rattle.gw_codecs.proofs.services_lemmas.EncodedBodies.{who_is_is}
use Rattle.gw_codecs.proofs.services_lemmas.Values.{limits_fit}
use Rattle.gw_codecs.proofs.services.laws.who_is_encoded.Goals as goal

pub returns : goal.returns
returns c = who_is_is (who_is_view c.args.request.now) (limits_fit c.args.request.now.limits)
