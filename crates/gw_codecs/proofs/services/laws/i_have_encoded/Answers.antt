use Rattle.gw_codecs.specs.services.IHave.{i_have_view}
use Rattle.gw_codecs.proofs.services_lemmas.EncodedBodies.{i_have_is}
use Rattle.gw_codecs.proofs.services_lemmas.Values.{is_object}
use Rattle.gw_codecs.proofs.services.laws.i_have_encoded.Goals as goal

pub returns : goal.returns
returns c = λ fits.
    let i = c.args.announced.now in
    i_have_is (i_have_view i) (is_object i.device) (is_object i.object) fits i.name.text
