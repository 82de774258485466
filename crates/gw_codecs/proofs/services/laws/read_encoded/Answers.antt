use Rattle.gw_codecs.specs.services.Read.{read_view}
use Rattle.gw_codecs.proofs.services_lemmas.EncodedBodies.{read_is}
use Rattle.gw_codecs.proofs.services_lemmas.Values.{is_object}
use Rattle.gw_codecs.proofs.services.laws.read_encoded.Goals as goal

pub returns : goal.returns
returns c =
    let r = c.args.request.now in
    read_is (read_view r) (is_object r.object) r.numbered c.index_fits.ensures
