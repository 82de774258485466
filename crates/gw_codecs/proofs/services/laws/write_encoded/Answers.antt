use Rattle.gw_codecs.specs.services.Write.{write_view}
use Rattle.gw_codecs.proofs.services_lemmas.EncodedBodies.{write_is}
use Rattle.gw_codecs.proofs.services_lemmas.Values.{is_object}
use Rattle.gw_codecs.proofs.services.laws.write_encoded.Goals as goal

pub returns : goal.returns
returns c = λ balanced.
    let w = c.args.request.now in
    write_is (write_view w) (is_object w.object) w.numbered c.index_fits.ensures balanced w.ranked
