use Rattle.gw_codecs.specs.services.IAm.{i_am_view}
use Rattle.gw_codecs.proofs.services_lemmas.EncodedBodies.{i_am_is}
use Rattle.gw_codecs.proofs.services_lemmas.Values.{is_object, segmentation_fits}
use Rattle.gw_codecs.proofs.services.laws.i_am_encoded.Goals as goal

pub returns : goal.returns
returns c =
    let i = c.args.announced.now in
    i_am_is (i_am_view i) (is_object i.device) c.short_fits.ensures (segmentation_fits i.segmentation) c.short_fits-2.ensures
