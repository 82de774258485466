use Rattle.gw_codecs.proofs.services_lemmas.Wholes.{of_whole, whole_then}
use Rattle.gw_codecs.proofs.services.i_have.put.Goals as goal

pub returns : goal.returns
returns c =
    whole_then c.in_ok-write_value.ensures (whole_then c.in_ok-write_value-2.ensures (of_whole c.write_value-3.ensures))
