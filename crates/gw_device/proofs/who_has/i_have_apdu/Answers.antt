use Rattle.std.proofs.lemmas.Str.{is_utf8-from_IsUtf8}
use Rattle.gw_device.proofs.who_has.i_have_apdu.Goals as goal

pub invariant_of-announced : goal.invariant_of-announced
invariant_of-announced c = record { text = λ set. is_utf8-from_IsUtf8 _ c.as_bytes.ensures.utf8 }
