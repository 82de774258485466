use Rattle.std.proofs.lemmas.Str.{is_utf8-from_IsUtf8}
use Rattle.gw_state_text.proofs.value.put_text.Goals as goal

pub invariant_of-write_value : goal.invariant_of-write_value
invariant_of-write_value c = record { text = λ set. is_utf8-from_IsUtf8 _ c.as_bytes-octets.ensures.utf8 }
