use Rattle.std.proofs.Common.{◌≡◌, ℕ, true, List, subst}
use Rattle.std.specs.Str.{is_utf8}
use Rattle.std.proofs.lemmas.Str.{is_utf8-from_IsUtf8}
use Rattle.gw_state_laws.proofs.restoring.typed.text_is.Goals as goal

pub returns : goal.returns
returns c = (
  c.as_str-text.ensures.short,
  subst (λ (octets : List ℕ). is_utf8 octets ≡ true) c.as_str-text.ensures.text (is_utf8-from_IsUtf8 _ c.as_str-text.utf8),
)
