use Rattle.std.proofs.Common.{refl}
use Rattle.gw_policy_text.proofs.keys.tables.binary_fields.Goals as goal

pub returns : goal.returns
returns c = rw (c.needs.ensures, c.needs-2.ensures, c.needs-3.ensures, c.needs-4.ensures, c.may.ensures, c.may-2.ensures, c.may-3.ensures) refl
