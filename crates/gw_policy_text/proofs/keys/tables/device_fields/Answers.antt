use Rattle.std.proofs.Common.{refl}
use Rattle.gw_policy_text.proofs.keys.tables.device_fields.Goals as goal

pub returns : goal.returns
returns c = rw (c.needs.ensures, c.needs-2.ensures, c.needs-3.ensures, c.needs-4.ensures, c.needs-5.ensures, c.needs-6.ensures, c.needs-7.ensures, c.needs-8.ensures, c.needs-9.ensures, c.needs-10.ensures, c.may.ensures) refl
