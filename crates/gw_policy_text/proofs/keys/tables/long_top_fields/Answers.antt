use Rattle.std.proofs.Common.{refl}
use Rattle.gw_policy_text.proofs.keys.tables.long_top_fields.Goals as goal

pub returns : goal.returns
returns c = rw (c.needs.ensures, c.needs-2.ensures, c.needs-3.ensures, c.tables.ensures, c.may.ensures, c.tables-2.ensures, c.may-2.ensures, c.tables-3.ensures, c.may-3.ensures, c.tables-4.ensures, c.may-4.ensures, c.tables-5.ensures, c.may-5.ensures, c.may-6.ensures, c.tables-6.ensures) refl
