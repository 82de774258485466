use Rattle.std.proofs.Common.{refl}
use Rattle.gw_policy_text.proofs.keys.tables.assertion_fields.Goals as goal

pub returns : goal.returns
returns c = rw (c.needs.ensures, c.needs-2.ensures, c.ranges-2.ensures, c.ranges-3.ensures, c.ranges-4.ensures, c.ranges-5.ensures, c.ranges-6.ensures, c.ranges-7.ensures, c.ranges-8.ensures, c.ranges-9.ensures, c.ranges-10.ensures, c.ranges-11.ensures, c.ranges-12.ensures, c.ranges-13.ensures, c.may.ensures, c.may-2.ensures) refl
