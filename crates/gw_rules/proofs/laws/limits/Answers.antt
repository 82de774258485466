use Rattle.std.proofs.Common.{refl}
use Rattle.gw_rules.proofs.Limits.{counts_iff, long_counts_iff, order_iff, short_is_long}
use Rattle.gw_rules.proofs.laws.limits.Goals as goal

pub returns : goal.returns
returns c = record { rules = refl; ranges = refl; long_ranges = refl; in_all = refl; name = refl; counts = counts_iff; long_counts = long_counts_iff; short = short_is_long; order = order_iff }
