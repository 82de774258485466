use Rattle.std.proofs.Common.{sym, true≢false}
use Rattle.gw_watchers.proofs.laws.nothing_withheld.Goals as goal

pub returns : goal.returns
returns g c guard then w event p = true≢false (sym p.0)
