use Rattle.std.proofs.Common.{Err, subst, sym}
use Rattle.gw_tools.specs.Asking.{Counts}
use Rattle.gw_ending.specs.declared.fault.Fault.{Fault}
use Rattle.gw_tools.proofs.CountLemmas.{uncounted}
use Rattle.gw_tools.proofs.asking.count.Goals as goal

pub returns-in-Err : goal.returns-in-Err
returns-in-Err g c = λ text known.
    subst (λ (f : Fault). Counts c.args.rules.now text (Err f)) (sym c.from.ensures)
    (uncounted c.args.rules.now text c.in-Err.fault (c.in-Err.ensures.counted text known))
