use Rattle.std.proofs.Common.{Err, subst, sym}
use Rattle.gw_tools.specs.Kept.{IsSaidOf}
use Rattle.gw_ending.specs.declared.fault.Fault.{Fault}
use Rattle.gw_tools.proofs.KeptLemmas.{said_fault}
use Rattle.gw_tools.proofs.kept.words_of_state.Goals as goal

pub returns-in-Err : goal.returns-in-Err
returns-in-Err c =
    subst (λ (f : Fault). IsSaidOf c.args.config.now c.args.text.now (Err f)) (sym c.from.ensures)
    (said_fault c.args.config.now c.args.text.now c.in-Err.fault c.in-Err.fault.kind c.in-Err.ensures.place)
