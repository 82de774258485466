use Rattle.std.proofs.Common.{◌∙◌, ap, sym}
use Rattle.gw_addr.proofs.Reading.{ok_is}
use Rattle.gw_state_text.specs.declared.fault.StateFault.{StateFault}
use Rattle.gw_state_text.specs.Reading.{state_of}
use Rattle.gw_state_text.proofs.BackLemmas.{state_again}
use Rattle.gw_state_text.proofs.laws.reading.Goals as goal

pub returns-clause-read : goal.returns-clause-read
returns-clause-read c = state_again

pub returns-clause-apart : goal.returns-clause-apart
returns-clause-apart c = λ a b fit_a fit_b e.
    ok_is {F = StateFault} a b (sym (state_again a fit_a) ∙ ap state_of e ∙ state_again b fit_b)
