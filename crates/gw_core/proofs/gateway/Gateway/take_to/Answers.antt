use Rattle.std.proofs.Common.{◌+◌, ◌^◌, ◌≤◌, Err, refl, ap, ◌∙◌, arith}
use Rattle.std.specs.Option.{option_map}
use Rattle.gw_relay.specs.State.{Commit}
use Rattle.gw_core.specs.declared.fault.StepFault.TheVariants.{CountEnd}
use Rattle.gw_script.specs.Event.{Datagram}
use Rattle.gw_core.proofs.EffectLemmas.{passes_end-within}
use Rattle.gw_core.proofs.HistoryLemmas.{fault_of_call, moves_on}
use Rattle.gw_core.proofs.gateway.Gateway.take_to.Goals as goal

pub returns-in_err-asked-clause-count_end : goal.returns-in_err-asked-clause-count_end
returns-in_err-asked-clause-count_end g c = λ h.
    let same = fault_of_call c.from_residual.result c.in_err-asked.field-0.0 CountEnd c.from_residual.ensures.1 h in
    c.in_err-asked.ensures.count_end (ap Err same)

pub returns-in_err-asked-clause-silent : goal.returns-in_err-asked-clause-silent
returns-in_err-asked-clause-silent g c = λ none. let ok = c.in_err-asked.ensures.silent none in absurd cc

pub returns-clause-step : goal.returns-clause-step
returns-clause-step g c =
    let w = c.args.self.now in
    let a = c.args.arrival.now in
    let event = Datagram a.port a.from a.octets.now in
    let is = c.in_ok-asked.ensures.outcome in
    let ticks : w.ticks + 0 ≤ 2 ^ 63 = omega (arith, is.ticks) in
    record {
      effects = is.effects;
      state = moves_on w _ a.port a.from a.octets.now
          (option_map Commit c.take_out-change.result) c.take_out-write.result c.len.result c.in_ok-move_on.ensures.state
          (ap (option_map Commit) c.take_out-change.ensures.value ∙ is.moves) (c.take_out-write.ensures.value ∙ is.write) (c.len.ensures ∙ is.denied);
      counts = passes_end-within w event _ refl ticks is.room;
    }

pub returns-in_err-move_on-clause-silent : goal.returns-in_err-move_on-clause-silent
returns-in_err-move_on-clause-silent g c = λ none.
    let ok = c.in_err-move_on.ensures.no_growth (c.take_out-change.ensures.value ∙ c.in_ok-asked.ensures.outcome.stays none.0) in
    absurd cc
