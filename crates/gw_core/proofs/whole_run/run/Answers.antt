use Rattle.std.proofs.Common.{◌++◌, [], ◌∷◌, List, length, map, sym, ap, ◌∙◌, refl, arith}
use Rattle.std.proofs.lemmas.List.{append-nil}
use Rattle.gw_script.specs.Event.{Event, event_view}
use Rattle.gw_core.specs.History.{run_from, state_from}
use Rattle.gw_core.specs.declared.fault.StepFault.TheVariants.{CountEnd}
use Rattle.gw_core.proofs.HistoryLemmas.{run_begins, run_goes_on, run_stops, first_events, first_split, none_left}
use Rattle.gw_script.proofs.Passing.{on_err, passed_as}
use Rattle.gw_core.proofs.whole_run.run.Goals as goal

pub loop-rest-init : goal.loop-rest-init
loop-rest-init c = run_begins c.args.gateway.now (map event_view c.args.events.now) _ c.new-given.ensures.items

pub returns-in_err-reported-clause-count_end : goal.returns-in_err-reported-clause-count_end
returns-in_err-reported-clause-count_end c = λ ended.
    let split = first_split c.loop-rest.rest.now _ c.in-len1-up.len_at_least in
    run_stops c.args.gateway.now c.loop-rest.gateway c.take_event.new.gateway (map event_view c.args.events.now)
    (map event_view c.loop-rest.rest.now) _ c.loop-rest.given.items _ c.loop-rest.invariant split c.in_err-reported.ensures.err
    (c.in_err-reported.ensures.count_end
    (passed_as c.in_err-reported.field-0.0 CountEnd c.from_residual.result c.from_residual.ensures ended))

pub returns-in_err-reported-clause-err : goal.returns-in_err-reported-clause-err
returns-in_err-reported-clause-err c =
    let p = c.loop-rest.invariant in
    on_err c.from_residual.result (
      length p.done,
      c.in_err-reported.ensures.err ∙ p.state ∙ ap (state_from c.args.gateway.now)
          (sym (first_events (map event_view c.args.events.now) p.done (map event_view c.loop-rest.rest.now) p.parts)),
    )

pub returns-then-is_err-clause-err : goal.returns-then-is_err-clause-err
returns-then-is_err-clause-err c =
    let split = first_split c.loop-rest.rest.now _ c.in-len1-up.len_at_least in
    let p = run_goes_on c.args.gateway.now c.loop-rest.gateway c.take_event.new.gateway (map event_view c.args.events.now)
    (map event_view c.loop-rest.rest.now) _ c.loop-rest.given.items
    (c.loop-rest.given.items ++ c.in_ok-reported.reported.taken.effects ∷ []) _ c.in_ok-reported.reported.taken.effects c.loop-rest.invariant split c.in_ok-reported.ensures.moved
    c.in_ok-reported.ensures.given refl in (
      length p.done,
      p.state ∙ ap (state_from c.args.gateway.now) (sym (first_events (map event_view c.args.events.now) p.done _ p.parts)),
    )

pub loop-rest-preserved : goal.loop-rest-preserved
loop-rest-preserved c =
    let split = first_split c.loop-rest.rest.now _ c.in-len1-up.len_at_least in
    let pushed = rw c.if-is_err.ensures.negation at c.push.ensures.items in
    run_goes_on c.args.gateway.now c.loop-rest.gateway c.take_event.new.gateway (map event_view c.args.events.now)
    (map event_view c.loop-rest.rest.now) _ c.loop-rest.given.items _ _ c.into_effects.result c.loop-rest.invariant split c.in_ok-reported.ensures.moved
    (c.into_effects.ensures ∙ c.in_ok-reported.ensures.given) pushed

pub returns-clause-effects : goal.returns-clause-effects
unfolding run_from
returns-clause-effects c =
    let p = c.loop-rest.invariant in
    let done = none_left c.loop-rest.rest.now (omega (arith, c.in_default.len_below)) in
    sym (append-nil c.loop-rest.given.items) ∙ ap (λ (l : List Event). c.loop-rest.given.items ++ run_from c.loop-rest.gateway l) (sym done)
    ∙ p.wording

pub returns-clause-state : goal.returns-clause-state
returns-clause-state c =
    let p = c.loop-rest.invariant in
    let done = none_left c.loop-rest.rest.now (omega (arith, c.in_default.len_below)) in
    p.state ∙ ap (state_from c.args.gateway.now) (sym (p.parts ∙ ap (λ (l : List Event). p.done ++ l) done ∙ append-nil p.done))
