use Rattle.std.proofs.Common.{◌≢◌, ◌∙◌, ap, rules}
use Rattle.gw_state_text.specs.declared.fault.FaultKind.TheVariants.{Memory}
use Rattle.gw_state_text.specs.Reading.{stop_at}
use Rattle.gw_state_text.proofs.BlockLemmas.{stop_is}
use Rattle.gw_state_text.proofs.SlotLemmas.{slots_next, slots_start}
use Rattle.gw_state_text.proofs.StepLemmas.{next_slot, no_slots, slot_fails, slots_end, slots_over}
use Rattle.gw_state_text.proofs.object.slots_at.Goals as goal

pub loop-place-init : goal.loop-place-init
loop-place-init c = (slots_start c.args.kind c.args.text.now c.from_fn-slots.result (search rules), no_slots c.args.kind c.args.text.now c.from_fn-slots.result)

pub loop-place-preserved : goal.loop-place-preserved
loop-place-preserved c = (
  slots_next c.args.kind c.args.text.now c.loop-place.rest.now c.in-Ok.read.1.now c.loop-place.place c.loop-place.slots c.in-Ok.read.0
      c.loop-place-test.true c.loop-place.invariant.0 c.in-Ok.ensures.found c.in-Ok.ensures.is c.in-Ok.ensures.sixth,
  next_slot c.args.kind c.args.text.now c.loop-place.rest.now c.in-Ok.read.1.now c.loop-place.place c.loop-place.slots c.in-Ok.read.0
      c.loop-place-test.true c.loop-place.invariant.0.sixteen c.loop-place.invariant.1 c.in-Ok.ensures.exact,
)

pub returns-in-Err-clause-exact : goal.returns-in-Err-clause-exact
returns-in-Err-clause-exact c = λ other.
    let fault : c.in-Err.fault ≢ Memory = λ e. other (c.at.ensures.kind ∙ e) in
    stop_is _ _ _ (slot_fails c.args.kind c.args.text.now c.loop-place.rest.now c.loop-place.place c.loop-place.slots c.in-Err.fault
    c.loop-place-test.true c.loop-place.invariant.0.sixteen c.loop-place.invariant.1 (c.in-Err.ensures.exact fault)) c.at.ensures.is

pub returns-in-None-clause-exact : goal.returns-in-None-clause-exact
returns-in-None-clause-exact c =
    slots_end c.args.kind c.args.text.now c.loop-place.rest.now c.loop-place.place c.loop-place.slots c.loop-place-test.false
    c.loop-place.invariant.0.sixteen c.loop-place.invariant.1 c.in-None.ensures.exact

pub returns-clause-exact : goal.returns-clause-exact
returns-clause-exact c = λ other.
    stop_is _ _ _ (slots_over c.args.kind c.args.text.now c.loop-place.rest.now c.loop-place.place c.loop-place.slots c.in-Some.priority
    c.in-Some.field-0-1.now c.loop-place-test.false c.loop-place.invariant.0.sixteen c.loop-place.invariant.1 c.in-Some.ensures.exact)
    (c.at-in-Some.ensures.is ∙ ap (stop_at c.loop-place.rest.now) c.slot_fault.ensures)
