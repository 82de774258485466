use Rattle.std.proofs.Common.{arith}
use Rattle.gw_state_text.proofs.BlockLemmas.{items_read, next, no_steps, one_step, start, starts_as, steps_end, steps_fail, steps_over, stop_is, stops_here, stops_later}
use Rattle.gw_state_text.proofs.block.read_all.Goals as goal

pub loop-count-init : goal.loop-count-init
loop-count-init g c = (start _ _ _ _ c.new-items.ensures.items, no_steps _ _ _ _ _ c.new-items.ensures.items)

pub loop-count-preserved : goal.loop-count-preserved
loop-count-preserved g c = (
  next _ _ _ _ _ _ _ _ _ _ c.loop-count.invariant.0 c.in-Ok.ensures.found c.as_slice.ensures.value c.in-Ok.ensures.fits
      c.in-Ok-push.ensures.items,
  one_step _ _ _ _ _ _ _ _ _ _ _ c.loop-count.invariant.1 (omega (arith, c.loop-count-test.true, c.most-count-end.ensures))
      (starts_as _ _ _ _ _ c.starts_with.ensures.value c.word.ensures c.if-not-starts_with.false) c.in-Ok.ensures.exact c.as_slice.ensures.value c.in-Ok-push.ensures.items,
)

pub returns-then-not-starts_with-clause-found : goal.returns-then-not-starts_with-clause-found
returns-then-not-starts_with-clause-found g c = c.loop-count.invariant.0.found

pub returns-then-not-starts_with-clause-fits : goal.returns-then-not-starts_with-clause-fits
returns-then-not-starts_with-clause-fits g c =
    items_read _ _ _ _ _ _ _ c.loop-count.invariant.0 (omega (arith, c.loop-count-test.true, c.most-count-end.ensures))

pub returns-in-Err-clause-stop : goal.returns-in-Err-clause-stop
returns-in-Err-clause-stop g c = stops_later _ _ _ _ _ c.loop-count.invariant.0.found c.in-Err.ensures.stop

pub returns-in_default-clause-stop : goal.returns-in_default-clause-stop
returns-in_default-clause-stop g c = stops_here _ _ _ _ _ c.loop-count.invariant.0.found c.at.ensures.left

pub returns-then-starts_with-clause-stop : goal.returns-then-starts_with-clause-stop
returns-then-starts_with-clause-stop g c = stops_here _ _ _ _ _ c.loop-count.invariant.0.found c.at-then-starts_with.ensures.left

pub returns-clause-found : goal.returns-clause-found
returns-clause-found g c = c.loop-count.invariant.0.found

pub returns-clause-fits : goal.returns-clause-fits
returns-clause-fits g c =
    items_read _ _ _ _ _ _ _ c.loop-count.invariant.0 (omega (arith, c.most-count-end.ensures))

pub returns-then-not-starts_with-clause-exact : goal.returns-then-not-starts_with-clause-exact
returns-then-not-starts_with-clause-exact g c =
    steps_end _ _ _ _ _ _ _ c.loop-count.invariant.1 (starts_as _ _ _ _ _ c.starts_with.ensures.value c.word.ensures c.if-not-starts_with.true)

pub returns-in-Err-clause-exact : goal.returns-in-Err-clause-exact
returns-in-Err-clause-exact g c = λ other.
    steps_fail _ _ _ _ _ _ _ _ _ c.loop-count.invariant.1 (omega (arith, c.loop-count-test.true, c.most-count-end.ensures))
    (starts_as _ _ _ _ _ c.starts_with.ensures.value c.word.ensures c.if-not-starts_with.false) (c.in-Err.ensures.exact other)
    c.as_slice.ensures.value

pub returns-then-starts_with-clause-exact : goal.returns-then-starts_with-clause-exact
returns-then-starts_with-clause-exact g c = λ other.
    stop_is _ _ _ (steps_over _ _ _ _ _ _ _ c.loop-count.invariant.1 (omega (arith, c.loop-count-test.false, c.most-count-end.ensures))
    (starts_as _ _ _ _ _ c.starts_with-2.ensures.value c.word-2.ensures c.if-starts_with.true)) c.at-then-starts_with.ensures.is

pub returns-clause-exact : goal.returns-clause-exact
returns-clause-exact g c =
    steps_end _ _ _ _ _ _ _ c.loop-count.invariant.1 (starts_as _ _ _ _ _ c.starts_with-2.ensures.value c.word-2.ensures c.if-starts_with.false)
