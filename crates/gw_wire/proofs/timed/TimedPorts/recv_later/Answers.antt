use Rattle.std.proofs.Common.{inr, arith, ap, ◌∙◌}
use Rattle.gw_wire.specs.declared.timed.TimedPorts.{TimedPorts}
use Rattle.std.specs.Duration.{as_nanos}
use Rattle.gw_wire.proofs.TimedLemmas.{begun}
use Rattle.std.proofs.lemmas.Grind.{common_steps}
use Rattle.gw_wire.proofs.timed.TimedPorts.recv_later.Goals as goal

pub returns-in_default-count_seconds-clause-unlooked : goal.returns-in_default-count_seconds-clause-unlooked
returns-in_default-count_seconds-clause-unlooked g c =
    inr (begun g.P.Waiter.Waited g.P.Waiter.Quiet c.args.self.now c.wait.new.self _ (as_nanos c.args.most) c.in-Ok.ensures.waits c.count_seconds.ensures.unlooked)

pub returns-in_err-given-clause-unlooked : goal.returns-in_err-given-clause-unlooked
returns-in_err-given-clause-unlooked g c =
    inr (begun g.P.Waiter.Waited g.P.Waiter.Quiet c.args.self.now c.wait.new.self _ (as_nanos c.args.most) c.in-Ok.ensures.waits
    (ap (λ (t : TimedPorts _ _ _). t.unlooked) c.in_err-given.ensures.stays ∙ c.count_seconds.ensures.unlooked))

pub returns-clause-unlooked : goal.returns-clause-unlooked
returns-clause-unlooked g c =
    inr (begun g.P.Waiter.Waited g.P.Waiter.Quiet c.args.self.now c.wait.new.self _ (as_nanos c.args.most) c.in-Ok.ensures.waits
    (ap (λ (t : TimedPorts _ _ _). t.unlooked) c.in_ok-given.ensures.stays ∙ c.count_seconds.ensures.unlooked))

pub returns-clause-later : goal.returns-clause-later
returns-clause-later g c = record {
  woken = c.wait.new.self;
  counted = c.count_seconds.new.self;
  left = as_nanos c.in-Ok-count_seconds._left;
  waits = c.in-Ok.ensures.waits;
  counts = c.in-Ok-count_seconds.ensures.counts;
  follows = c.in_ok-given.ensures.next;
  stays = c.in_ok-given.ensures.stays;
}

pub returns-clause-failures : goal.returns-clause-failures
returns-clause-failures g c =
    omega (arith, c.in_ok-given.ensures.failures, c.count_seconds.ensures.failures, c.wait.ensures.failures)

pub returns-in_err-given-clause-failures : goal.returns-in_err-given-clause-failures
returns-in_err-given-clause-failures g c = grind (arith, common_steps)
