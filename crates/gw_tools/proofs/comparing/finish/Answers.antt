use Rattle.std.proofs.Common.{◌∙◌, length, refl, sym}
use Rattle.gw_tools.proofs.ComparingLemmas.{as_progress, further, passed_at, tells_next, tells_none}
use Rattle.gw_tools.proofs.comparing.finish.Goals as goal

pub loop-portion-init : goal.loop-portion-init
loop-portion-init g c =
    let was = c.args.comparing.now in
    let errors = c.args.errors.now in (
      refl,
      refl,
      λ right. right,
      λ right. tells_none was.old_one was.new_one was.steps (g.E.OctetSink.NeverFails errors) (g.E.OctetSink.held errors),
      λ never. never,
    )

pub loop-portion-preserved : goal.loop-portion-preserved
loop-portion-preserved g c =
    let held = g.E.OctetSink.held in
    let sure = g.E.OctetSink.NeverFails in
    let before = c.loop-portion.invariant in
    let goes = c.in_ok-go_on.ensures in
    let was = c.args.comparing.now in
    let at = c.go_on.new.self in
    let is_old = goes.old ∙ before.0 in
    let is_new = goes.new ∙ before.1 in
    let second = c.report_second.ensures.said in
    let grows = further c.loop-portion.comparing.steps at.steps _ goes.finished (sym c.is_finished.ensures ∙ c.if-is_finished.false) in (
      is_old,
      is_new,
      λ right. goes.is_right (before.2 right),
      λ right. tells_next was.old_one was.new_one c.loop-portion.comparing.steps at.steps (length at.found) (sure c.args.errors.now)
          (sure c.loop-portion.errors) (held c.args.errors.now) (held c.loop-portion.errors) (held c.report_second.new.errors) second.0
          (before.3 right) grows (passed_at at was.old_one was.new_one is_old is_new (goes.is_right (before.2 right))) before.4 second.1,
      λ never. c.report_second.ensures.lasts (before.4 never),
    )

pub returns-in_err-go_on-clause-said : goal.returns-in_err-go_on-clause-said
returns-in_err-go_on-clause-said g c = λ right.
    let was = c.args.comparing.now in
    as_progress was.old_one was.new_one c.loop-portion.comparing.steps (g.E.OctetSink.NeverFails c.args.errors.now)
    (g.E.OctetSink.held c.args.errors.now) (g.E.OctetSink.held c.loop-portion.errors) (c.loop-portion.invariant.3 right)

pub returns-then-is_finished-clause-said : goal.returns-then-is_finished-clause-said
returns-then-is_finished-clause-said g c = λ right.
    let was = c.args.comparing.now in
    as_progress was.old_one was.new_one c.loop-portion.comparing.steps (g.E.OctetSink.NeverFails c.args.errors.now)
    (g.E.OctetSink.held c.args.errors.now) (g.E.OctetSink.held c.loop-portion.errors) (c.loop-portion.invariant.3 right)

pub returns-clause-said : goal.returns-clause-said
returns-clause-said g c = λ right.
    let was = c.args.comparing.now in
    as_progress was.old_one was.new_one c.loop-portion.comparing.steps (g.E.OctetSink.NeverFails c.args.errors.now)
    (g.E.OctetSink.held c.args.errors.now) (g.E.OctetSink.held c.loop-portion.errors) (c.loop-portion.invariant.3 right)
