use Rattle.std.proofs.Common.{List, ◌∙◌, ap, sym}
use Rattle.gw_ask_sets.proofs.assertions_lemmas.GrowingLaw.{condition_next}
use Rattle.gw_ask_sets.specs.regions.Regions.{Region, lies_in_one}
use Rattle.gw_ask_sets.proofs.regions_lemmas.RangeLaw.{and_none}
use Rattle.gw_ask_sets.proofs.assertions.condition.meeting_one.Goals as goal

pub loop-condition-init : goal.loop-condition-init
loop-condition-init c = λ ask.
    ap (λ (rs : List Region). lies_in_one rs ask) c.new-out.ensures.items ∙ sym (and_none (lies_in_one c.args.regions.now ask))

pub loop-condition-preserved : goal.loop-condition-preserved
loop-condition-preserved c = λ ask.
    condition_next c.args.conditions.now c.loop-condition.condition-index c.condition-item.result ask (lies_in_one c.args.regions.now ask)
    (lies_in_one c.loop-condition.out.items ask) (lies_in_one c.push_all_meeting.new.out.items ask) c.loop-condition-test.true c.condition-item.is
    (c.loop-condition.invariant ask) (c.in_ok-push_all_meeting.ensures ask)
