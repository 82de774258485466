use Rattle.std.proofs.Common.{◌∙◌, sym, ◌&&◌}
use Rattle.gw_ask_sets.proofs.assertions_lemmas.GrowingLaw.{none_more, one_more}
use Rattle.gw_ask_sets.specs.regions.Regions.{lies}
use Rattle.gw_ask_sets.specs.assertions.internal.Conditions.{is_met}
use Rattle.gw_ask_sets.proofs.assertions.condition.push_meeting.Goals as goal

pub returns-in-None : goal.returns-in-None
returns-in-None c = λ ask.
    none_more c.args.out.now.items (lies c.args.region.now ask && is_met c.args.condition.now ask) ask
    (sym (c.in_ok-made.ensures ask) ∙ c.ask_in.ensures.none c.in-None.is ask)

pub returns-in_ok-push-in-Some : goal.returns-in_ok-push-in-Some
returns-in_ok-push-in-Some c = λ ask.
    one_more c.args.out.now.items c.push.new.self.items c.in_ok-made.made (lies c.args.region.now ask && is_met c.args.condition.now ask) ask
    c.in_ok-push-in-Some.ensures.items (c.in_ok-made.ensures ask)
