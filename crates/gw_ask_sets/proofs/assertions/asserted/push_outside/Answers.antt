use Rattle.std.proofs.Common.{◌&&◌}
use Rattle.std.specs.Prelude.{not}
use Rattle.gw_rules.specs.Rule.{matches}
use Rattle.gw_ask_sets.specs.regions.Regions.{lies}
use Rattle.gw_ask_sets.proofs.assertions_lemmas.GrowingLaw.{both_left, none_left, none_more, one_more, some_more}
use Rattle.gw_ask_sets.proofs.assertions.asserted.push_outside.Goals as goal

pub returns-in-All : goal.returns-in-All
returns-in-All c = λ ask.
    none_more c.args.out.now.items (lies c.args.region ask && not (matches c.args.rule.now ask)) ask
    (none_left (lies c.args.region ask) (matches c.args.rule.now ask) (c.coverage_of.ensures.whole c.in-All.is ask))

pub returns-in_ok-push-in-Nothing : goal.returns-in_ok-push-in-Nothing
returns-in_ok-push-in-Nothing c = λ ask.
    one_more c.args.out.now.items c.push.new.self.items c.args.region (lies c.args.region ask && not (matches c.args.rule.now ask)) ask
    c.in_ok-push-in-Nothing.ensures.items
    (both_left (lies c.args.region ask) (matches c.args.rule.now ask) (c.coverage_of.ensures.apart c.in-Nothing.is ask))

pub returns-in_ok-part-in-Perhaps : goal.returns-in_ok-part-in-Perhaps
returns-in_ok-part-in-Perhaps c = λ ask.
    let made = c.in_ok-part-in-Perhaps.ensures.parted in
    some_more c.args.out.now.items _ made.0 (lies c.args.region ask && not (matches c.args.rule.now ask)) ask made.1 (made.2.outer ask)
