use Rattle.std.proofs.Common.{◌&&◌, sym}
use Rattle.gw_rules.specs.Rule.{matches}
use Rattle.gw_ask_sets.specs.regions.Regions.{lies}
use Rattle.gw_ask_sets.proofs.assertions_lemmas.GrowingLaw.{both_false, none_more, one_more}
use Rattle.gw_ask_sets.proofs.regions_lemmas.CoverageLaw.{apart_law}
use Rattle.gw_ask_sets.proofs.regions.matching.push_matched.Goals as goal

pub returns-then-not-meets_each : goal.returns-then-not-meets_each
returns-then-not-meets_each c = λ ask.
    none_more c.args.out.now.items (lies c.args.region.now ask && matches c.args.rule.now ask) ask
    (both_false (lies c.args.region.now ask) (matches c.args.rule.now ask) (apart_law c.args.rule.now c.args.region.now ask (sym c.if-not-meets_each.ensures)))

pub returns : goal.returns
returns c = λ ask.
    one_more c.args.out.now.items c.push.new.self.items c.in_ok-made.made (lies c.args.region.now ask && matches c.args.rule.now ask) ask
    c.in_ok-push.ensures.items (c.in_ok-made.ensures ask)
