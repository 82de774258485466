use Rattle.gw_rule_index.specs.internal.Bounds.{ends}
use Rattle.gw_rule_index.proofs.Gathered.{gathered}
use Rattle.gw_rule_index.proofs.field_build.add_ends.Goals as goal

pub loop-range-preserved : goal.loop-range-preserved
loop-range-preserved c =
    gathered ends c.args.numbers.now.items c.loop-range.numbers.items c.add_ends_of.new.numbers.items c.args.ranges.now c.loop-range.range-index _ c.loop-range-test.true
    c.loop-range.invariant c.in_ok-add_ends_of.ensures
