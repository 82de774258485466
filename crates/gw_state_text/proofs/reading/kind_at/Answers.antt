use Rattle.std.proofs.Common.{◌-◌, drop, false, length, take, true}
use Rattle.gw_state_text.proofs.StepLemmas.{kind_so}
use Rattle.gw_state_text.proofs.reading.kind_at.Goals as goal

pub returns-then-is_whole : goal.returns-then-is_whole
returns-then-is_whole c =
    kind_so (take (length c.args.text.now - c.args.stop.left) c.args.text.now) (drop (length c.args.text.now - c.args.stop.left) c.args.text.now)
    c.split_at.result.0.now c.split_at.result.1.now c.is_whole.result true c.args.stop.kind c.split_at.ensures.front c.split_at.ensures.back
    c.is_whole.ensures c.if-is_whole.true c.in_default.not-Memory

pub returns-else-is_whole : goal.returns-else-is_whole
returns-else-is_whole c =
    kind_so (take (length c.args.text.now - c.args.stop.left) c.args.text.now) (drop (length c.args.text.now - c.args.stop.left) c.args.text.now)
    c.split_at.result.0.now c.split_at.result.1.now c.is_whole.result false c.args.stop.kind c.split_at.ensures.front c.split_at.ensures.back
    c.is_whole.ensures c.if-is_whole.false c.in_default.not-Memory
