use Rattle.std.proofs.Common.{◌*◌, arith}
use Rattle.gw_script.proofs.FindingLemmas.{first_at, lacks_block}
use Rattle.gw_script.proofs.finding.place_of.Goals as goal

pub returns-then-before-lt-LANES : goal.returns-then-before-lt-LANES
returns-then-before-lt-LANES c =
    first_at c.args.wanted c.args.text.now (16 * c.loop-block.block) c.octets_before-before.result (omega arith) c.octets_before-before.ensures (omega arith) c.loop-block.invariant

pub loop-block-preserved : goal.loop-block-preserved
loop-block-preserved c =
    lacks_block c.args.wanted c.args.text.now c.loop-block.block c.octets_before-before.result (omega arith) c.octets_before-before.ensures (omega arith) c.loop-block.invariant
