use Rattle.std.proofs.Common.{◌+◌, ◌*◌, length, min, arith}
use Rattle.gw_script.proofs.PairLemmas.{read_less, read_none}
use Rattle.gw_script.proofs.line.read_blocks.Goals as goal

pub loop-block-init : goal.loop-block-init
loop-block-init c = read_less c.args.text.now c.args.octets.now 0 (min (length c.args.octets.now) 0) 0 (omega arith) (read_none c.args.text.now c.args.octets.now)

pub loop-block-preserved : goal.loop-block-preserved
loop-block-preserved c =
    let octets = c.read_block-largest.new.octets in
    read_less c.args.text.now octets (c.min.result + 8) (min (length octets) (8 * (c.loop-block.block + 1))) c.read_block-largest.result (omega arith) c.read_block-largest.ensures

pub returns : goal.returns
returns c =
    read_less c.args.text.now c.loop-block.octets (min (length c.loop-block.octets) (8 * c.loop-block.block)) (length c.loop-block.octets) c.loop-block.largest (omega arith) c.loop-block.invariant
