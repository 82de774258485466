use Rattle.std.proofs.Common.{length, ◌*◌, ◌+◌, ◌%◌, refl, arith}
use Rattle.gw_script.proofs.PairLemmas.{read_less, read_more, read_none}
use Rattle.gw_script.proofs.line.read_each.Goals as goal

pub loop-i-init : goal.loop-i-init
loop-i-init c = read_none c.args.text.now c.args.octets.now

pub loop-i-preserved : goal.loop-i-preserved
loop-i-preserved c =
    let high = c.digit_value-high.result in
    let low = c.digit_value-low.result in
    rw (c.max-largest.ensures, c.max.ensures)
    (read_more c.args.text.now c.loop-i.octets c.loop-i.i c.loop-i.largest high low ((high * 16 % 256 + low) % 256) (omega arith) (omega arith) c.digit_value-high.ensures c.digit_value-low.ensures refl c.loop-i.invariant)

pub returns : goal.returns
returns c = read_less c.args.text.now c.loop-i.octets c.loop-i.i (length c.loop-i.octets) c.loop-i.largest (omega arith) c.loop-i.invariant
