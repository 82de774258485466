use Rattle.std.proofs.Common.{◌≡◌, ◌+◌, ◌*◌, ◌/◌, ◌%◌, get_or, refl, arith}
use Rattle.gw_script.specs.internal.Pairs.{IsValue}
use Rattle.gw_script.proofs.PairLemmas.{read_less, read_more}
use Rattle.gw_script.proofs.line.read_block.Goals as goal

pub loop-k-init : goal.loop-k-init
loop-k-init g c = read_less c.args.text.now c.args.octets.now c.args.start (c.args.start + 0) c.args.largest (omega arith) c.requires.before

pub loop-k-preserved : goal.loop-k-preserved
loop-k-preserved g c =
    let text = c.args.text.now in
    let place = c.args.start + c.loop-k.k in
    let high = get_or c.block_values-values.result (2 * c.loop-k.k) 0 in
    let low = get_or c.block_values-values.result (2 * c.loop-k.k + 1) 0 in
    let first : 2 * c.args.start + 2 * c.loop-k.k ≡ 2 * place = omega arith in
    let second : 2 * c.args.start + (2 * c.loop-k.k + 1) ≡ 2 * place + 1 = omega arith in
    let next : c.args.start + (c.loop-k.k + 1) ≡ place + 1 = omega arith in
    let is_high : IsValue (get_or text (2 * place) 0) high = rw first at (c.block_values-values.ensures (2 * c.loop-k.k) (omega arith)) in
    let is_low : IsValue (get_or text (2 * place + 1) 0) low = rw second at (c.block_values-values.ensures (2 * c.loop-k.k + 1) (omega arith)) in
    rw (c.max-largest.ensures, c.max.ensures, next)
    (read_more text c.loop-k.octets place c.loop-k.largest high low ((high * 16 % 256 + low) % 256) (omega arith) (omega arith) is_high is_low refl c.loop-k.invariant)

pub returns : goal.returns
returns g c = read_less c.args.text.now c.loop-k.octets (c.args.start + c.loop-k.k) (c.args.start + g.row.DIGITS / 2) c.loop-k.largest (omega arith) c.loop-k.invariant
