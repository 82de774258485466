use Rattle.std.proofs.Common.{arith}
use Rattle.std.proofs.lemmas.List.{ext_get_or}
use Rattle.gw_ask_sets.proofs.regions.merging.same_numbers.Goals as goal

pub returns : goal.returns
returns c = λ e. ext_get_or 0 c.args.a.now c.args.b.now (omega arith) (λ k within. c.loop-place.invariant k 0 (omega arith))
