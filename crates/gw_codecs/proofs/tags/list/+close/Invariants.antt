use Rattle.std.proofs.Common.{◌≡◌, ◌-◌}
use Rattle.gw_codecs.specs.tags.Walk.{closing_at}
use Rattle.gw_codecs.proofs.tags.list.+close.Given as goal

abbrev pub decreases-close : goal.decreases-close
decreases-close l = l.depth

abbrev pub invariant-loop-done : goal.invariant-loop-done
invariant-loop-done l = closing_at (l.fn.fuel - l.done) l.fn.depth l.fn.number l.rest ≡ closing_at l.fn.fuel l.fn.depth l.fn.number l.fn.octets
