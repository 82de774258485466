use Rattle.gw_ask_sets.specs.regions.Merging.{IsWide}
use Rattle.gw_ask_sets.proofs.regions.widening.widen.Given as goal

abbrev pub invariant-loop-field : goal.invariant-loop-field
invariant-loop-field l = IsWide l.shapes l.fn.region l.region
