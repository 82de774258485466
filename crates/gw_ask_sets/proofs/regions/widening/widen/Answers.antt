use Rattle.gw_ask_sets.proofs.regions_lemmas.WideningLaw.{wide_more}
use Rattle.gw_ask_sets.proofs.regions.widening.widen.Goals as goal

pub loop-field-preserved : goal.loop-field-preserved
loop-field-preserved c = wide_more c.args.shapes.now c.args.region.now c.loop-field.region c.free.new.region c.loop-field.invariant c.in_ok-free.ensures
