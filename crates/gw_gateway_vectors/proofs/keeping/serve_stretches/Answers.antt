use Rattle.gw_gateway_vectors.proofs.keeping.serve_stretches.Goals as goal

pub loop-preserved : goal.loop-preserved
loop-preserved c = record { can = c.in-Ok.ensures.rest }
