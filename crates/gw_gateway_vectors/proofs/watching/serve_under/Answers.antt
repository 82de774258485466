use Rattle.gw_gateway_vectors.proofs.watching.serve_under.Goals as goal

pub loop-preserved : goal.loop-preserved
loop-preserved g c = record { can = c.in-Ok.ensures.rest }
