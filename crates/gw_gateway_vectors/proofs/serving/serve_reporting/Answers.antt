use Rattle.gw_gateway_vectors.proofs.serving.serve_reporting.Goals as goal

pub loop-preserved : goal.loop-preserved
loop-preserved c = record { can = c.serve_to_tick-answer.ensures.rest }
