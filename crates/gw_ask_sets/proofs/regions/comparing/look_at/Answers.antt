use Rattle.gw_ask_sets.proofs.regions.comparing.look_at.Goals as goal

pub returns : goal.returns
returns c = c.choice.ensures c.args.region.now c.in_ok-p.ensures c.in_ok-q.ensures
