use Rattle.gw_tools.proofs.objects.judge_strictly.Goals as goal

pub returns-clause-output : goal.returns-clause-output
returns-clause-output g c = (c.placed_in-placed.result, c.placed_in-placed.ensures, c.judge_by.ensures.output)
