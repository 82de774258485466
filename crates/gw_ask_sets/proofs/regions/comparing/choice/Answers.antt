use Rattle.gw_ask_sets.proofs.regions.comparing.choice.Goals as goal

pub returns : goal.returns
returns c = λ region one two. c.look_by_first.ensures c.args.old.now c.args.new.now region one two
