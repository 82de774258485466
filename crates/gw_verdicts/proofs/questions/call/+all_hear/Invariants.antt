use Rattle.gw_verdicts.proofs.questions.call.+all_hear.Given as goal

abbrev pub decreases-all_hear : goal.decreases-all_hear
decreases-all_hear l = l.port
