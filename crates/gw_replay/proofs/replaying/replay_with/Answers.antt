use Rattle.gw_replay.proofs.ReplayLemmas.{ends_before}
use Rattle.gw_replay.proofs.replaying.replay_with.Goals as goal

pub returns-in_default-empty_text-clause-run : goal.returns-in_default-empty_text-clause-run
returns-in_default-empty_text-clause-run g c = λ script before known written. ends_before g.T.EventText.wording c.args.config script before _ written

pub returns-in_default-clause-run : goal.returns-in_default-clause-run
returns-in_default-clause-run g c = λ script before known written. ends_before g.T.EventText.wording c.args.config script before _ written

pub returns-clause-run : goal.returns-clause-run
returns-clause-run g c = c.replay_script-done.ensures.run c.args.config c.in-Ok.ensures.state

pub returns-clause-flaw : goal.returns-clause-flaw
returns-clause-flaw g c = λ n. c.replay_script-done.ensures.flaw c.args.config n c.in-Ok.ensures.state
