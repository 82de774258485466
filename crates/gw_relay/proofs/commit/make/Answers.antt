use Rattle.gw_relay.proofs.WayLemmas.{learnings_made}
use Rattle.gw_relay.proofs.commit.make.Goals as goal

pub returns-in-Learnings-clause-learnings : goal.returns-in-Learnings-clause-learnings
returns-in-Learnings-clause-learnings c =
    learnings_made c.learn_all.result c.args.routes.now c.learn_all.new.self c.args.change c.in-Learnings.port c.in-Learnings.next
    c.in-Learnings.networks
    c.as_slice.result.now c.in-Learnings.is c.as_slice.ensures c.learn_all.ensures.stands
