use Rattle.gw_service.proofs.MeteringLemmas.{puts_metered_last}
use Rattle.gw_service.proofs.running.Running.stop.Goals as goal

pub returns-clause-put : goal.returns-clause-put
returns-clause-put g c =
    let old = c.args.self.now in
    puts_metered_last g.M.Store.held old.metrics c.put_last.new.metrics c.args.schedule.now.start old.gateway old.state.served old.state.tally
    old.counts old.announcing (g.K.StateKeeper.conduct.losses old.keeper) (g.K.StateKeeper.conduct.tries old.keeper) (g.K.StateKeeper.conduct.decisions old.keeper)
    c.measure-measured.result c.measure-measured.ensures c.put_last.ensures
