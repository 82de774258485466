use Rattle.gw_turns.proofs.keeper.Keeper.keep_at_tick.Goals as goal

pub returns : goal.returns
returns g c = (c.keep_due.new.self, c.keep_due.ensures, c.count_anew.ensures)
