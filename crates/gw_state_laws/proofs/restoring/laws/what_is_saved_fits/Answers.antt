use Rattle.gw_state_laws.proofs.restoring_lemmas.Whole.{numbered_ones_are_read, numbered_ones_fit, saved_ones_are_read, saved_ones_are_restored, saved_ones_fit}
use Rattle.gw_state_laws.proofs.restoring.laws.what_is_saved_fits.Goals as goal

pub returns-clause-fit : goal.returns-clause-fit
returns-clause-fit c = saved_ones_fit c.args.config.now c.args.saved.now c.is_unique.ensures c.typed.ensures

pub returns-clause-read : goal.returns-clause-read
returns-clause-read c = saved_ones_are_read c.args.config.now c.args.saved.now c.is_unique.ensures c.typed.ensures c.reading.ensures.read

pub returns-clause-restored : goal.returns-clause-restored
returns-clause-restored c = saved_ones_are_restored c.args.config.now c.args.saved.now c.nothing_is_lost.ensures.same

pub returns-clause-numbered_fit : goal.returns-clause-numbered_fit
returns-clause-numbered_fit c = numbered_ones_fit c.args.config.now c.args.saved.now c.is_unique.ensures c.typed.ensures

pub returns-clause-numbered_read : goal.returns-clause-numbered_read
returns-clause-numbered_read c =
    numbered_ones_are_read c.args.config.now c.args.saved.now c.is_unique.ensures c.typed.ensures c.reading.ensures.read
