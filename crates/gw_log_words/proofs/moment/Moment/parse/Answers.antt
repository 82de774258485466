use Rattle.std.proofs.Common.{subst, sym}
use Rattle.gw_log_words.specs.Moment.{IsRead}
use Rattle.gw_log_words.proofs.MomentLemmas.{no_clock}
use Rattle.gw_log_words.proofs.moment.Moment.parse.Goals as goal

pub returns-in_err-civil_time : goal.returns-in_err-civil_time
returns-in_err-civil_time c = subst (IsRead c.args.text.now) (sym c.from_residual-in_err-civil_time.ensures)
    (no_clock c.args.text.now c.in-Ok.read c.in-Some-Some-Some.time (sym c.in-Ok.ensures.value) c.in-Some-Some-Some.is-1
    c.in_err-civil_time.ensures)
