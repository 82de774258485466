use Rattle.std.proofs.Common.{sym, ap, ◌∙◌}
use Rattle.gw_script.specs.declared.event.Event.{Event as LentEvent}
use Rattle.gw_script.specs.Event.{event_view}
use Rattle.gw_core.specs.Drops.{drop_at}
use Rattle.gw_core.specs.Effects.{effects_at}
use Rattle.gw_core.specs.Lasting.{lasts}
use Rattle.gw_core.proofs.EffectLemmas.{drop_at-tick, lasts-tick, nothing_is, effects_at-tick}
use Rattle.gw_core.proofs.whole_run.take_event_to.Goals as goal

pub returns-in_ok-tick-in-Tick-clause-given : goal.returns-in_ok-tick-in-Tick-clause-given
returns-in_ok-tick-in-Tick-clause-given g c =
    nothing_is c.clear.new.self.effects c.clear.ensures.empty.sends c.clear.ensures.empty.denials ∙ sym (effects_at-tick c.args.gateway.now)
    ∙ ap (λ (e : LentEvent). effects_at c.args.gateway.now (event_view e)) (sym c.in-Tick.is)

pub returns-in_ok-tick-in-Tick-clause-drop : goal.returns-in_ok-tick-in-Tick-clause-drop
returns-in_ok-tick-in-Tick-clause-drop g c =
    c.clear.ensures.drop ∙ drop_at-tick c.args.gateway.now ∙ ap (λ (e : LentEvent). drop_at c.args.gateway.now (event_view e)) (sym c.in-Tick.is)

pub returns-in_ok-tick-in-Tick-clause-lasts : goal.returns-in_ok-tick-in-Tick-clause-lasts
returns-in_ok-tick-in-Tick-clause-lasts g c =
    c.clear.ensures.empty.lasts ∙ lasts-tick c.args.gateway.now ∙ ap (λ (e : LentEvent). lasts c.args.gateway.now (event_view e)) (sym c.in-Tick.is)

pub returns-in_ok-tick-in-Tick-clause-asked : goal.returns-in_ok-tick-in-Tick-clause-asked
returns-in_ok-tick-in-Tick-clause-asked g c =
    c.nothing.ensures c.args.gateway.now
    ∙ ap (λ (e : LentEvent). g.R.Reporting.asked c.args.reporting.now c.args.gateway.now (event_view e)) (sym c.in-Tick.is)
