use Rattle.std.proofs.Common.{sym, subst}
use Rattle.gw_script.specs.declared.event.Event.{Event as LentEvent}
use Rattle.gw_script.specs.Event.{event_view}
use Rattle.gw_core.specs.Effects.{NeedsNoMemory}
use Rattle.gw_core.proofs.EffectLemmas.{tick_needs_none}
use Rattle.gw_replay.proofs.event_writer.append_taken.Goals as goal

pub append_tick-requires : goal.append_tick-requires
append_tick-requires c = record {
  room = c.requires.room (subst (λ (e : LentEvent). NeedsNoMemory c.args.gateway.now (event_view e)) (sym c.in-Tick.is) (tick_needs_none c.args.gateway.now));
}
