use Rattle.std.proofs.Common.{◌∙◌, ap, length, arith, refl, inl}
use Rattle.gw_script.specs.Event.{event_view}
use Rattle.gw_core.specs.declared.effects.Effects.{Effects}
use Rattle.gw_replay.specs.Shown.{effects_text}
use Rattle.gw_replay.proofs.ShownLemmas.{few_octets}
use Rattle.gw_replay.proofs.event_writer.append_step.Goals as goal

pub returns-in-Err-clause-fault : goal.returns-in-Err-clause-fault
returns-in-Err-clause-fault c = inl (
  refl,
  λ none.
      let given = c.in-Ok.ensures.given in
      let len = ap (λ (x : Effects). length (effects_text x)) given
      ∙ few_octets c.args.gateway.now (event_view c.args.event.now) none in
      let refused = c.in-Err.ensures.room (omega (arith, len, c.requires.room none)) in
      absurd cc,
)
