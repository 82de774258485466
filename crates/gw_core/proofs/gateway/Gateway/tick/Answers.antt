use Rattle.std.proofs.Common.{◌≡◌, ◌+◌, ◌^◌, ◌<◌, ◌≤◌, true, false, refl, sym, ap, ◌∙◌, arith}
use Rattle.gw_script.specs.Event.{Tick}
use Rattle.gw_relay.specs.State.{Relay}
use Rattle.gw_core.specs.Effects.{passes_end}
use Rattle.gw_core.specs.State.{State}
use Rattle.gw_core.proofs.EffectLemmas.{effects_at-tick, passes_end-within, passes_end-ticks, no_denials_at_tick}
use Rattle.gw_core.proofs.HistoryLemmas.{moves_ticks}
use Rattle.gw_core.proofs.gateway.Gateway.tick.Goals as goal

pub returns-then-self-clause-count_end : goal.returns-then-self-clause-count_end
returns-then-self-clause-count_end c =
    let past : 2 ^ 63 < c.self.inside.counts.ticks + 1 = omega (arith, c.if-self.true) in
    let ends : passes_end c.args.self.now Tick ≡ true = rw (← c.self.view_is) (passes_end-ticks _ Tick past) in
    (λ h. ends, λ h. refl)

pub returns-clause-step : goal.returns-clause-step
returns-clause-step c =
    let ticks : c.self.inside.counts.ticks + 1 ≤ 2 ^ 63 = omega (arith, c.if-self.false, c.self.invariant.ticks) in
    let room : c.self.inside.counts.denials + 0 ≤ 2 ^ 63 = omega (arith, c.self.invariant.denials) in
    let w : State = record {
      relay = c.self.inside.relay;
      device = c.self.inside.device;
      rules = c.self.inside.policy;
      ticks = c.self.inside.counts.ticks;
      denials = c.self.inside.counts.denials;
    } in
    rw (← c.self.view_is) (record {
      effects = sym (effects_at-tick w);
      state = ap (λ (r : Relay). record w { relay = r; ticks = w.ticks + 1 }) c.tick.ensures.later ∙ moves_ticks w;
      counts = passes_end-within w Tick 0 (no_denials_at_tick w) ticks room;
    })

pub returns-clause-count_end : goal.returns-clause-count_end
returns-clause-count_end c =
    let ticks : c.self.inside.counts.ticks + 1 ≤ 2 ^ 63 = omega (arith, c.if-self.false, c.self.invariant.ticks) in
    let room : c.self.inside.counts.denials + 0 ≤ 2 ^ 63 = omega (arith, c.self.invariant.denials) in
    let goes : passes_end c.args.self.now Tick ≡ false = rw (← c.self.view_is)
    (passes_end-within _ Tick 0 (no_denials_at_tick _) ticks room) in
    (λ h. absurd cc, λ h. absurd cc)
