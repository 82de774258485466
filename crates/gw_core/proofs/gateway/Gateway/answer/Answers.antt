use Rattle.std.proofs.Common.{◌≡◌, ◌∙◌, ◌+◌, ◌++◌, List, length, refl, subst, sym, ap, arith}
use Rattle.gw_rules.specs.Authorizer.{denied_of}
use Rattle.gw_audit.specs.declared.denial.Denial.{Denial}
use Rattle.gw_core.specs.Asks.{asks_for}
use Rattle.gw_core.specs.Denials.{denials_of}
use Rattle.gw_core.specs.State.{State}
use Rattle.gw_core.specs.internal.View.{admitted_view, origin_of}
use Rattle.gw_core.proofs.DenialLemmas.{counted_for, recorded}
use Rattle.gw_core.proofs.EffectLemmas.{effects_are}
use Rattle.gw_core.proofs.RespondLemmas.{turned}
use Rattle.gw_core.proofs.gateway.Gateway.answer.Goals as goal

pub returns-in_err-respond-clause-silent : goal.returns-in_err-respond-clause-silent
returns-in_err-respond-clause-silent g c =
    let w : State = record {
      relay = c.self.inside.relay;
      device = c.self.inside.device;
      rules = c.self.inside.policy;
      ticks = c.self.inside.counts.ticks;
      denials = c.self.inside.counts.denials;
    } in
    let received = admitted_view w c.args.received.now in
    let begins = subst (λ (s : State). g.A.Asker.StandsFor c.args.asker s.rules) (sym c.self.view_is) c.requires.stands in
    let stands = subst (λ a. g.A.Asker.StandsFor a w.rules) (sym c.over-turn.ensures.asker) begins in
    rw (← c.self.view_is) (λ asks sends. let ok = c.in_err-respond.ensures.silent w.rules stands asks sends in absurd cc)

pub returns-in_err-refusals-clause-silent : goal.returns-in_err-refusals-clause-silent
returns-in_err-refusals-clause-silent g c =
    let w : State = record {
      relay = c.self.inside.relay;
      device = c.self.inside.device;
      rules = c.self.inside.policy;
      ticks = c.self.inside.counts.ticks;
      denials = c.self.inside.counts.denials;
    } in
    let received = admitted_view w c.args.received.now in
    let begins = subst (λ (s : State). g.A.Asker.StandsFor c.args.asker s.rules) (sym c.self.view_is) c.requires.stands in
    let stands = subst (λ a. g.A.Asker.StandsFor a w.rules) (sym c.over-turn.ensures.asker) begins in
    let begun = ap g.A.Asker.kept c.over-turn.ensures.asker ∙ c.requires.begun in
    let none = c.over-turn.ensures.sends ∙ c.replace-sends.ensures.value ∙ c.requires.empty.sends in
    let response = c.in_ok-respond.ensures.response w.rules stands in
    let r = turned g.A.Asker.kept g.A.Asker.kept_of w.rules w.relay w.device received c.over-turn.result c.respond.new.turn c.respond.new.write
    none begun c.over-turn.ensures.change response in
    rw (← c.self.view_is) (λ asks sends. let ok = c.in_err-refusals.ensures.silent
    (r.verdicts ∙ ap (g.A.Asker.kept_of w.rules) asks ∙ g.met.A.Asker.kept_none w.rules) in absurd cc)

pub returns-then-refusals-left-clause-count_end : goal.returns-then-refusals-left-clause-count_end
returns-then-refusals-left-clause-count_end g c =
    let w : State = record {
      relay = c.self.inside.relay;
      device = c.self.inside.device;
      rules = c.self.inside.policy;
      ticks = c.self.inside.counts.ticks;
      denials = c.self.inside.counts.denials;
    } in
    let received = admitted_view w c.args.received.now in
    let begins = subst (λ (s : State). g.A.Asker.StandsFor c.args.asker s.rules) (sym c.self.view_is) c.requires.stands in
    let stands = subst (λ a. g.A.Asker.StandsFor a w.rules) (sym c.over-turn.ensures.asker) begins in
    let begun = ap g.A.Asker.kept c.over-turn.ensures.asker ∙ c.requires.begun in
    let none = c.over-turn.ensures.sends ∙ c.replace-sends.ensures.value ∙ c.requires.empty.sends in
    let response = c.in_ok-respond.ensures.response w.rules stands in
    let r = turned g.A.Asker.kept g.A.Asker.kept_of w.rules w.relay w.device received c.over-turn.result c.respond.new.turn c.respond.new.write
    none begun c.over-turn.ensures.change response in
    let refusals = c.as_slice-refusals.ensures ∙ c.in_ok-refusals.ensures.refusals w.rules (asks_for w.rules w.relay w.device received) r.verdicts in
    rw (← c.self.view_is) (λ h. omega (
      arith,
      c.if-refusals-left.true,
      ap (λ (s : State). s.denials) c.self.view_is,
      c.left.ensures,
      ap length refusals,
      counted_for w received,
    ))

pub returns-then-refusals-left-clause-silent : goal.returns-then-refusals-left-clause-silent
returns-then-refusals-left-clause-silent g c =
    let w : State = record {
      relay = c.self.inside.relay;
      device = c.self.inside.device;
      rules = c.self.inside.policy;
      ticks = c.self.inside.counts.ticks;
      denials = c.self.inside.counts.denials;
    } in
    let received = admitted_view w c.args.received.now in
    let begins = subst (λ (s : State). g.A.Asker.StandsFor c.args.asker s.rules) (sym c.self.view_is) c.requires.stands in
    let stands = subst (λ a. g.A.Asker.StandsFor a w.rules) (sym c.over-turn.ensures.asker) begins in
    let begun = ap g.A.Asker.kept c.over-turn.ensures.asker ∙ c.requires.begun in
    let none = c.over-turn.ensures.sends ∙ c.replace-sends.ensures.value ∙ c.requires.empty.sends in
    let response = c.in_ok-respond.ensures.response w.rules stands in
    let r = turned g.A.Asker.kept g.A.Asker.kept_of w.rules w.relay w.device received c.over-turn.result c.respond.new.turn c.respond.new.write
    none begun c.over-turn.ensures.change response in
    let refusals = c.as_slice-refusals.ensures ∙ c.in_ok-refusals.ensures.refusals w.rules (asks_for w.rules w.relay w.device received) r.verdicts in
    rw (← c.self.view_is) (λ asks sends. absurd (omega (
      arith,
      c.if-refusals-left.true,
      c.left.ensures,
      ap length refusals,
      ap (λ l. length (denied_of w.rules l)) asks,
    )))

pub returns-in_err-add_denials-clause-silent : goal.returns-in_err-add_denials-clause-silent
returns-in_err-add_denials-clause-silent g c =
    let w : State = record {
      relay = c.self.inside.relay;
      device = c.self.inside.device;
      rules = c.self.inside.policy;
      ticks = c.self.inside.counts.ticks;
      denials = c.self.inside.counts.denials;
    } in
    let received = admitted_view w c.args.received.now in
    let begins = subst (λ (s : State). g.A.Asker.StandsFor c.args.asker s.rules) (sym c.self.view_is) c.requires.stands in
    let stands = subst (λ a. g.A.Asker.StandsFor a w.rules) (sym c.over-turn.ensures.asker) begins in
    let begun = ap g.A.Asker.kept c.over-turn.ensures.asker ∙ c.requires.begun in
    let none = c.over-turn.ensures.sends ∙ c.replace-sends.ensures.value ∙ c.requires.empty.sends in
    let response = c.in_ok-respond.ensures.response w.rules stands in
    let r = turned g.A.Asker.kept g.A.Asker.kept_of w.rules w.relay w.device received c.over-turn.result c.respond.new.turn c.respond.new.write
    none begun c.over-turn.ensures.change response in
    let refusals = c.as_slice-refusals.ensures ∙ c.in_ok-refusals.ensures.refusals w.rules (asks_for w.rules w.relay w.device received) r.verdicts in
    rw (← c.self.view_is) (λ asks sends. let ok = c.in_err-add_denials.ensures.silent (refusals ∙ ap (denied_of w.rules) asks) in absurd cc)

pub returns-clause-asked : goal.returns-clause-asked
returns-clause-asked g c =
    let w : State = record {
      relay = c.self.inside.relay;
      device = c.self.inside.device;
      rules = c.self.inside.policy;
      ticks = c.self.inside.counts.ticks;
      denials = c.self.inside.counts.denials;
    } in
    let received = admitted_view w c.args.received.now in
    let begins = subst (λ (s : State). g.A.Asker.StandsFor c.args.asker s.rules) (sym c.self.view_is) c.requires.stands in
    let stands = subst (λ a. g.A.Asker.StandsFor a w.rules) (sym c.over-turn.ensures.asker) begins in
    let begun = ap g.A.Asker.kept c.over-turn.ensures.asker ∙ c.requires.begun in
    let none = c.over-turn.ensures.sends ∙ c.replace-sends.ensures.value ∙ c.requires.empty.sends in
    let response = c.in_ok-respond.ensures.response w.rules stands in
    let r = turned g.A.Asker.kept g.A.Asker.kept_of w.rules w.relay w.device received c.over-turn.result c.respond.new.turn c.respond.new.write
    none begun c.over-turn.ensures.change response in
    let asks = asks_for w.rules w.relay w.device received in
    rw (← c.self.view_is) (c.in_ok-refusals.ensures.asked w.rules asks r.verdicts
    ∙ ap (λ picks. g.A.Reporter.asked picks (origin_of c.args.received.now) w.rules asks)
    (c.in_ok-respond.ensures.picks ∙ ap g.A.Asker.picks c.over-turn.ensures.asker))

pub returns-clause-answered : goal.returns-clause-answered
returns-clause-answered g c =
    let w : State = record {
      relay = c.self.inside.relay;
      device = c.self.inside.device;
      rules = c.self.inside.policy;
      ticks = c.self.inside.counts.ticks;
      denials = c.self.inside.counts.denials;
    } in
    let received = admitted_view w c.args.received.now in
    let begins = subst (λ (s : State). g.A.Asker.StandsFor c.args.asker s.rules) (sym c.self.view_is) c.requires.stands in
    let stands = subst (λ a. g.A.Asker.StandsFor a w.rules) (sym c.over-turn.ensures.asker) begins in
    let begun = ap g.A.Asker.kept c.over-turn.ensures.asker ∙ c.requires.begun in
    let none = c.over-turn.ensures.sends ∙ c.replace-sends.ensures.value ∙ c.requires.empty.sends in
    let response = c.in_ok-respond.ensures.response w.rules stands in
    let r = turned g.A.Asker.kept g.A.Asker.kept_of w.rules w.relay w.device received c.over-turn.result c.respond.new.turn c.respond.new.write
    none begun c.over-turn.ensures.change response in
    let refusals = c.as_slice-refusals.ensures ∙ c.in_ok-refusals.ensures.refusals w.rules (asks_for w.rules w.relay w.device received) r.verdicts in
    let due = denials_of c.rules-rules.result.now (w.denials + 1) w.ticks (origin_of c.args.received.now) c.as_slice-refusals.result.now in
    let added : c.add_denials.new.denials ≡ due = c.in_ok-add_denials.ensures.denials
    ∙ ap (λ (l : List Denial). l ++ due) c.requires.empty.denials in
    let denials = recorded w c.args.received.now c.rules-rules.result.now c.as_slice-refusals.result.now
    c.as_slice-refusals.result.now c.add_denials.new.denials c.rules-rules.ensures refl refusals added in
    rw (← c.self.view_is) (record {
      effects = effects_are _ _ _ _ r.sends denials;
      lasting = c.is_lasting-taken.ensures;
      change = c.put.ensures ∙ r.change;
      write = response.write;
      place = response.place;
      ticks = c.self.invariant.ticks;
      room = omega (
        arith,
        c.if-refusals-left.false,
        c.left.ensures,
        ap (λ (s : State). s.denials) c.self.view_is,
        ap length refusals,
        counted_for w received,
      );
    })
