use Rattle.std.proofs.Common.{◌∙◌, sym, ap, refl, List, ◌++◌}
use Rattle.gw_relay.specs.Cast.{cast_response}
use Rattle.gw_relay.specs.Message.{message_view}
use Rattle.gw_relay.specs.Sends.{Sending}
use Rattle.gw_relay.proofs.Adding.{none_kept, none_walked, or_none}
use Rattle.gw_relay.proofs.Asking.{strange_asks, strange_sends, unheard_asks, unheard_sends}
use Rattle.gw_relay.proofs.relay.Relay.cast.Goals as goal

pub returns-then-not-accepts-clause-turn : goal.returns-then-not-accepts-clause-turn
returns-then-not-accepts-clause-turn g c = λ rules stands.
    let m = message_view c.args.message.now in
    let heard = sym c.accepts.ensures ∙ c.if-not-accepts.true in
    none_walked g.A.Asker.kept g.A.Asker.kept_of g.met.A.Asker.kept_none rules (cast_response rules c.args.self.now.format m) c.args.turn.now
    (unheard_sends rules c.args.self.now.format m heard) (unheard_asks c.args.self.now.format m heard) refl

pub returns-then-is_unregistered-clause-turn : goal.returns-then-is_unregistered-clause-turn
returns-then-is_unregistered-clause-turn g c = λ rules stands.
    let m = message_view c.args.message.now in
    let turn = c.args.turn.now in
    let heard = sym c.accepts.ensures ∙ c.if-not-accepts.false in
    let strange = sym c.is_unregistered.ensures ∙ c.if-is_unregistered.true in record {
      sends = c.in_ok-add_refusal.ensures.ok ∙ ap (λ (l : List Sending). turn.sends ++ l) (sym (strange_sends rules c.args.self.now.format m heard strange));
      verdicts = none_kept g.A.Asker.kept g.A.Asker.kept_of g.met.A.Asker.kept_none rules turn.asker _ (strange_asks c.args.self.now.format m heard strange);
      change = or_none turn.change;
    }
