use Rattle.std.proofs.Common.{◌≡◌, ◌∙◌, sym, ap, List, [], ◌∷◌, ◌++◌, Option}
use Rattle.std.specs.Option.{option_or}
use Rattle.gw_frames.specs.bvll.Bvll.{view}
use Rattle.gw_rules.specs.Ask.{Ask}
use Rattle.gw_rules.specs.RuleList.{allows}
use Rattle.gw_rules.specs.declared.format.Format.{Format}
use Rattle.gw_relay.specs.Asks.{link_ask}
use Rattle.gw_relay.specs.Link.{link_response}
use Rattle.gw_relay.specs.Sends.{Sending}
use Rattle.gw_relay.specs.declared.change.Change.{Change}
use Rattle.gw_relay.proofs.Adding.{none_kept, none_walked, or_none}
use Rattle.gw_relay.proofs.Asking.{link_asked, link_changed, link_served, misplaced_answer, misplaced_asks, misplaced_change, unmanaged_answer, unmanaged_asks, unmanaged_change}
use Rattle.gw_relay.proofs.relay.Relay.link.Goals as goal

pub returns-in_default-clause-turn : goal.returns-in_default-clause-turn
returns-in_default-clause-turn g c = λ rules stands.
    let m = c.args.message.now in
    let frame = view m.frame.now in
    let none = sym c.management_of.ensures ∙ c.in_default.is in
    none_walked g.A.Asker.kept g.A.Asker.kept_of g.met.A.Asker.kept_none rules (link_response rules c.args.self.now.format m.here.now m.from frame) c.args.turn.now
    (unmanaged_answer rules c.args.self.now.format m.here.now m.from frame none) (unmanaged_asks c.args.self.now.format m.here.now m.from frame none)
    (unmanaged_change rules c.args.self.now.format m.here.now m.from frame none)

pub returns-clause-turn : goal.returns-clause-turn
returns-clause-turn g c = λ rules stands.
    let m = c.args.message.now in
    let state = m.here.now in
    let turn = c.args.turn.now in
    let frame = view m.frame.now in
    let operation = c.in-Some.operation in
    let allowed = c.in_ok-is_allowed.is_allowed in
    let managed = sym c.management_of.ensures ∙ c.in-Some.is in
    let manager = sym c.is_manager.ensures ∙ c.if-not-is_manager.false in
    let own : c.link_ask-ask.result ≡ link_ask c.args.self.now.format state.port m.from frame operation = c.link_ask-ask.ensures
    ∙ ap (λ (format : Format). link_ask format state.port m.from frame operation) c.format.ensures in
    let judges = c.in_ok-is_allowed.ensures.answer rules stands ∙ ap (allows rules) own in
    let asked = c.in_ok-is_allowed.ensures.kept rules stands
    ∙ ap (λ (ask : Ask). g.A.Asker.kept turn.asker ++ g.A.Asker.kept_of rules (ask ∷ [])) own in record {
      sends = c.set_change.ensures.sends ∙ c.in_ok-change.ensures.sends ∙ ap (λ (l : List Sending). turn.sends ++ l)
          (sym (link_served rules c.args.self.now.format state m.from frame operation allowed managed manager judges));
      verdicts = rw (link_asked c.args.self.now.format state m.from frame operation managed manager) (ap g.A.Asker.kept c.set_change.ensures.asker ∙ asked);
      change = c.set_change.ensures.change ∙ ap (λ (x : Option Change). option_or turn.change x)
          (c.in_ok-change.ensures.change ∙ sym (link_changed rules c.args.self.now.format state m.from frame operation allowed managed manager judges));
    }

pub returns-then-not-is_manager-clause-turn : goal.returns-then-not-is_manager-clause-turn
returns-then-not-is_manager-clause-turn g c = λ rules stands.
    let m = c.args.message.now in
    let format = c.args.self.now.format in
    let state = m.here.now in
    let turn = c.args.turn.now in
    let frame = view m.frame.now in
    let managed = sym c.management_of.ensures ∙ c.in-Some.is in
    let other = sym c.is_manager.ensures ∙ c.if-not-is_manager.true in record {
      sends = c.in_ok-add_refusal.ensures.ok ∙ ap (λ (l : List Sending). turn.sends ++ l)
          (sym (misplaced_answer rules format state m.from frame c.in-Some.operation managed other));
      verdicts = none_kept g.A.Asker.kept g.A.Asker.kept_of g.met.A.Asker.kept_none rules turn.asker _
          (misplaced_asks format state m.from frame c.in-Some.operation managed other);
      change = or_none turn.change ∙ ap (λ (x : Option Change). option_or turn.change x)
          (sym (misplaced_change rules format state m.from frame c.in-Some.operation managed other));
    }
