use Rattle.std.proofs.Common.{◌∙◌, sym, ap, refl, List, ◌++◌}
use Rattle.gw_relay.specs.Cast.{cast_response}
use Rattle.gw_relay.specs.Message.{message_view}
use Rattle.gw_relay.specs.Sends.{Sending}
use Rattle.gw_relay.proofs.Adding.{none_walked, or_none}
use Rattle.gw_relay.proofs.Asking.{cast_asked, cast_judged, cast_loud, goes_on_accepted, goes_on_registered, quiet_asks, quiet_sends}
use Rattle.gw_relay.proofs.relay.Relay.add_accepted_cast.Goals as goal

pub returns-then-not-is_carried-clause-turn : goal.returns-then-not-is_carried-clause-turn
returns-then-not-is_carried-clause-turn g c = λ rules stands.
    let format = c.args.self.now.format in
    let m = message_view c.args.message.now in
    let heard = goes_on_accepted m c.requires in
    let known = goes_on_registered m c.requires in
    let quiet = sym c.is_carried.ensures ∙ c.if-not-is_carried.true in
    none_walked g.A.Asker.kept g.A.Asker.kept_of g.met.A.Asker.kept_none rules (cast_response rules format m) c.args.turn.now
    (quiet_sends rules format m heard known quiet) (quiet_asks format m heard known quiet) refl

pub returns-clause-turn : goal.returns-clause-turn
returns-clause-turn g c = λ rules stands.
    let format = c.args.self.now.format in
    let m = message_view c.args.message.now in
    let turn = c.args.turn.now in
    let heard = goes_on_accepted m c.requires in
    let known = goes_on_registered m c.requires in
    let broadcast = sym c.is_carried.ensures ∙ c.if-not-is_carried.false in
    let asked = c.in_ok-is_allowed.ensures.asked rules stands in record {
      sends = c.in_ok-add_judged.ensures ∙ ap (λ (l : List Sending). turn.sends ++ l)
          (sym (cast_judged rules format m c.in_ok-is_allowed.is_allowed heard known broadcast asked.answer));
      verdicts = rw (cast_asked format m heard known broadcast) asked.verdicts;
      change = or_none turn.change;
    }

pub returns-in_err-is_allowed-clause-silent : goal.returns-in_err-is_allowed-clause-silent
returns-in_err-is_allowed-clause-silent g c = λ none.
    let m = message_view c.args.message.now in
    let broadcast = sym c.is_carried.ensures ∙ c.if-not-is_carried.false in
    absurd (cast_loud c.args.self.now.format m (goes_on_accepted m c.requires) (goes_on_registered m c.requires) broadcast none)

pub returns-in_err-is_allowed-clause-unasked : goal.returns-in_err-is_allowed-clause-unasked
returns-in_err-is_allowed-clause-unasked g c = λ none.
    let m = message_view c.args.message.now in
    let broadcast = sym c.is_carried.ensures ∙ c.if-not-is_carried.false in
    absurd (cast_loud c.args.self.now.format m (goes_on_accepted m c.requires) (goes_on_registered m c.requires) broadcast none)

pub returns-in_err-add_judged-clause-silent : goal.returns-in_err-add_judged-clause-silent
returns-in_err-add_judged-clause-silent g c = λ none.
    let m = message_view c.args.message.now in
    let broadcast = sym c.is_carried.ensures ∙ c.if-not-is_carried.false in
    absurd (cast_loud c.args.self.now.format m (goes_on_accepted m c.requires) (goes_on_registered m c.requires) broadcast none)

pub returns-in_err-add_judged-clause-unasked : goal.returns-in_err-add_judged-clause-unasked
returns-in_err-add_judged-clause-unasked g c = λ none.
    let m = message_view c.args.message.now in
    let broadcast = sym c.is_carried.ensures ∙ c.if-not-is_carried.false in
    absurd (cast_loud c.args.self.now.format m (goes_on_accepted m c.requires) (goes_on_registered m c.requires) broadcast none)

pub returns-clause-unasked : goal.returns-clause-unasked
returns-clause-unasked g c = λ none.
    let m = message_view c.args.message.now in
    let broadcast = sym c.is_carried.ensures ∙ c.if-not-is_carried.false in
    absurd (cast_loud c.args.self.now.format m (goes_on_accepted m c.requires) (goes_on_registered m c.requires) broadcast none)
