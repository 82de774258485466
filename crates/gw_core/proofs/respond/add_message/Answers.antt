use Rattle.std.proofs.Common.{refl, sym, ap, subst, ◌∙◌, Option}
use Rattle.gw_rules.specs.declared.format.Format.{Format}
use Rattle.gw_device.specs.Response.{HasPlace}
use Rattle.gw_objects.specs.Write.{Write}
use Rattle.gw_relay.specs.Turn.{IsWalked}
use Rattle.gw_core.specs.Asks.{message_asks}
use Rattle.gw_core.specs.Effects.{message_change, message_sends}
use Rattle.gw_relay.specs.Message.{message_view}
use Rattle.gw_core.specs.internal.Respond.{message_response}
use Rattle.gw_core.proofs.EntryLemmas.{admitted_on, barred_goes_on, due_barred, due_stopped, due_taken}
use Rattle.gw_core.proofs.RespondLemmas.{bars, cast_silent, entry_silent, goes, judged_silent, served_silent, stops}
use Rattle.gw_core.proofs.respond.add_message.Goals as goal

pub returns-in_err-taken-clause-silent : goal.returns-in_err-taken-clause-silent
returns-in_err-taken-clause-silent g c = λ rules stands asks sends.
    let relay = c.args.relay.now in
    let m = message_view c.args.message.now in
    let ok = c.in_err-taken.ensures.silent rules stands (entry_silent rules relay c.args.device.now m _ _ refl refl asks) in
    absurd cc

pub returns-then-not-taken-clause-response : goal.returns-then-not-taken-clause-response
returns-then-not-taken-clause-response g c = λ rules stands.
    let relay = c.args.relay.now in
    let d = c.args.device.now in
    let m = message_view c.args.message.now in
    let out = sym (c.in_ok-taken.ensures.taken rules stands) ∙ c.if-not-taken.true in
    let b = bars rules relay d m (barred_goes_on rules relay m out).0 (barred_goes_on rules relay m out).1 in record {
      walked = due_barred g.A.Asker.kept g.A.Asker.kept_of rules relay d m _ _ out (c.in_ok-taken.ensures.walked rules stands);
      write = c.requires.none ∙ sym b.write;
      place = subst (λ (write : Option Write). HasPlace d write) (sym c.requires.none) tt;
    }

pub returns-in_err-goes_on-clause-silent : goal.returns-in_err-goes_on-clause-silent
returns-in_err-goes_on-clause-silent g c = λ rules stands asks sends.
    let relay = c.args.relay.now in
    let m = message_view c.args.message.now in
    let taken = sym (c.in_ok-taken.ensures.taken rules stands) ∙ c.if-not-taken.false in
    let silent = judged_silent rules relay c.args.device.now m _ _ refl refl taken asks sends in
    let ok = c.in_err-goes_on.ensures.silent silent.0 (cast_silent rules relay m silent.0 silent.1).1 in
    absurd cc

pub returns-then-not-goes_on-clause-response : goal.returns-then-not-goes_on-clause-response
returns-then-not-goes_on-clause-response g c = λ rules stands.
    let relay = c.args.relay.now in
    let d = c.args.device.now in
    let m = message_view c.args.message.now in
    let off = sym c.in_ok-goes_on.ensures.goes_on ∙ c.if-not-goes_on.true in
    let s = stops rules relay d m off in record {
      walked = due_stopped g.A.Asker.kept g.A.Asker.kept_of g.met.A.Asker.kept_both rules relay d m _ _ _ off
          (c.in_ok-taken.ensures.walked rules stands) (c.in_ok-goes_on.ensures.walked rules (c.in_ok-taken.ensures.stays rules stands));
      write = c.requires.none ∙ sym s.write;
      place = subst (λ (write : Option Write). HasPlace d write) (sym c.requires.none) tt;
    }

pub returns-in_err-add_served-clause-silent : goal.returns-in_err-add_served-clause-silent
returns-in_err-add_served-clause-silent g c = λ rules stands asks sends.
    let relay = c.args.relay.now in
    let m = message_view c.args.message.now in
    let on = sym c.in_ok-goes_on.ensures.goes_on ∙ c.if-not-goes_on.false in
    let taken = sym (c.in_ok-taken.ensures.taken rules stands) ∙ c.if-not-taken.false in
    let silent = served_silent rules relay c.args.device.now m on (admitted_on rules relay m on taken) asks sends in
    let then = c.in_ok-goes_on.ensures.stays rules (c.in_ok-taken.ensures.stays rules stands) in
    let d = c.args.device.now in
    let ok = c.in_err-add_served.ensures.silent rules then (ap (λ (f : Format). message_asks rules f d m) c.format.ensures ∙ silent.0)
    (ap (λ (f : Format). message_sends rules f d m) c.format.ensures ∙ silent.1) in
    absurd cc

pub returns-clause-response : goal.returns-clause-response
returns-clause-response g c = λ rules stands.
    let relay = c.args.relay.now in
    let d = c.args.device.now in
    let m = message_view c.args.message.now in
    let on = sym c.in_ok-goes_on.ensures.goes_on ∙ c.if-not-goes_on.false in
    let taken = sym (c.in_ok-taken.ensures.taken rules stands) ∙ c.if-not-taken.false in
    let admitted = admitted_on rules relay m on taken in
    let entered = c.in_ok-taken.ensures.stays rules stands in
    let then = c.in_ok-goes_on.ensures.stays rules entered in
    let all = goes rules relay d m on admitted in record {
      walked = due_taken g.A.Asker.kept g.A.Asker.kept_of g.met.A.Asker.kept_both rules relay d m _ _ _ _ on admitted
          (c.in_ok-taken.ensures.walked rules stands) (c.in_ok-goes_on.ensures.walked rules entered)
          (subst (λ (f : Format). IsWalked g.A.Asker.kept g.A.Asker.kept_of rules (message_response rules f d m) c.add_passed.new.turn c.add_served.new.turn) c.format.ensures
          (c.in_ok-add_served.ensures.walked rules then));
      write = c.in_ok-add_served.ensures.write rules then ∙ ap (λ (f : Format). message_change rules f d m) c.format.ensures ∙ sym all.write;
      place = c.in_ok-add_served.ensures.place;
    }
