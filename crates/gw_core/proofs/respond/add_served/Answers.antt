use Rattle.std.proofs.Common.{◌∙◌, ◌++◌, List, ap, sym}
use Rattle.std.specs.Option.{option_map}
use Rattle.gw_device.specs.Response.{answer_view}
use Rattle.gw_relay.specs.Message.{message_view}
use Rattle.gw_relay.specs.Sends.{Sending}
use Rattle.gw_rules.specs.Ask.{Ask}
use Rattle.gw_core.specs.Effects.{answer_sends}
use Rattle.gw_core.proofs.DenialLemmas.{asks_put}
use Rattle.gw_core.proofs.RespondLemmas.{sends_put}
use Rattle.gw_core.proofs.SilenceLemmas.{none_mapped, silent_message}
use Rattle.gw_core.proofs.TurnLemmas.{or_none}
use Rattle.gw_core.proofs.respond.add_served.Goals as goal

pub returns-clause-walked : goal.returns-clause-walked
returns-clause-walked g c = λ rules stands.
    let format = c.args.format in
    let d = c.args.device.now in
    let m = message_view c.args.message.now in
    let network = c.network_of-network.result in
    let context = c.context_of-context.result in
    let octets = c.in-Some.apdu.now in
    let its = c.network_of-network.ensures in
    let given = answer_sends network m (option_map answer_view c.in_ok-answer.field-0.answer) in
    let answered = (c.in_ok-answer.ensures.served rules stands).answer in record {
      sends = c.in_ok-add_answer.ensures.sends
          ∙ ap (λ (l : List Sending). l ++ given) (c.keep.ensures.stays ∙ c.spare-spare.ensures.stays) ∙ ap (λ (l : List Sending). c.args.turn.now.sends ++ l)
          (sends_put rules format d m network context octets _ its c.in-Some.ensures c.context_of-context.ensures.context answered);
      verdicts = c.in_ok-answer.ensures.asks rules stands
          ∙ ap (λ (l : List Ask). g.A.Asker.kept c.args.turn.now.asker ++ g.A.Asker.kept_of rules l)
          (sym (asks_put rules format d m network context octets its c.in-Some.ensures c.context_of-context.ensures.context));
      change = sym (or_none c.args.turn.now.change);
    }

pub returns-in_err-answer-clause-silent : goal.returns-in_err-answer-clause-silent
returns-in_err-answer-clause-silent g c = λ rules stands asks sends.
    let silent = silent_message rules c.args.format c.args.device.now
    (message_view c.args.message.now) c.network_of-network.result c.context_of-context.result c.in-Some.apdu.now
    c.network_of-network.ensures c.in-Some.ensures c.context_of-context.ensures.context c.context_of-context.ensures.room asks sends in
    let ok = c.in_err-answer.ensures.silent rules silent.0 silent.1 in
    absurd cc

pub returns-in_err-add_answer-clause-silent : goal.returns-in_err-add_answer-clause-silent
returns-in_err-add_answer-clause-silent g c = λ rules stands asks sends.
    let silent = silent_message rules c.args.format c.args.device.now
    (message_view c.args.message.now) c.network_of-network.result c.context_of-context.result c.in-Some.apdu.now
    c.network_of-network.ensures c.in-Some.ensures c.context_of-context.ensures.context c.context_of-context.ensures.room asks sends in
    let answered = (c.in_ok-answer.ensures.served rules stands).answer ∙ silent.1 in
    let ok = c.in_err-add_answer.ensures.silent (none_mapped _ c.in_ok-answer.field-0.answer answered) in
    absurd cc
