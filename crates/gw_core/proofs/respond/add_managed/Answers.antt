use Rattle.std.proofs.Common.{◌∙◌, ap, sym, List, [], ◌++◌}
use Rattle.gw_relay.specs.Manage.{manage_response, manage_steps}
use Rattle.gw_relay.specs.Message.{message_view}
use Rattle.gw_relay.specs.Steps.{Step, asks_of, sends_of}
use Rattle.gw_relay.specs.Sends.{Sending}
use Rattle.gw_core.proofs.PlainLemmas.{no_steps, nothing_learned, unannounced}
use Rattle.gw_core.proofs.TurnLemmas.{walked_none}
use Rattle.gw_core.proofs.respond.add_managed.Goals as goal

pub returns-then-is_apdu-clause-walked : goal.returns-then-is_apdu-clause-walked
returns-then-is_apdu-clause-walked g c = λ rules stands.
    let relay = c.args.relay.now in
    let m = message_view c.args.message.now in
    let is = sym c.is_apdu.ensures ∙ c.if-is_apdu.true in
    walked_none g.A.Asker.kept g.A.Asker.kept_of g.met.A.Asker.kept_none rules (manage_response rules relay m) _ (ap asks_of (no_steps relay m is))
    (ap (λ (sends : List Sending). sends_of rules (manage_steps relay m) ++ sends) (unannounced rules relay m is)
    ∙ ap (λ (steps : List Step). sends_of rules steps ++ []) (no_steps relay m is)) (nothing_learned rules relay m is)
