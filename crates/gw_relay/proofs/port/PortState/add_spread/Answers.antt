use Rattle.std.proofs.Common.{◌∙◌, sym, ap, List, ◌++◌, append_assoc, Some, None}
use Rattle.std.proofs.lemmas.List.{append-nil}
use Rattle.std.proofs.lemmas.Result.{on_ok_weaker}
use Rattle.gw_relay.specs.Sends.{Sending, sendings_of}
use Rattle.gw_relay.proofs.Spreading.{spread_both}
use Rattle.gw_relay.proofs.port.PortState.add_spread.Goals as goal

pub returns-in-Some : goal.returns-in-Some
returns-in-Some c =
    let sends = c.args.sends.now in
    let first = sendings_of c.to_one.result in
    let stays = c.in_ok-elsewhere.ensures.stays in
    let second = sendings_of c.in-Some.forwarded in
    let both = spread_both c.args.self.now c.args.npdu c.into_broadcast.result.items c.npdu-2.result.now c.to_one.result
    (Some c.in-Some.forwarded) c.npdu-2.ensures.most c.to_one.ensures.port c.to_one.ensures.targets c.to_one.ensures.octets
    c.into_broadcast.ensures.octets c.npdu-2.ensures.npdu (rw c.in-Some.is at c.in_ok-elsewhere.ensures.batch) in
    on_ok_weaker c.push-in-Some.result
    (λ pushed. pushed ∙ ap (λ (s : List Sending). s ++ second) c.in_ok-push.ensures.ok ∙ ap (λ (s : List Sending). (s ++ first) ++ second) stays ∙ append_assoc sends first second
    ∙ ap (λ (s : List Sending). sends ++ s) both) c.push-in-Some.ensures.ok

pub returns-in-None : goal.returns-in-None
returns-in-None c =
    let both = spread_both c.args.self.now c.args.npdu c.into_broadcast.result.items c.npdu-2.result.now c.to_one.result
    None c.npdu-2.ensures.most c.to_one.ensures.port c.to_one.ensures.targets c.to_one.ensures.octets
    c.into_broadcast.ensures.octets c.npdu-2.ensures.npdu (rw c.in-None.is at c.in_ok-elsewhere.ensures.batch) in
    c.in_ok-push.ensures.ok ∙ ap (λ (s : List Sending). s ++ sendings_of c.to_one.result) c.in_ok-elsewhere.ensures.stays
    ∙ ap (λ (s : List Sending). c.args.sends.now ++ s) (sym (append-nil (sendings_of c.to_one.result)) ∙ both)
