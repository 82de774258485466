use Rattle.std.proofs.Common.{◌∙◌, ap, sym}
use Rattle.gw_frames.specs.bvll.Bvll.{view}
use Rattle.gw_core.specs.Asks.{asks_for}
use Rattle.gw_core.specs.Effects.{sends_for}
use Rattle.gw_core.specs.Receive.{admit}
use Rattle.gw_core.specs.internal.View.{received_view}
use Rattle.gw_core.specs.declared.receive.Received.{Received}
use Rattle.gw_core.proofs.SilenceLemmas.{placed_silent}
use Rattle.gw_core.proofs.respond.respond.Goals as goal

pub returns-in_err-link-in-Managed-clause-silent : goal.returns-in_err-link-in-Managed-clause-silent
returns-in_err-link-in-Managed-clause-silent g c = λ rules stands asks sends.
    let m = c.in-Managed.message in
    let relay = c.args.relay.now in
    let device = c.args.device.now in
    let is = ap (λ (r : Received). admit rules relay (received_view r)) c.in-Managed.is in
    let silent = placed_silent rules relay device m.here.now m.from (view m.frame.now)
    (sym (ap (asks_for rules relay device) is) ∙ asks) (sym (ap (sends_for rules relay device) is) ∙ sends) in
    let ok = c.in_err-link-in-Managed.ensures.silent silent.0 silent.1 in
    absurd cc
