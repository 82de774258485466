use Rattle.std.proofs.Common.{◌∙◌, ap, sym, subst, Result, Some}
use Rattle.gw_addr.specs.Reading.{Gives}
use Rattle.gw_frames.specs.bvll.Bvll.{view as frame_view}
use Rattle.gw_frames.specs.npdu.Npdu.{view as npdu_view}
use Rattle.gw_frames.specs.declared.npdu.fault.NpduFault.{NpduFault}
use Rattle.gw_frames.specs.declared.npdu.npdu.Npdu.{Npdu}
use Rattle.gw_core.specs.internal.Frame.{frame_npdu}
use Rattle.gw_core.proofs.HeardLemmas.{claimed_as, claimed_drop, heard_as, heard_drop, not_read_drop, unheard_as}
use Rattle.gw_core.proofs.receive.receive_payload.Goals as goal

pub returns-in-Ok-clause-received : goal.returns-in-Ok-clause-received
returns-in-Ok-clause-received c =
    let frame = frame_view c.args.frame.now in
    let read = subst (λ (r : Result Npdu NpduFault). Gives npdu_view r (frame_npdu frame)) c.in-Ok.is c.requires in
    heard_as c.args.own.now.ports.now c.args.own.now.device c.args.here.now c.args.from frame (npdu_view c.in-Ok.npdu) read (sym c.are_claimed.ensures ∙ c.if-not-are_claimed.true)

pub returns-in-Ok-clause-drop : goal.returns-in-Ok-clause-drop
returns-in-Ok-clause-drop c =
    let frame = frame_view c.args.frame.now in
    let read = subst (λ (r : Result Npdu NpduFault). Gives npdu_view r (frame_npdu frame)) c.in-Ok.is c.requires in
    heard_drop c.args.own.now.ports.now c.args.own.now.device c.args.here.now c.args.from frame (npdu_view c.in-Ok.npdu) read (sym c.are_claimed.ensures ∙ c.if-not-are_claimed.true)

pub returns-in-Ok-2-clause-received : goal.returns-in-Ok-2-clause-received
returns-in-Ok-2-clause-received c =
    let frame = frame_view c.args.frame.now in
    let read = subst (λ (r : Result Npdu NpduFault). Gives npdu_view r (frame_npdu frame)) c.in-Ok.is c.requires in
    claimed_as c.args.own.now.ports.now c.args.own.now.device c.args.here.now c.args.from frame (npdu_view c.in-Ok.npdu) read (sym c.are_claimed.ensures ∙ c.if-not-are_claimed.false)

pub returns-in-Ok-2-clause-drop : goal.returns-in-Ok-2-clause-drop
returns-in-Ok-2-clause-drop c =
    let frame = frame_view c.args.frame.now in
    let read = subst (λ (r : Result Npdu NpduFault). Gives npdu_view r (frame_npdu frame)) c.in-Ok.is c.requires in
    claimed_drop c.args.own.now.ports.now c.args.own.now.device c.args.here.now c.args.from frame (npdu_view c.in-Ok.npdu) read (sym c.are_claimed.ensures ∙ c.if-not-are_claimed.false)

pub returns-in-Err-clause-received : goal.returns-in-Err-clause-received
returns-in-Err-clause-received c =
    let frame = frame_view c.args.frame.now in
    let read = subst (λ (r : Result Npdu NpduFault). Gives npdu_view r (frame_npdu frame)) c.in-Err.is c.requires in
    unheard_as c.args.own.now.ports.now c.args.own.now.device c.args.here.now c.args.from frame c.in-Err.field-0 read

pub returns-in-Err-clause-drop : goal.returns-in-Err-clause-drop
returns-in-Err-clause-drop c =
    let frame = frame_view c.args.frame.now in
    let read = subst (λ (r : Result Npdu NpduFault). Gives npdu_view r (frame_npdu frame)) c.in-Err.is c.requires in
    let why = ap Some c.unread_drop.ensures in
    why ∙ not_read_drop c.args.own.now.ports.now c.args.own.now.device c.args.here.now c.args.from frame c.in-Err.field-0 read
