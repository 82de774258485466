use Rattle.std.proofs.Common.{◌∙◌, ℕ, List, ap, arith, length}
use Rattle.gw_addr.specs.declared.bip.BipAddr.{BipAddr}
use Rattle.gw_script.specs.Text.{send_lines}
use Rattle.gw_replay.proofs.shown.append_batch.Goals as goal

pub returns-clause-room : goal.returns-clause-room
returns-clause-room c = λ room.
    let batch = c.args.batch.now in
    let same = ap (λ (port : ℕ). length (send_lines port c.targets.result.now c.octets.result.now)) c.port.ensures
    ∙ ap (λ (targets : List BipAddr). length (send_lines batch.port targets c.octets.result.now)) c.targets.ensures
    ∙ ap (λ (octets : List ℕ). length (send_lines batch.port batch.targets octets)) c.octets.ensures in
    c.append_sends_to.ensures.room (omega (arith, room, same))
