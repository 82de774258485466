use Rattle.std.proofs.Common.{ap, length, arith, take}
use Rattle.std.proofs.lemmas.List.{length-append}
use Rattle.gw_replay.specs.Shown.{denial_line, denials_text}
use Rattle.gw_script.proofs.Lists.{front_fits}
use Rattle.gw_replay.proofs.shown.append_denials.Goals as goal

pub returns-in_err-append_denial-clause-room : goal.returns-in_err-append_denial-clause-room
returns-in_err-append_denial-clause-room c = λ room.
    let denials = c.args.denials.now in
    let i = c.loop-denial.denial-index in
    let before = c.loop-denial.invariant in
    let fits = front_fits denial_line denials i c.denial-item.result (omega (arith, c.loop-denial-test.true)) c.denial-item.is in
    let refused = c.in_err-append_denial.ensures.room
    (omega (arith, room, fits, before.capacity, ap length before.items, length-append c.args.out.now.items (denials_text (take i denials))))
    in
    absurd cc
