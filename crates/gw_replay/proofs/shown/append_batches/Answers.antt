use Rattle.std.proofs.Common.{ap, length, arith, take}
use Rattle.std.specs.List.{flat_map}
use Rattle.std.proofs.lemmas.List.{length-append}
use Rattle.gw_replay.specs.Shown.{batch_text}
use Rattle.gw_script.proofs.Lists.{front_fits}
use Rattle.gw_replay.proofs.shown.append_batches.Goals as goal

pub returns-in_err-append_batch-clause-room : goal.returns-in_err-append_batch-clause-room
returns-in_err-append_batch-clause-room c = λ room.
    let batches = c.args.batches.now in
    let i = c.loop-batch.batch-index in
    let before = c.loop-batch.invariant in
    let fits = front_fits batch_text batches i c.batch-item.result (omega (arith, c.loop-batch-test.true)) c.batch-item.is in
    let refused = c.in_err-append_batch.ensures.room
    (omega (
      arith,
      room,
      fits,
      before.capacity,
      ap length before.items,
      length-append c.args.out.now.items
          (flat_map batch_text (take i batches)),
    )) in
    absurd cc
