use Rattle.std.proofs.Common.{◌≡◌, ◌+◌, ◌<◌, ◌∷◌, ◌++◌, [], List, length, take, sym, ap, subst, ◌∙◌, arith, refl}
use Rattle.std.specs.List.{flat_map}
use Rattle.std.proofs.lemmas.List.{flat_map_more, take_more}
use Rattle.std.proofs.lemmas.List.Folds.{length-flat_map-take}
use Rattle.gw_relay.specs.Sends.{Batch, Sending, sendings_of}
use Rattle.gw_turns.specs.ServeTurn.{AreTried}
use Rattle.gw_turns.proofs.ServeLemmas.{none_tried, tried_along, tried_counted, tried_failures}
use Rattle.gw_turns.proofs.serving.try_sends.Goals as goal

pub loop-batch-init : goal.loop-batch-init
loop-batch-init g c = record {
  tried = none_tried (g.W.Wire.calls c.args.wire.now) c.args.served.now (g.W.Wire.failure_count c.args.wire.now);
  ports = refl;
  behind = refl;
}

pub try_batch-requires-clause-counts : goal.try_batch-requires-clause-counts
try_batch-requires-clause-counts g c =
    let given = c.batches-batch-items in
    let i = c.loop-batch.batch-index in
    let batch = c.batch-item.result in
    let room = length-flat_map-take sendings_of given.result.now i batch (omega (arith, c.loop-batch-test.true)) in
    omega (
      arith,
      tried_counted _ _ _ _ _ _ _ c.loop-batch.invariant.tried,
      room,
      ap (λ (b : Batch). length (sendings_of b)) c.batch-item.is,
      ap length given.ensures.all,
      given.ensures.few,
      c.requires.counts,
    )

pub try_batch-requires-clause-failures : goal.try_batch-requires-clause-failures
try_batch-requires-clause-failures g c =
    let given = c.batches-batch-items in
    let i = c.loop-batch.batch-index in
    let batch = c.batch-item.result in
    let room = length-flat_map-take sendings_of given.result.now i batch (omega (arith, c.loop-batch-test.true)) in
    omega (
      arith,
      tried_failures _ _ _ _ _ _ _ c.loop-batch.invariant.tried,
      room,
      ap (λ (b : Batch). length (sendings_of b)) c.batch-item.is,
      ap length given.ensures.all,
      given.ensures.few,
      c.requires.failures,
    )

pub loop-batch-preserved : goal.loop-batch-preserved
loop-batch-preserved g c =
    let wire = g.W.Wire in
    let batches = c.batches-batch-items.result.now in
    let i = c.loop-batch.batch-index in
    let batch = c.batch-item.result in
    let so_far = c.loop-batch.invariant in
    let inside : i < length batches = omega (arith, c.loop-batch-test.true) in
    let split : flat_map sendings_of (take (i + 1) batches) ≡ flat_map sendings_of (take i batches) ++ sendings_of batch =
    ap (flat_map sendings_of) (take_more batches i batch inside ∙ ap (λ (b : Batch). take i batches ++ b ∷ []) (sym c.batch-item.is))
    ∙ sym (flat_map_more sendings_of [] (take i batches) batch) in
    record {
      tried = subst (λ (l : List Sending). AreTried l (wire.calls c.args.wire.now) (wire.calls c.try_batch.new.wire) c.args.served.now
          c.try_batch.new.served (wire.failure_count c.args.wire.now) (wire.failure_count c.try_batch.new.wire)) (sym split)
          (tried_along _ _ _ _ _ _ _ _ _ _ _ so_far.tried c.try_batch.ensures.tried);
      ports = c.try_batch.ensures.ports ∙ so_far.ports;
      behind = c.try_batch.ensures.behind ∙ so_far.behind;
    }
