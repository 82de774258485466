use Rattle.std.proofs.Common.{◌≡◌, ◌+◌, ◌<◌, ◌∷◌, ◌++◌, [], ℕ, List, length, map, take, get_or, ap, ◌∙◌, arith, refl}
use Rattle.std.proofs.Common.{subst}
use Rattle.std.specs.Result.{is_ok}
use Rattle.std.proofs.lemmas.Grind.{common_steps}
use Rattle.std.proofs.lemmas.List.{length-map, length-take-le, map-append, take_more}
use Rattle.gw_addr.specs.declared.bip.BipAddr.{BipAddr}
use Rattle.gw_relay.specs.Sends.{Sending, sending, sendings}
use Rattle.gw_wire.specs.Wire.{Records, send_call}
use Rattle.gw_turns.specs.ServeTurn.{counted_send}
use Rattle.gw_turns.proofs.ServeLemmas.{as_try, failed_once, none_tried, tried_counted, tried_more}
use Rattle.gw_turns.proofs.serving.try_batch.Goals as goal

pub loop-target-init : goal.loop-target-init
loop-target-init g c = record {
  tried = none_tried (g.W.Wire.calls c.args.wire.now) c.args.served.now (g.W.Wire.failure_count c.args.wire.now);
  ports = refl;
  behind = refl;
}

pub count_send-requires : goal.count_send-requires
count_send-requires g c =
    let batch = c.args.batch.now in
    let targets = c.targets-target-items.result.now in
    let i = c.loop-target.target-index in
    omega (
      arith,
      tried_counted _ _ _ _ _ _ _ c.loop-target.invariant.tried,
      length-map (take i targets) (sending batch.port batch.octets),
      length-take-le i targets (omega (arith, c.loop-target-test.true)),
      length-map batch.targets (sending batch.port batch.octets),
      ap length c.targets-target-items.ensures,
      c.loop-target-test.true,
      c.requires.counts,
    )

pub loop-target-preserved : goal.loop-target-preserved
loop-target-preserved g c =
    let wire = g.W.Wire in
    let batch = c.args.batch.now in
    let targets = c.targets-target-items.result.now in
    let i = c.loop-target.target-index in
    let to : BipAddr = get_or targets i (record { ip = []; udp = 0 }) in
    let one = sending batch.port batch.octets to in
    let given : Sending = record { port = c.port.result; to = to; octets = c.octets.result.now } in
    let same : given ≡ one = ap (λ (port : ℕ). record given { port = port }) c.port.ensures
    ∙ ap (λ (octets : List ℕ). record one { octets = octets }) c.octets.ensures in
    let so_far = c.loop-target.invariant in
    let recorded = wire.calls c.loop-target.wire in
    let records = wire.calls c.send-sent.new.self in
    let answer = c.send-sent.result in
    let success = is_ok answer in
    let called : Records recorded records (send_call answer one ∷ []) =
    subst (λ (x : Sending). Records recorded records (send_call answer x ∷ [])) same c.send-sent.ensures.calls in
    let s = c.loop-target.served in
    let counted : c.count_send.new.self ≡ counted_send s batch.port success =
    c.count_send.ensures ∙ ap (λ (port : ℕ). counted_send s port c.is_ok.result) c.port-in-loop-target.ensures
    ∙ ap (counted_send s batch.port) c.is_ok.ensures.value in
    let failed = wire.failure_count c.loop-target.wire in
    let inside : i < length targets = omega (arith, c.loop-target-test.true) in
    let split : sendings batch.port (take (i + 1) targets) batch.octets ≡ sendings batch.port (take i targets) batch.octets ++ one ∷ [] =
    ap (map (sending batch.port batch.octets)) (take_more targets i (record { ip = []; udp = 0 }) inside)
    ∙ map-append (sending batch.port batch.octets) (take i targets) (to ∷ []) in
    record {
      tried = tried_more _ _ _ recorded records _ s _ _ _ _ one success so_far.tried split
          (subst (λ x. Records recorded records (x ∷ [])) (as_try answer one) called) counted
          (c.send-sent.ensures.failures ∙ ap (λ (n : ℕ). failed + n) (failed_once answer));
      ports = c.send-sent.ensures.ports ∙ so_far.ports;
      behind = c.send-sent.ensures.behind ∙ so_far.behind;
    }

pub returns-clause-tried : goal.returns-clause-tried
returns-clause-tried g c = grind (arith, common_steps)
