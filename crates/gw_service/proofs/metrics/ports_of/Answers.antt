use Rattle.std.proofs.Common.{◌≡◌, ◌∙◌, [], ◌∷◌, ◌++◌, length, arith, ap, get_or}
use Rattle.gw_notices.specs.declared.metrics.counts.PortCounts.{PortCounts}
use Rattle.gw_relay.specs.declared.port.PortState.{PortState}
use Rattle.gw_service.specs.Metrics.{counts_from, port_counts}
use Rattle.gw_service.proofs.PortLemmas.{counts_more}
use Rattle.gw_service.proofs.metrics.ports_of.Goals as goal

pub loop-place-init : goal.loop-place-init
unfolding counts_from
loop-place-init c = record { counted = c.new-counts.ensures; len = ap length c.new-counts.ensures }

pub loop-place-preserved : goal.loop-place-preserved
loop-place-preserved c =
    let states = c.args.ports.now in
    let place = c.loop-place.place in
    let state = c.index-ports-place.result in
    let then : c.push.new.self.items ≡ c.loop-place.counts.items ++ port_counts c.args.report.now place (get_or states place state) ∷ [] =
    c.push.ensures.items
    ∙ ap (λ (p : PortCounts). c.loop-place.counts.items ++ p ∷ []) c.port_counts.ensures
    ∙ ap (λ (s : PortState). c.loop-place.counts.items ++ port_counts c.args.report.now place s ∷ []) c.index-ports-place.is in
    record {
      counted = counts_more c.args.report.now states place state c.loop-place.counts.items c.push.new.self.items c.loop-place-test.true
          c.loop-place.invariant.counted then;
      len = omega (arith, c.push.ensures.len, c.loop-place.invariant.len);
    }
