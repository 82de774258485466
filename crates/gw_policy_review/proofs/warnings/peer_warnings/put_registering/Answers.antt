use Rattle.gw_policy_review.specs.warnings.Warnings.{peers_lines}
use Rattle.gw_policy_review.proofs.warnings_lemmas.Lines.{item_failed, item_step, lines_end, lines_start}
use Rattle.gw_policy_review.proofs.warnings.peer_warnings.put_registering.Goals as goal

pub loop-place-init : goal.loop-place-init
loop-place-init c = lines_start (peers_lines c.args.format c.args.rules.now) c.args.out.now

pub returns-in_err-put_peers : goal.returns-in_err-put_peers
returns-in_err-put_peers c =
    item_failed _ c.from_residual.result (peers_lines c.args.format c.args.rules.now) c.args.ports.now c.loop-place.place c.index-ports-place.result c.args.out.now c.loop-place.out
    c.put_peers.new.out c.index-ports-place.is c.from_residual.ensures.0 c.loop-place-test.true c.loop-place.invariant (rw c.as_slice.ensures.peers at c.in_err-put_peers.ensures)

pub loop-place-preserved : goal.loop-place-preserved
loop-place-preserved c =
    item_step _ (peers_lines c.args.format c.args.rules.now) c.args.ports.now c.loop-place.place c.index-ports-place.result c.args.out.now c.loop-place.out c.put_peers.new.out c.index-ports-place.is c.loop-place-test.true
    c.loop-place.invariant (rw c.as_slice.ensures.peers at c.in_ok-put_peers.ensures)

pub returns : goal.returns
returns c =
    lines_end _ (peers_lines c.args.format c.args.rules.now) c.args.ports.now c.loop-place.place c.args.out.now c.loop-place.out c.loop-place-test.false c.loop-place.invariant
