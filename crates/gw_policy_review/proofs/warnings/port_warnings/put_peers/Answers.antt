use Rattle.gw_policy_review.specs.warnings.Warnings.{peer_lines}
use Rattle.gw_policy_review.proofs.warnings_lemmas.Lines.{lines_end, lines_failed, lines_start, lines_step}
use Rattle.gw_policy_review.proofs.warnings.port_warnings.put_peers.Goals as goal

pub loop-index-init : goal.loop-index-init
loop-index-init c = lines_start (peer_lines c.args.at.now.ports.now c.args.at.now.place c.args.at.now.port.now) c.args.out.now

pub returns-in_err-put_peer : goal.returns-in_err-put_peer
returns-in_err-put_peer c =
    lines_failed _ c.from_residual.result (peer_lines c.args.at.now.ports.now c.args.at.now.place c.args.at.now.port.now) c.args.peers.now c.loop-index.index _ c.args.out.now c.loop-index.out
    c.put_peer.new.out c.from_residual.ensures.0 c.loop-index-test.true c.loop-index.invariant c.in_err-put_peer.ensures

pub loop-index-preserved : goal.loop-index-preserved
loop-index-preserved c =
    lines_step _ (peer_lines c.args.at.now.ports.now c.args.at.now.place c.args.at.now.port.now) c.args.peers.now c.loop-index.index _ c.args.out.now c.loop-index.out c.put_peer.new.out c.loop-index-test.true
    c.loop-index.invariant c.in_ok-put_peer.ensures

pub returns : goal.returns
returns c =
    lines_end _ (peer_lines c.args.at.now.ports.now c.args.at.now.place c.args.at.now.port.now) c.args.peers.now c.loop-index.index c.args.out.now c.loop-index.out c.loop-index-test.false c.loop-index.invariant
