use Rattle.std.proofs.Common.{codes, ◌++◌, Option, OnOk, subst}
use Rattle.std.specs.Io.KnownBytes.{Appends}
use Rattle.gw_turns.proofs.ReportLemmas.{behind_one}
use Rattle.gw_turns.specs.Reports.{culprit_text, fresh}
use Rattle.gw_turns.specs.declared.tally.Culprit.{Culprit}
use Rattle.gw_turns.proofs.report.write_culprits.Goals as goal

pub returns-clause-ok : goal.returns-clause-ok
returns-clause-ok g c =
    let held = g.S.OctetSink.held in
    let t = c.args.tally.now in
    let seconds = c.args.seconds in
    let now = c.args.now in
    let r = c.write_culprit-3.result in
    let first = held c.args.sink.now in
    let one = held c.write_culprit.new.sink in
    let two = held c.write_culprit-2.new.sink in
    let last = held c.write_culprit-3.new.sink in
    let malformed = culprit_text (codes " malformed, last from ") t.malformed in
    let own = culprit_text (codes " of own network, last from ") t.own_network in
    let no_peer = culprit_text (codes " of no peer, last from ") t.no_peer in
    behind_one r first one last (malformed (fresh seconds now t.last.malformed))
    (own (fresh seconds now t.last.own_network) ++ no_peer (fresh seconds now t.last.no_peer))
    (subst (λ (x : Option Culprit). Appends first one (malformed x)) c.fresh-malformed.ensures c.in_ok-write_culprit.ensures.ok)
    (behind_one r one two last (own (fresh seconds now t.last.own_network)) (no_peer (fresh seconds now t.last.no_peer))
    (subst (λ (x : Option Culprit). Appends one two (own x)) c.fresh-own_network.ensures c.in_ok-write_culprit-2.ensures.ok)
    (subst (λ (x : Option Culprit). OnOk r (Appends two last (no_peer x))) c.fresh-no_peer.ensures c.write_culprit-3.ensures.ok))
