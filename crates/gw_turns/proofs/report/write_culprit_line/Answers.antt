use Rattle.std.proofs.Common.{codes, ◌≡◌, ◌++◌, List, ℕ, rules, subst}
use Rattle.std.specs.Io.KnownBytes.{Appends}
use Rattle.gw_addr.specs.Address.{text_of}
use Rattle.gw_turns.proofs.ReportLemmas.{behind_one}
use Rattle.gw_turns.specs.Reports.{field}
use Rattle.gw_turns.proofs.report.write_culprit_line.Goals as goal

pub returns-clause-ok : goal.returns-clause-ok
returns-clause-ok g c =
    let held = g.S.OctetSink.held in
    let who = c.args.culprit in
    let r = c.write_whole-2.result in
    let one = held c.write_field.new.sink in
    let two = held c.write_whole.new.sink in
    let three = held c.write_address.new.sink in
    let four = held c.write_field-2.new.sink in
    let last = held c.write_whole-2.new.sink in
    let spelled : c.as_bytes.result.now ≡ c.args.reason.now = search rules in
    let of_port = field (codes " on port ") who.port ++ codes "\n" in
    let of_sender = text_of who.sender ++ of_port in
    behind_one r (held c.args.sink.now) one last (field (codes "dropped: ") c.args.count) (c.args.reason.now ++ of_sender)
    c.in_ok-write_field.ensures.ok
    (behind_one r one two last c.args.reason.now of_sender
    (subst (λ (text : List ℕ). Appends one two text) spelled c.in_ok-write_whole.ensures.ok)
    (behind_one r two three last (text_of who.sender) of_port c.in_ok-write_address.ensures.ok
    (behind_one r three four last (field (codes " on port ") who.port) (codes "\n") c.in_ok-write_field-2.ensures.ok
    c.write_whole-2.ensures.ok)))
