use Rattle.std.proofs.Common.{codes}
use Rattle.gw_addr.specs.Address.{text_of}
use Rattle.gw_policy_text.specs.faults.Wanted.{first_address, last_address}
use Rattle.gw_policy_text.proofs.faults_lemmas.Appending.{five}
use Rattle.gw_policy_text.proofs.faults_lemmas.Explanations.{appended}
use Rattle.gw_policy_text.proofs.faults.reason.put_every_port.Goals as goal

pub returns : goal.returns
returns c =
    five c.extend_from_slice-3.result c.args.line.now.items c.extend_from_slice.new.self.items c.put_first.new.line.items
    c.extend_from_slice-2.new.self.items c.put_last.new.line.items c.extend_from_slice-3.new.self.items (codes "; with every UDP port it is [\"")
    (text_of (first_address c.args.four c.args.bits)) (codes "\", \"") (text_of (last_address c.args.four c.args.bits)) (codes "\"]")
    c.in_ok-extend_from_slice.ensures.items c.in_ok-put_first.ensures c.in_ok-extend_from_slice-2.ensures.items c.in_ok-put_last.ensures
    (appended c.extend_from_slice-3.result c.put_last.new.line.items c.extend_from_slice-3.new.self.items (codes "\"]") c.extend_from_slice-3.ensures.items)
