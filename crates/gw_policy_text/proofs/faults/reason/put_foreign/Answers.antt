use Rattle.std.proofs.Common.{codes}
use Rattle.gw_policy_text.specs.faults.Wanted.{single_words}
use Rattle.gw_policy_text.proofs.faults_lemmas.Appending.{two}
use Rattle.gw_policy_text.proofs.faults.reason.put_foreign.Goals as goal

pub returns : goal.returns
returns c =
    two c.put_single.result c.args.line.now.items c.extend_from_slice.new.self.items c.put_single.new.line.items (codes " has an item that") (single_words c.args.fault c.args.of)
    c.in_ok-extend_from_slice.ensures.items c.put_single.ensures
