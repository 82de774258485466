use Rattle.std.proofs.Common.{codes}
use Rattle.gw_policy_text.proofs.faults_lemmas.Appending.{two}
use Rattle.gw_policy_text.proofs.faults.reason.put_twice.Goals as goal

pub returns : goal.returns
returns c =
    two c.put_type.result c.args.line.now.items c.extend_from_slice.new.self.items c.put_type.new.line.items (codes " is named twice") _
    c.in_ok-extend_from_slice.ensures.items c.put_type.ensures
