use Rattle.std.proofs.Common.{codes}
use Rattle.gw_policy_text.specs.faults.Wanted.{due_words}
use Rattle.gw_policy_text.proofs.faults_lemmas.Appending.{two}
use Rattle.gw_policy_text.proofs.faults.reason.put_missing.Goals as goal

pub returns : goal.returns
returns c =
    two c.put_due.result c.args.line.now.items c.extend_from_slice.new.self.items c.put_due.new.line.items (codes "; it must be ") (due_words c.args.shape)
    c.in_ok-extend_from_slice.ensures.items c.put_due.ensures
