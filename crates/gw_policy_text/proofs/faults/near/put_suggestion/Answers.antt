use Rattle.std.proofs.Common.{codes}
use Rattle.gw_policy_text.proofs.faults_lemmas.Appending.{two}
use Rattle.gw_policy_text.proofs.faults.near.put_suggestion.Goals as goal

pub returns : goal.returns
returns c =
    two c.put_text.result c.args.line.now.items c.extend_from_slice.new.self.items c.put_text.new.line.items (codes "; did you mean ") c.args.name.now
    c.in_ok-extend_from_slice.ensures.items c.put_text.ensures
