use Rattle.gw_policy_text.proofs.faults_lemmas.Appending.{two}
use Rattle.gw_policy_text.proofs.faults.reason.put_duplicate.Goals as goal

pub returns : goal.returns
returns c =
    two c.put_first_place.result c.args.line.now.items c.put_twice.new.line.items c.put_first_place.new.line.items _ _
    c.in_ok-put_twice.ensures c.put_first_place.ensures
