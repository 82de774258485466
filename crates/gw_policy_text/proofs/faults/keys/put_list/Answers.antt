use Rattle.std.proofs.Common.{◌++◌, codes}
use Rattle.std.specs.List.{flat_map}
use Rattle.gw_policy_text.specs.faults.Keys.{one_more}
use Rattle.gw_policy_text.proofs.faults_lemmas.Appending.{two}
use Rattle.gw_policy_text.proofs.faults.keys.put_list.Goals as goal

pub returns : goal.returns
returns c =
    let others = flat_map one_more c.args.others.now in
    two c.put_others.result c.args.line.now.items c.extend_from_slice.new.self.items c.put_others.new.line.items (codes "; known keys here: ") (c.args.first.now ++ others)
    c.in_ok-extend_from_slice.ensures.items
    (two c.put_others.result c.extend_from_slice.new.self.items c.put_text.new.line.items c.put_others.new.line.items c.args.first.now others
    c.in_ok-put_text.ensures c.put_others.ensures)
