use Rattle.gw_program_vectors.proofs.DeedLemmas.{remembered}
use Rattle.gw_program_vectors.proofs.mem_disk.MemDisk.remember.Goals as goal

pub returns-else-is_err : goal.returns-else-is_err
returns-else-is_err c =
    let pushed = rw c.if-is_err.ensures.negation at c.push.ensures.items in
    remembered c.args.self.now.forgot c.args.self.now.deeds.items c.push.new.self.items c.args.deed pushed
