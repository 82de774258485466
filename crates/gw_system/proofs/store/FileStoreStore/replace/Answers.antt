use Rattle.std.proofs.Common.{ap}
use Rattle.gw_system.proofs.StoreLemmas.{put_err, put_ok}
use Rattle.gw_system.proofs.store.FileStoreStore.replace.Goals as goal
use Rattle.gw_system.specs.Store.{StoreFile}

pub returns-clause-ok : goal.returns-clause-ok
returns-clause-ok g c =
    put_ok c.args.self.now.kind c.args.self.now.name c.put.new.self.name c.args.self.now.beside c.args.octets.now c.put.result
    (g.D.Disk.changes c.args.self.now.disk) (g.D.Disk.changes c.put.new.self.disk)
    (ap (λ (s : StoreFile g.row.D.Denot). s.name) c.put.ensures.same) c.put.ensures.put

pub returns-clause-err : goal.returns-clause-err
returns-clause-err g c =
    put_err c.args.self.now.kind c.args.self.now.name c.put.new.self.name c.args.self.now.beside c.args.octets.now c.put.result
    (g.D.Disk.changes c.args.self.now.disk) (g.D.Disk.changes c.put.new.self.disk)
    (ap (λ (s : StoreFile g.row.D.Denot). s.name) c.put.ensures.same) c.put.ensures.put
