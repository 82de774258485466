use Rattle.gw_system.proofs.ReplacingLemmas.{create_failed, remove_failed, write_failed, written}
use Rattle.gw_system.proofs.replacing.write_new.Goals as goal

pub returns-in_err-remove-clause-does : goal.returns-in_err-remove-clause-does
returns-in_err-remove-clause-does g c =
    remove_failed c.args.name.now c.args.access c.args.octets.now c.from_residual.result c.in_err-remove.field-0.0
    (g.D.Disk.changes c.args.disk.now) (g.D.Disk.changes c.remove.new.self) c.from_residual.ensures.0 c.in_err-remove.ensures

pub returns-in_err-file-clause-does : goal.returns-in_err-file-clause-does
returns-in_err-file-clause-does g c =
    create_failed g.row.D-File.Denot c.args.name.now c.args.access c.args.octets.now c.from_residual-in_err-file.result
    c.in_ok-remove.field-0 c.in_err-file.field-0.0
    (g.D.Disk.changes c.args.disk.now) (g.D.Disk.changes c.remove.new.self) (g.D.Disk.changes c.create.new.self)
    c.from_residual-in_err-file.ensures.0 c.in_ok-remove.ensures c.in_err-file.ensures.does

pub returns-in_err-write-clause-does : goal.returns-in_err-write-clause-does
returns-in_err-write-clause-does g c =
    write_failed c.args.name.now c.args.access c.args.octets.now c.from_residual-in_err-write.result c.in_ok-remove.field-0
    c.in_ok-file.file c.in_err-write.field-0.0
    (g.D.Disk.changes c.args.disk.now) (g.D.Disk.changes c.remove.new.self) (g.D.Disk.changes c.create.new.self)
    (g.D.Disk.changes c.write.new.self)
    c.from_residual-in_err-write.ensures.0 c.in_ok-remove.ensures c.in_ok-file.ensures.does
    (c.in_err-write.ensures.does c.args.name.now c.in_ok-file.ensures.named)

pub returns-clause-does : goal.returns-clause-does
returns-clause-does g c =
    written c.args.name.now c.args.access c.args.octets.now c.write.new.file c.in_ok-remove.field-0 c.in_ok-write.field-0 c.in_ok-file.file
    (g.D.Disk.changes c.args.disk.now) (g.D.Disk.changes c.remove.new.self) (g.D.Disk.changes c.create.new.self)
    (g.D.Disk.changes c.write.new.self)
    c.in_ok-remove.ensures c.in_ok-file.ensures.does
    (c.in_ok-write.ensures.does c.args.name.now c.in_ok-file.ensures.named)
