use Rattle.std.proofs.Common.{List, ℕ, Ok, Err, string_bytes, subst}
use Rattle.gw_system.proofs.ReplacingLemmas.{shows, unshown}
use Rattle.gw_system.proofs.replacing.show.Goals as goal
use Rattle.gw_system.specs.Disk.{Does, Leads, Renamed}
use Rattle.gw_system.specs.internal.Writing.{IsNewFile}

pub returns-in_err-_written : goal.returns-in_err-_written
returns-in_err-_written g c =
    let p = g.D.Disk.changes c.args.disk.now in
    let q = g.D.Disk.changes c.write_new.new.disk in
    let wrote = subst
    (λ (b : List ℕ). Leads (IsNewFile {T = g.row.D-File.Denot} b c.args.access c.args.octets.now (Err c.in_err-_written.field-0.0)) p q)
    c.deref.ensures c.in_err-_written.ensures.does in
    unshown g.row.D-File.Denot (string_bytes c.args.file.now.name) (string_bytes c.args.file.now.beside) c.args.access c.args.octets.now
    c.from_residual.result c.in_err-_written.field-0.0 p q c.args.file.now.apart c.from_residual.ensures.0 wrote

pub returns : goal.returns
returns g c =
    let p = g.D.Disk.changes c.args.disk.now in
    let q = g.D.Disk.changes c.write_new.new.disk in
    let r = g.D.Disk.changes c.rename.new.self in
    let wrote = subst
    (λ (b : List ℕ). Leads (IsNewFile {T = g.row.D-File.Denot} b c.args.access c.args.octets.now (Ok c.in_ok-_written._written)) p q)
    c.deref.ensures c.in_ok-_written.ensures.does in
    let from = subst (λ (b : List ℕ). Leads (Does {T = Unit {0}} (Renamed b c.deref-3.result.now) c.rename.result) q r) c.deref-2.ensures
    c.rename.ensures in
    let renamed = subst (λ (n : List ℕ). Leads (Does {T = Unit {0}} (Renamed (string_bytes c.args.file.now.beside) n) c.rename.result) q r)
    c.deref-3.ensures from in
    shows (string_bytes c.args.file.now.name) (string_bytes c.args.file.now.beside) c.args.access c.args.octets.now
    c.rename.result c.in_ok-_written._written p q r c.args.file.now.apart wrote renamed
