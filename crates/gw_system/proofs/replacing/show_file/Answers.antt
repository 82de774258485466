use Rattle.std.proofs.Common.{List, ℕ, string_bytes, subst}
use Rattle.gw_system.proofs.ReplacingLemmas.{clears_shown}
use Rattle.gw_system.proofs.replacing.show_file.Goals as goal
use Rattle.gw_system.specs.Disk.{Does, Leads, Removed}

pub returns-in-Err : goal.returns-in-Err
returns-in-Err g c =
    let p = g.D.Disk.changes c.args.disk.now in
    let q = g.D.Disk.changes c.show.new.disk in
    let r = g.D.Disk.changes c.remove.new.self in
    let removed = subst (λ (b : List ℕ). Leads (Does {T = Unit {0}} (Removed b) c.remove.result) q r) c.deref.ensures c.remove.ensures in
    clears_shown (string_bytes c.args.file.now.name) (string_bytes c.args.file.now.beside) c.args.access c.args.octets.now
    c.in-Err.fault c.in-Err.fault c.remove.result p q r c.args.file.now.apart c.in-Err.ensures removed
