use Rattle.std.proofs.Common.{List, ℕ, Ok, Err, string_bytes, subst}
use Rattle.gw_system.proofs.ReplacingLemmas.{settles, unmoved, unsynced, unwritten}
use Rattle.gw_system.proofs.replacing.settle.Goals as goal
use Rattle.gw_system.specs.Disk.{Does, DoesTo, FolderSynced, Leads, Renamed, Synced}
use Rattle.gw_system.specs.internal.Writing.{IsNewFile}

pub returns-in_err-written : goal.returns-in_err-written
returns-in_err-written g c =
    let p = g.D.Disk.changes c.args.disk.now in
    let q = g.D.Disk.changes c.write_new.new.disk in
    let wrote = subst
    (λ (b : List ℕ). Leads (IsNewFile {T = g.row.D-File.Denot} b c.args.access c.args.octets.now (Err c.in_err-written.field-0.0)) p q)
    c.deref.ensures c.in_err-written.ensures.does in
    unwritten g.row.D-File.Denot (string_bytes c.args.file.now.name) (string_bytes c.args.file.now.beside) c.args.access c.args.octets.now
    c.from_residual.result c.in_err-written.field-0.0 p q c.args.file.now.apart c.from_residual.ensures.0 wrote

pub returns-in_err-sync : goal.returns-in_err-sync
returns-in_err-sync g c =
    let p = g.D.Disk.changes c.args.disk.now in
    let q = g.D.Disk.changes c.write_new.new.disk in
    let r = g.D.Disk.changes c.sync.new.self in
    let wrote = subst
    (λ (b : List ℕ). Leads (IsNewFile {T = g.row.D-File.Denot} b c.args.access c.args.octets.now (Ok c.in_ok-written.written)) p q)
    c.deref.ensures c.in_ok-written.ensures.does in
    let synced = subst (λ (b : List ℕ). Leads (DoesTo {T = Unit {0}} b (Synced b) (Err c.in_err-sync.field-0.0)) q r)
    c.deref.ensures (c.in_err-sync.ensures c.deref.result.now c.in_ok-written.ensures.named) in
    unsynced (string_bytes c.args.file.now.name) (string_bytes c.args.file.now.beside) c.args.access c.args.octets.now
    c.from_residual-in_err-sync.result c.in_ok-written.written c.in_err-sync.field-0.0 p q r
    c.args.file.now.apart c.from_residual-in_err-sync.ensures.0 wrote synced

pub returns-in_err-rename : goal.returns-in_err-rename
returns-in_err-rename g c =
    let p = g.D.Disk.changes c.args.disk.now in
    let q = g.D.Disk.changes c.write_new.new.disk in
    let r = g.D.Disk.changes c.sync.new.self in
    let s = g.D.Disk.changes c.rename.new.self in
    let wrote = subst
    (λ (b : List ℕ). Leads (IsNewFile {T = g.row.D-File.Denot} b c.args.access c.args.octets.now (Ok c.in_ok-written.written)) p q)
    c.deref.ensures c.in_ok-written.ensures.does in
    let synced = subst (λ (b : List ℕ). Leads (DoesTo {T = Unit {0}} b (Synced b) (Ok c.in_ok-sync.field-0)) q r)
    c.deref.ensures (c.in_ok-sync.ensures c.deref.result.now c.in_ok-written.ensures.named) in
    let from = subst (λ (b : List ℕ). Leads (Does {T = Unit {0}} (Renamed b c.deref-3.result.now) (Err c.in_err-rename.field-0.0)) r s)
    c.deref-2.ensures c.in_err-rename.ensures in
    let renamed = subst
    (λ (n : List ℕ). Leads (Does {T = Unit {0}} (Renamed (string_bytes c.args.file.now.beside) n) (Err c.in_err-rename.field-0.0)) r s)
    c.deref-3.ensures from in
    unmoved (string_bytes c.args.file.now.name) (string_bytes c.args.file.now.beside) c.args.access c.args.octets.now
    c.from_residual-in_err-rename.result c.in_ok-written.written c.in_ok-sync.field-0 c.in_err-rename.field-0.0 p q r s
    c.args.file.now.apart c.from_residual-in_err-rename.ensures.0 wrote synced renamed

pub returns : goal.returns
returns g c =
    let p = g.D.Disk.changes c.args.disk.now in
    let q = g.D.Disk.changes c.write_new.new.disk in
    let r = g.D.Disk.changes c.sync.new.self in
    let s = g.D.Disk.changes c.rename.new.self in
    let t = g.D.Disk.changes c.sync_folder.new.self in
    let wrote = subst
    (λ (b : List ℕ). Leads (IsNewFile {T = g.row.D-File.Denot} b c.args.access c.args.octets.now (Ok c.in_ok-written.written)) p q)
    c.deref.ensures c.in_ok-written.ensures.does in
    let synced = subst (λ (b : List ℕ). Leads (DoesTo {T = Unit {0}} b (Synced b) (Ok c.in_ok-sync.field-0)) q r)
    c.deref.ensures (c.in_ok-sync.ensures c.deref.result.now c.in_ok-written.ensures.named) in
    let from = subst (λ (b : List ℕ). Leads (Does {T = Unit {0}} (Renamed b c.deref-3.result.now) (Ok c.in_ok-rename.field-0)) r s)
    c.deref-2.ensures c.in_ok-rename.ensures in
    let renamed = subst
    (λ (n : List ℕ). Leads (Does {T = Unit {0}} (Renamed (string_bytes c.args.file.now.beside) n) (Ok c.in_ok-rename.field-0)) r s)
    c.deref-3.ensures from in
    let folder = subst (λ (n : List ℕ). Leads (Does {T = Unit {0}} (FolderSynced n) c.sync_folder.result) s t) c.deref-4.ensures
    c.sync_folder.ensures in
    settles (string_bytes c.args.file.now.name) (string_bytes c.args.file.now.beside) c.args.access c.args.octets.now
    c.sync_folder.result c.in_ok-written.written c.in_ok-sync.field-0 c.in_ok-rename.field-0 p q r s t
    c.args.file.now.apart wrote synced renamed folder
