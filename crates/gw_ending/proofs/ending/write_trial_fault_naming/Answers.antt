use Rattle.std.proofs.Common.{subst, sym, OnOk}
use Rattle.std.specs.Io.KnownBytes.{Appends}
use Rattle.gw_ending.specs.Ending.{trial_rest}
use Rattle.gw_watchers.specs.declared.files.fault.TrialFault.{TrialFault}
use Rattle.gw_ending.proofs.ending.write_trial_fault_naming.Goals as goal

pub returns-in-Unreadable-clause-ok : goal.returns-in-Unreadable-clause-ok
returns-in-Unreadable-clause-ok g c =
    let held = g.E.OctetSink.held in
    let written = c.write_unread in
    subst (λ (f : TrialFault). OnOk written.result (Appends (held c.args.errors.now) (held written.new.errors) (trial_rest c.args.file.now f)))
    (sym c.in-Unreadable.is) written.ensures.ok
