use Rattle.std.proofs.Common.{[], subst, true, ℕ, length}
use Rattle.std.specs.Io.KnownBytes.{Appends}
use Rattle.gw_tools.specs.Comparing.{progress_line}
use Rattle.gw_tools.proofs.comparing.report_second.Goals as goal

pub returns-then-has_passed-clause-said : goal.returns-then-has_passed-clause-said
returns-then-has_passed-clause-said g c =
    let held = g.E.OctetSink.held c.args.errors.now in
    let holds = g.E.OctetSink.held c.report_progress.new.errors in
    let at = c.args.comparing.now in (
      true,
      λ never. subst (λ (steps : ℕ). Appends held holds (progress_line (steps, length at.found))) c.steps.ensures
          (subst (λ (count : ℕ). Appends held holds (progress_line (c.steps.result, count))) c.found.ensures (c.report_progress.ensures.said never)),
    )
