use Rattle.std.proofs.Common.{◌≡◌, ℕ, List, Some, arith, length, subst}
use Rattle.gw_rules.specs.declared.rule.Rule.{Rule}
use Rattle.gw_policy_drafts.specs.suggestion.Suggestion.{HasInFront, IsBreaking, IsOutcome, wanted}
use Rattle.gw_policy_drafts.proofs.suggestion_lemmas.LeavingLaw.{breaks_more}
use Rattle.gw_policy_drafts.proofs.suggestion.suggestion.added_for.Goals as goal

pub loop-preserved : goal.loop-preserved
loop-preserved c =
    let old = c.args.config.now in
    let tried = c.in_ok-tried.tried in
    let kept = c.loop.parted.kept.items in
    let found = c.in-Some.found in
    let front : HasInFront old kept tried =
    subst (λ (rules : List Rule). HasInFront old rules tried) c.deref.ensures.value c.in_ok-tried.ensures.all in
    let outcome : IsOutcome tried c.len.result (Some found) =
    subst (IsOutcome tried c.len.result) c.in-Some.is c.in_ok-find_breaking.ensures in
    let many : c.len.result ≡ length kept = omega (arith, c.len.ensures, c.loop.parted.kept.ok.0) in
    let breaking : IsBreaking tried (length kept) found = subst (λ (count : ℕ). IsBreaking tried count found) many outcome in (
      c.in_ok-leave_out-in-Some.ensures.stays c.args.manner.keeps_services (wanted c.args.manner c.args.seen.now.given) c.loop.invariant.0,
      breaks_more old tried kept c.loop.parted.left.items c.leave_out.new.self.left.items found front breaking
          c.in_ok-leave_out-in-Some.ensures.left c.loop.invariant.1,
    )
