use Rattle.std.proofs.Common.{◌≡◌, subst, sym}
use Rattle.std.proofs.lemmas.Result.{IfOk-weaker}
use Rattle.gw_policy_review.specs.comparison.Comparing.{IsUnderWay}
use Rattle.gw_tools.specs.Comparing.{IsCompared, IsComparedAs}
use Rattle.gw_tools.specs.Json.{AreComparisonLines}
use Rattle.gw_tools.specs.declared.comparing.Layout.{Layout}
use Rattle.gw_tools.specs.declared.comparing.Lines.{Lines}
use Rattle.gw_tools.proofs.comparing.lines_as.Goals as goal

pub returns-in-Json : goal.returns-in-Json
returns-in-Json c =
    let limits = c.args.limits in
    let old = c.args.sides.now.old.now in
    let new = c.args.sides.now.new.now in
    let at = c.args.comparing in
    IfOk-weaker c.comparison_lines.result
    (λ (lines : Lines). at.old_one ≡ old.config → at.new_one ≡ new.config → IsUnderWay at
    → AreComparisonLines old.config new.config limits.most lines.made lines.text.items)
    (λ (lines : Lines). at.old_one ≡ old.config → at.new_one ≡ new.config → IsUnderWay at
    → IsCompared limits old new lines.made lines.text.items)
    (λ lines made is_old is_new under.
    subst (λ (l : Layout). IsComparedAs l limits.most old new lines.made lines.text.items) (sym c.in-Json.is) (made is_old is_new under))
    c.comparison_lines.ensures
