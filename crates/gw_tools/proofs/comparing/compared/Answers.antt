use Rattle.std.proofs.Common.{◌≡◌}
use Rattle.std.proofs.lemmas.Result.{IfOk-weaker}
use Rattle.gw_policy_review.specs.comparison.Comparing.{IsUnderWay}
use Rattle.gw_tools.specs.Comparing.{IsCompared}
use Rattle.gw_tools.specs.declared.comparing.Lines.{Lines}
use Rattle.gw_tools.proofs.comparing.compared.Goals as goal

pub returns-clause-compared : goal.returns-clause-compared
returns-clause-compared g c =
    let limits = c.args.limits in
    let old = c.args.sides.now.old.now in
    let new = c.args.sides.now.new.now in
    let at = c.in_ok-comparing.comparing in
    let is = c.in_ok-comparing.ensures in
    IfOk-weaker c.lines_as.result
    (λ (lines : Lines). at.old_one ≡ old.config → at.new_one ≡ new.config → IsUnderWay at
    → IsCompared limits old new lines.made lines.text.items)
    (λ (lines : Lines). IsCompared limits old new lines.made lines.text.items)
    (λ lines made. made is.old is.new is.is_right) c.lines_as.ensures
