use Rattle.std.proofs.Common.{◌≡◌, subst, ℕ, List}
use Rattle.std.proofs.lemmas.Result.{IfOk-weaker}
use Rattle.gw_configuration.specs.Configuration.{Configuration}
use Rattle.gw_policy_review.specs.comparison.Comparing.{IsUnderWay}
use Rattle.gw_policy_review.specs.comparison.Comparison.{Manner}
use Rattle.gw_tools.specs.Asserting.{SaysAssertions}
use Rattle.gw_tools.specs.Comparing.{IsComparedAsText, IsComparedBehind}
use Rattle.gw_tools.specs.declared.comparing.Lines.{Lines}
use Rattle.gw_tools.proofs.AssertingLemmas.{told_alone}
use Rattle.gw_tools.proofs.comparing.lines_as_text.Goals as goal

abbrev how : ℕ → List ℕ → List ℕ → Manner
how most old_lines new_lines = record { most = most; old_lines = old_lines; new_lines = new_lines }

pub returns : goal.returns
returns c =
    let most = c.args.most in
    let steps = c.args.steps in
    let old = c.args.sides.now.old.now in
    let new = c.args.sides.now.new.now in
    let at = c.args.comparing in
    let front = c.put_assertions.new.out.items in
    let first = c.deref.result.now in
    let second = c.deref-2.result.now in
    IfOk-weaker c.lines_of.result
    (λ (lines : Lines). IsUnderWay at
    → IsComparedBehind steps (how most first second) front at.old_one at.new_one lines.made lines.text.items)
    (λ (lines : Lines). at.old_one ≡ old.config → at.new_one ≡ new.config → IsUnderWay at
    → IsComparedAsText most steps old new lines.made lines.text.items)
    (λ lines made is_old is_new under. (
      front,
      told_alone (SaysAssertions old.config new.config) c.new-front.result.items front c.new-front.ensures.items c.in_ok-put_assertions.ensures,
      subst
          (λ (t : List ℕ). IsComparedBehind steps (how most t new.lines.items) front old.config new.config lines.made lines.text.items)
          c.deref.ensures.value
          (subst (λ (t : List ℕ). IsComparedBehind steps (how most first t) front old.config new.config lines.made lines.text.items)
          c.deref-2.ensures.value
          (subst (λ (other : Configuration). IsComparedBehind steps (how most first second) front old.config other lines.made lines.text.items)
          is_new
          (subst (λ (one : Configuration). IsComparedBehind steps (how most first second) front one at.new_one lines.made lines.text.items)
          is_old (made under)))),
    ))
    c.lines_of.ensures
