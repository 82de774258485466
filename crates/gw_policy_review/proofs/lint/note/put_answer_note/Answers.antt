use Rattle.std.proofs.Common.{Bool, false, IfOk, List, [], ◌∷◌, ◌≡◌, ◌∙◌, ℕ, ap, arith, subst, sym}
use Rattle.std.specs.Prelude.{◌==◌}
use Rattle.std.proofs.lemmas.Bool.{ne_eqb}
use Rattle.gw_rules.specs.declared.format.Format.{Format}
use Rattle.gw_rules.specs.declared.rule.Rule.{Rule}
use Rattle.gw_ask_sets.specs.shapes.Shape.{Shape}
use Rattle.gw_policy_review.specs.lint.Notes.{IsAnswerNote}
use Rattle.gw_policy_review.specs.lint.Passage.{answers}
use Rattle.gw_policy_review.specs.permissions.Passing.{IsPassage}
use Rattle.gw_policy_review.specs.permissions.Texts.{Appends}
use Rattle.gw_policy_review.proofs.lint_lemmas.Notes.{answered, no_text, unanswered}
use Rattle.gw_policy_review.proofs.lint.note.put_answer_note.Goals as goal

pub returns-then-is_never : goal.returns-then-is_never
returns-then-is_never c =
    let config = c.args.lint.now.config.now in
    let lines = c.args.lint.now.lines.now in
    let number = c.args.way.now.from.number in
    let port = c.args.way.now.from.port.now in
    let other_number = c.args.way.now.to.number in
    let other = c.args.way.now.to.port.now in
    let left = c.args.left in
    let back = c.in_ok-back.back.outcome in
    let between = c.in_ok-back.back.left in
    let asked = answers config.format other_number other port.network in
    let same : c.answers-asked.result ≡ asked =
    c.answers-asked.ensures
    ∙ (ap (λ (f : Format). answers f other_number other c.get-here.result) c.format.ensures.format
    ∙ ap (λ (n : ℕ). answers config.format other_number other n) c.get-here.ensures.value) in
    let is : IsPassage (asked ∷ []) config.rules left between back =
    subst (λ (rs : List Rule). IsPassage (asked ∷ []) rs left between back) c.rules.ensures.rules
    (subst (λ (s : Shape). IsPassage (s ∷ []) c.rules.result.now left between back) same c.in_ok-back.ensures) in
    let apart : (port.network == other.network) ≡ false = ne_eqb port.network other.network
    (λ e. omega (arith, c.if-here-get.false, c.get-here.ensures.value, c.get.ensures.value, e)) in
    let out = c.args.out.now.items in
    let new = c.put_request_note.new.out.items in
    subst (λ (b : Bool). IfOk c.put_request_note.result
    (λ (rest : ℕ). Appends (IsAnswerNote b config lines number port other_number other left rest) out new)) (sym apart)
    (unanswered c.put_request_note.result config lines number port other_number other back left between out new is
    (sym c.if-is_never.ensures) c.put_request_note.ensures)

pub returns-else-is_never : goal.returns-else-is_never
returns-else-is_never c =
    let config = c.args.lint.now.config.now in
    let lines = c.args.lint.now.lines.now in
    let number = c.args.way.now.from.number in
    let port = c.args.way.now.from.port.now in
    let other_number = c.args.way.now.to.number in
    let other = c.args.way.now.to.port.now in
    let left = c.args.left in
    let back = c.in_ok-back.back.outcome in
    let between = c.in_ok-back.back.left in
    let asked = answers config.format other_number other port.network in
    let same : c.answers-asked.result ≡ asked =
    c.answers-asked.ensures
    ∙ (ap (λ (f : Format). answers f other_number other c.get-here.result) c.format.ensures.format
    ∙ ap (λ (n : ℕ). answers config.format other_number other n) c.get-here.ensures.value) in
    let is : IsPassage (asked ∷ []) config.rules left between back =
    subst (λ (rs : List Rule). IsPassage (asked ∷ []) rs left between back) c.rules.ensures.rules
    (subst (λ (s : Shape). IsPassage (s ∷ []) c.rules.result.now left between back) same c.in_ok-back.ensures) in
    let apart : (port.network == other.network) ≡ false = ne_eqb port.network other.network
    (λ e. omega (arith, c.if-here-get.false, c.get-here.ensures.value, c.get.ensures.value, e)) in
    let out = c.args.out.now.items in
    subst (λ (b : Bool). Appends (IsAnswerNote b config lines number port other_number other left between) out out) (sym apart)
    (no_text (IsAnswerNote false config lines number port other_number other left between) out
    (back, between, is, answered config lines number port other back between (sym c.if-is_never.ensures)))
