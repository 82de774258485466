use Rattle.std.proofs.Common.{List, [], ◌∷◌, ◌++◌, ◌≡◌, ◌∙◌, ℕ, ap, subst}
use Rattle.gw_rules.specs.declared.format.Format.{Format}
use Rattle.gw_rules.specs.declared.rule.Rule.{Rule}
use Rattle.gw_ask_sets.specs.shapes.Shape.{Shape}
use Rattle.gw_policy_review.specs.lint.Notes.{way_note}
use Rattle.gw_policy_review.specs.lint.Passage.{requests}
use Rattle.gw_policy_review.specs.permissions.Passing.{IsPassage}
use Rattle.gw_policy_review.proofs.lint_lemmas.Notes.{requested}
use Rattle.gw_policy_review.proofs.lint.note.put_request_note.Goals as goal

pub returns : goal.returns
returns c =
    let config = c.args.lint.now.config.now in
    let lines = c.args.lint.now.lines.now in
    let number = c.args.way.now.from.number in
    let port = c.args.way.now.from.port.now in
    let other = c.args.way.now.to.port.now in
    let left = c.args.left in
    let found = c.in_ok-found.found.outcome in
    let rest = c.in_ok-found.found.left in
    let out = c.args.out.now.items in
    let new = c.put_way_note.new.out.items in
    let asked = requests config.format number port other.network in
    let same : c.requests-asked.result ≡ asked =
    c.requests-asked.ensures
    ∙ (ap (λ (f : Format). requests f number port c.get-there.result) c.format.ensures.format
    ∙ ap (λ (n : ℕ). requests config.format number port n) c.get-there.ensures.value) in
    requested config lines number port other found left rest out new
    (subst (λ (rs : List Rule). IsPassage (asked ∷ []) rs left rest found) c.rules.ensures.rules
    (subst (λ (s : Shape). IsPassage (s ∷ []) c.rules.result.now left rest found) same c.in_ok-found.ensures))
    (subst (λ (n : ℕ). new ≡ out ++ way_note config lines port.network n found) c.get-there.ensures.value
    (subst (λ (n : ℕ). new ≡ out ++ way_note config lines n c.get-there.result found) c.get-here.ensures.value
    c.in_ok-put_way_note.ensures))
