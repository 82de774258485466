use Rattle.std.proofs.Common.{◌≡◌, ◌∙◌, ◌++◌, ℕ, List, IfOk, ap, ap₂, subst}
use Rattle.json.specs.Json.{Json}
use Rattle.gw_json.specs.Document.{line_of, object_of}
use Rattle.gw_json.specs.internal.View.{members_view}
use Rattle.gw_json.proofs.log.denial.Goals as goal

pub returns : goal.returns
returns c =
    let both : List (List ℕ × Json) → List (List ℕ × Json) → List (List ℕ × Json) = λ (rows others : List (List ℕ × Json)). rows ++ others in
    subst (λ (rows : List (List ℕ × Json)). IfOk c.object_line.result (λ text. text.items ≡ line_of (object_of rows)))
    (c.in_ok-joined-3.ensures ∙ ap₂ both (c.in_ok-joined.ensures ∙ ap₂ both c.in_ok-place.ensures c.in_ok-ask.ensures)
    (c.in_ok-joined-2.ensures ∙ ap (λ (rows : List (List ℕ × Json)). rows ++ members_view c.args.before.items) c.in_ok-rule.ensures))
    c.object_line.ensures
