use Rattle.std.proofs.Common.{◌∙◌, ◌++◌, ℕ, List, map, ap, ap₂}
use Rattle.json.specs.Json.{Json}
use Rattle.gw_json.specs.Comparison.{deciders_members, field_member, other_fields, outcome_members}
use Rattle.gw_json.specs.internal.View.{members_view}
use Rattle.gw_json.proofs.Views.{rows_shown}
use Rattle.gw_json.proofs.comparison.found_members.Goals as goal

pub returns : goal.returns
returns c =
    let both : List (List ℕ × Json) → List (List ℕ × Json) → List (List ℕ × Json) = λ (rows others : List (List ℕ × Json)). rows ++ others in
    let found = c.args.found.now in
    let fields = c.in_ok-fields.ensures ∙ ap (map (field_member found.region)) c.other_fields.ensures in
    rows_shown c.joined-2.result (λ rows. members_view rows.items) _
    (outcome_members found ++ map (field_member found.region) other_fields ++ deciders_members c.args.old.now c.args.new.now found)
    (ap₂ both c.in_ok-verdict.ensures (c.in_ok-joined.ensures ∙ ap₂ both fields c.in_ok-deciders.ensures)) c.joined-2.ensures
