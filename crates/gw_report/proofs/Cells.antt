-- What the cells of the table say of each ask.
use Rattle.std.proofs.Common.{◌≡◌, ℕ, ◌+◌, ◌-◌, ◌≤◌, Bool, true, false, List, [], ◌++◌, Option, ap, arith, inl, inr, refl, subst, sym, ◌∙◌}
use Rattle.std.proofs.lemmas.Bool.{both_ways}
use Rattle.gw_rules.specs.RuleList.{allows}
use Rattle.gw_rules.specs.declared.rule.Rule.{Rule}
use Rattle.gw_ask_sets.specs.declared.shapes.search.Outcome.{Outcome}
use Rattle.gw_ask_sets.specs.declared.shapes.search.Outcome.TheVariants as outcome
use Rattle.gw_ask_sets.specs.shapes.Shape.{Shape}
use Rattle.gw_policy_review.specs.permissions.Passing.{AreMade, IsDecision, searched_rules}
use Rattle.gw_policy_review.specs.permissions.Texts.{Appends}
use Rattle.gw_report.specs.Access.{CellsAreTrue, IsUnfinished, Says, extent_of, steps_given}
use Rattle.gw_report.specs.Report.{AreCells, IsRow, row_text}
use Rattle.gw_report.specs.declared.access.Whence.{Whence}
use Rattle.gw_report.specs.declared.passing.Extent.{Extent}

-- a search that doesn't know
unfinished : (says : Bool) (shapes : List Shape) (rules : List Rule) (left now count : ℕ) → now ≤ left
    → IsDecision says shapes rules (steps_given now) count outcome.Unknown → IsUnfinished shapes rules left
unfinished says shapes rules left now count few is = record {
  says = says;
  begun = now;
  of_those = few;
  made = subst (λ (n : ℕ). AreMade says shapes (searched_rules rules) (steps_given now) n outcome.Unknown) (is.all refl) is.made;
}

-- each of the nine ways in which two searches end
found : (shapes : List Shape) (rules : List Rule) (left now first second : ℕ) (allowed denied : Outcome) → now ≤ left
    → IsDecision true shapes rules (steps_given left) first allowed → IsDecision false shapes rules (steps_given now) second denied
    → Says shapes rules left (extent_of allowed denied)
found shapes rules left now first second outcome.Never outcome.Never few a d =
    λ ask lies. both_ways (allows rules ask) (a.right ask lies) (d.right ask lies)
found shapes rules left now first second outcome.Never (outcome.Decides ask) few a d = (a.right, inl (ask, d.right.0, d.right.1))
found shapes rules left now first second outcome.Never outcome.Unknown few a d = (a.right, inr (unfinished false shapes rules left now second few d))
found shapes rules left now first second (outcome.Decides ask) outcome.Never few a d = (d.right, inl (ask, a.right.0, a.right.1))
found shapes rules left now first second outcome.Unknown outcome.Never few a d =
    (d.right, inr (unfinished true shapes rules left left first (omega arith) a))
found shapes rules left now first second (outcome.Decides ask) (outcome.Decides other) few a d =
    ((ask, a.right.0, a.right.1), (other, d.right.0, d.right.1))
found shapes rules left now first second (outcome.Decides ask) outcome.Unknown few a d = unfinished false shapes rules left now second few d
found shapes rules left now first second outcome.Unknown (outcome.Decides ask) few a d = unfinished true shapes rules left left first (omega arith) a
found shapes rules left now first second outcome.Unknown outcome.Unknown few a d = unfinished true shapes rules left left first (omega arith) a

pub cells_are_true : CellsAreTrue
cells_are_true shapes rules left rest cell is =
    let counted = is.counted in
    subst (λ (o : Option Extent). Says shapes rules left o) (sym is.shown)
    (found shapes rules left (left - is.first) is.first is.second is.allowed is.denied (omega (arith, counted)) is.is_allowed is.is_denied)

-- ---- how the table grows

-- a text that follows nothing
pub alone : (Is : List ℕ → Type 0) (before now : List ℕ) → before ≡ [] → Appends Is before now → Is now
alone Is before now none grown =
    let same : now ≡ grown.0 = grown.2 ∙ ap (λ (t : List ℕ). t ++ grown.0) none in
    subst Is (sym same) grown.1

pub row_put : (rules : List Rule) (own : List Whence) (those : List Shape) (whence : Whence) (left rest : ℕ) (before cells old new : List ℕ)
    → before ≡ [] → Appends (AreCells rules own those whence left rest) before cells → new ≡ old ++ row_text whence cells
    → Appends (IsRow rules own those whence left rest) old new
row_put rules own those whence left rest before cells old new none grown made =
    (row_text whence cells, (cells, alone (AreCells rules own those whence left rest) before cells none grown, refl), made)
