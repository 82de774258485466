-- No ask to pass a broadcast on is allowed, if none is found in the shapes that have such.
use Rattle.std.proofs.Common.{◌≡◌, inl, inr, ℕ, ◌≤◌, Bool, true, false, if◌then◌else◌, List, [], ◌∷◌, Option, nat_le, subst}
use Rattle.std.proofs.lemmas.Bool.{and_from, le-leb}
use Rattle.gw_rules.specs.Ask.{Ask, IsFor}
use Rattle.gw_rules.specs.Operation.{operation_number}
use Rattle.gw_rules.specs.Range.{holds}
use Rattle.gw_rules.specs.declared.field.FieldName.TheVariants.{Operation}
use Rattle.gw_rules.specs.declared.operation.Operation.TheVariants.{Cast}
use Rattle.gw_rules.specs.declared.range.Range.{Range}
use Rattle.gw_ask_sets.specs.declared.shapes.search.Outcome.TheVariants as outcome
use Rattle.gw_ask_sets.specs.shapes.Shape.{IsWithin, LiesIn, LiesInOne, Shape}
use Rattle.gw_ask_sets.proofs.shapes_lemmas.Lying.{in_range}
use Rattle.gw_policy_review.specs.lint.Laws.{NoBroadcastIsAllowed}
use Rattle.gw_policy_review.specs.lint.Passage.{is_for, shapes_for}

held : (range : Range) (number : ℕ) → (range.low ≤ number) × (number ≤ range.high) → holds number range ≡ true
held range number is = and_from (nat_le range.low number) (nat_le number range.high) (le-leb range.low number is.0) (le-leb number range.high is.1)

casts : (shape : Shape) (ask : Ask) → LiesIn shape ask → IsFor Cast ask → is_for Cast shape ≡ true
casts shape ask lies is =
    held shape.operation.range (operation_number Cast)
    (in_range shape.operation (operation_number Cast) (subst (λ (o : Option ℕ). IsWithin shape.operation o) is (lies Operation)))

kept : (b : Bool) (shape : Shape) (shapes : List Shape) (ask : Ask) → b ≡ true → LiesIn shape ask
    → LiesInOne (if b then shape ∷ shapes else shapes) ask
kept true shape shapes ask e lies = inl lies
kept false shape shapes ask e lies = absurd cc

behind : (b : Bool) (shape : Shape) (shapes : List Shape) (ask : Ask) → LiesInOne shapes ask
    → LiesInOne (if b then shape ∷ shapes else shapes) ask
behind true shape shapes ask lies = inr lies
behind false shape shapes ask lies = lies

-- it lies in a shape that has such asks
in_kept : (shapes : List Shape) (ask : Ask) → LiesInOne shapes ask → IsFor Cast ask → LiesInOne (shapes_for Cast shapes) ask
in_kept [] ask lies is = absurd lies
in_kept (shape ∷ shapes) ask (inl here) is = kept (is_for Cast shape) shape (shapes_for Cast shapes) ask (casts shape ask here is) here
in_kept (shape ∷ shapes) ask (inr later) is = behind (is_for Cast shape) shape (shapes_for Cast shapes) ask (in_kept shapes ask later is)

pub no_broadcast_is_allowed : NoBroadcastIsAllowed
no_broadcast_is_allowed shapes rules left rest outcome.Never ask found none lies is = found.1.right ask (in_kept shapes ask lies is)
no_broadcast_is_allowed shapes rules left rest (outcome.Decides other) ask found none lies is = absurd cc
no_broadcast_is_allowed shapes rules left rest outcome.Unknown ask found none lies is = absurd cc
