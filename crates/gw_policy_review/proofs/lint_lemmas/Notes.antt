-- How notes are made of what is found, and come one after the other.
use Rattle.std.proofs.Common.{◌≡◌, ◌∙◌, sym, ap, refl, subst, ℕ, ◌+◌, ◌<◌, true, false, List, [], ◌∷◌, ◌++◌, add-one, get_or, length, take}
use Rattle.std.proofs.Common.{Result, Ok, Err, IfOk}
use Rattle.std.proofs.Math.Seq.{take-suc}
use Rattle.std.proofs.lemmas.List.{append-nil}
use Rattle.gw_configuration.specs.Configuration.{Configuration}
use Rattle.gw_configuration.specs.declared.port.Port.{Port}
use Rattle.gw_rules.specs.declared.operation.Operation.TheVariants.{Cast}
use Rattle.gw_rules.specs.declared.rule.Rule.{Rule}
use Rattle.gw_ask_sets.specs.declared.shapes.search.Outcome.{Outcome}
use Rattle.gw_ask_sets.specs.declared.shapes.search.Outcome.TheVariants as outcome
use Rattle.gw_ask_sets.specs.shapes.Shape.{Shape}
use Rattle.gw_policy_review.specs.lint.Notes.{IsAnswerNote, IsCastNote, IsWay, cast_note, way_note}
use Rattle.gw_policy_review.specs.lint.Passage.{ArePassages, answers, requests, shapes_for}
use Rattle.gw_policy_review.specs.permissions.Passing.{IsPassage, is_never}
use Rattle.gw_policy_review.specs.permissions.Texts.{Appends}

-- ---- what is found, one after the other

passages_more : (rules : List Rule) (shapes : List Shape) (found : List Outcome) (shape : Shape) (one : Outcome) (left between rest : ℕ)
    → ArePassages rules shapes left between found → IsPassage (shape ∷ []) rules between rest one
    → ArePassages rules (shapes ++ shape ∷ []) left rest (found ++ one ∷ [])
passages_more rules [] [] shape one left between rest are is =
    (rest, subst (λ (n : ℕ). IsPassage (shape ∷ []) rules n rest one) are is, refl)
passages_more rules [] (other ∷ found) shape one left between rest are is = absurd are
passages_more rules (here ∷ shapes) [] shape one left between rest are is = absurd are
passages_more rules (here ∷ shapes) (other ∷ found) shape one left between rest are is =
    (are.0, are.1, passages_more rules shapes found shape one are.0 between rest are.2 is)

pub passages_next : (rules : List Rule) (shapes : List Shape) (place : ℕ) (d : Shape) (found new : List Outcome) (one : Outcome) (left between rest : ℕ)
    → place < length shapes → ArePassages rules (take place shapes) left between found → IsPassage (get_or shapes place d ∷ []) rules between rest one
    → new ≡ found ++ one ∷ [] → ArePassages rules (take (place + 1) shapes) left rest new
passages_next rules shapes place d found new one left between rest within are is grown =
    let next : take (place + 1) shapes ≡ take place shapes ++ get_or shapes place d ∷ [] =
    ap (λ n. take n shapes) (add-one place) ∙ take-suc shapes place d within in
    subst (λ (xs : List Shape). ArePassages rules xs left rest new) (sym next)
    (subst (λ (os : List Outcome). ArePassages rules (take place shapes ++ get_or shapes place d ∷ []) left rest os) (sym grown)
    (passages_more rules (take place shapes) found (get_or shapes place d) one left between rest are is))

-- ---- notes on answers

pub no_text : (Is : List ℕ → Type 0) (out : List ℕ) → Is [] → Appends Is out out
no_text Is out is = ([], is, sym (append-nil out))

-- where an answer passes, or may
pub answered : (c : Configuration) (lines : List ℕ) (number : ℕ) (port other : Port) (back : Outcome) (left : ℕ) → is_never back ≡ false
    → IsWay c lines number port other back left left []
answered c lines number port other outcome.Never left some = absurd cc
answered c lines number port other (outcome.Decides ask) left some = (refl, refl)
answered c lines number port other outcome.Unknown left some = (refl, refl)

-- where none does
pub unanswered : {E : Type 0} (r : Result ℕ E) (c : Configuration) (lines : List ℕ) (number : ℕ) (port : Port) (other_number : ℕ) (other : Port)
    (back : Outcome) (left between : ℕ) (old new : List ℕ)
    → IsPassage (answers c.format other_number other port.network ∷ []) c.rules left between back → is_never back ≡ true
    → IfOk r (λ rest. Appends (IsWay c lines number port other outcome.Never between rest) old new)
    → IfOk r (λ rest. Appends (IsAnswerNote false c lines number port other_number other left rest) old new)
unanswered (Ok rest) c lines number port other_number other outcome.Never left between old new found never way =
    (way.0, (outcome.Never, between, found, way.1), way.2)
unanswered (Ok rest) c lines number port other_number other (outcome.Decides ask) left between old new found never way = absurd cc
unanswered (Ok rest) c lines number port other_number other outcome.Unknown left between old new found never way = absurd cc
unanswered (Err failed) c lines number port other_number other back left between old new found never way = tt

-- where requests were searched
pub requested : (c : Configuration) (lines : List ℕ) (number : ℕ) (port other : Port) (found : Outcome) (left rest : ℕ) (old new : List ℕ)
    → IsPassage (requests c.format number port other.network ∷ []) c.rules left rest found
    → new ≡ old ++ way_note c lines port.network other.network found
    → Appends (IsWay c lines number port other outcome.Never left rest) old new
requested c lines number port other found left rest old new is made =
    (way_note c lines port.network other.network found, (found, is, refl), made)

-- where broadcasts were searched
pub broadcast : (shapes : List Shape) (c : Configuration) (found : Outcome) (left rest : ℕ) (old new : List ℕ)
    → IsPassage (shapes_for Cast shapes) c.rules left rest found → new ≡ old ++ cast_note (shapes_for Cast shapes) found
    → Appends (IsCastNote shapes c left rest) old new
broadcast shapes c found left rest old new is made = (cast_note (shapes_for Cast shapes) found, (found, is, refl), made)
