-- The lines of what a network reads of an object, from what is found of each question.
use Rattle.std.proofs.Common.{◌≡◌, ◌∙◌, ◌++◌, ℕ, List, [], Result, Ok, Err, IfOk, ap, append_assoc, codes, false, refl, sym, true}
use Rattle.std.proofs.lemmas.List.{append-nil}
use Rattle.gw_configuration.specs.Configuration.{Configuration}
use Rattle.gw_configuration.specs.declared.object.Object.{Object}
use Rattle.gw_rules.specs.declared.field.FieldName.TheVariants as fields
use Rattle.gw_ask_sets.specs.shapes.Shapes.{only, some}
use Rattle.gw_ask_sets.specs.declared.shapes.search.Outcome.{Outcome}
use Rattle.gw_ask_sets.specs.declared.shapes.search.Outcome.TheVariants as outcome
use Rattle.gw_policy_review.specs.permissions.Passing.{is_never}
use Rattle.gw_policy_review.specs.permissions.Permissions.{AreProperties, AreReadings, AreRevealing, AreRevealingOf, IsHiding, IsListed, IsProperty}
use Rattle.gw_policy_review.specs.permissions.Permissions.{IsRead, hidden_words, list_line, object_list, point_of, property_line}
use Rattle.gw_policy_review.specs.permissions.Texts.{Appends}

pub listed : (c : Configuration) (number : ℕ) (object : Object) (network left rest : ℕ) (found : Outcome) (a b : List ℕ)
    → IsRead c network (object_list c.device) left rest found → b ≡ a ++ list_line number object network found
    → Appends (IsListed c number object network left rest) a b
listed c number object network left rest found a b read shown = (list_line number object network found, (found, read, refl), shown)

pub one_property : (c : Configuration) (number : ℕ) (object : Object) (network property : ℕ) (name : List ℕ) (left rest : ℕ) (found : Outcome) (a b : List ℕ)
    → IsRead c network (point_of object (only property)) left rest found → b ≡ a ++ property_line number object network name found
    → Appends (IsProperty c number object network property name left rest) a b
one_property c number object network property name left rest found a b read shown =
    (property_line number object network name found, (found, read, refl), shown)

pub two_properties : {E : Type 0} (r : Result ℕ E) (c : Configuration) (number : ℕ) (object : Object) (network left between : ℕ) (a b d : List ℕ)
    → Appends (IsProperty c number object network 87 (codes "Priority_Array") left between) a b
    → IfOk r (λ rest. Appends (IsProperty c number object network 104 (codes "Relinquish_Default") between rest) b d)
    → IfOk r (λ rest. Appends (AreProperties c number object network left rest) a d)
two_properties (Ok rest) c number object network left between a b d first second = (
  first.0 ++ second.0,
  (between, first.0, second.0, first.1, second.1, refl),
  second.2 ∙ ap (λ (t : List ℕ). t ++ second.0) first.2 ∙ append_assoc a first.0 second.0,
)
two_properties (Err failed) c number object network left between a b d first second = tt

pub hiding : {E : Type 0} (r : Result ℕ E) (c : Configuration) (number : ℕ) (object : Object) (network left : ℕ) (a b d e : List ℕ)
    → b ≡ a ++ hidden_words number object network → d ≡ b ++ codes ": from whoever claims to be of it\n"
    → IfOk r (λ rest. Appends (IsListed c number object network left rest) d e)
    → IfOk r (λ rest. Appends (IsHiding c number object network left rest) a e)
hiding (Ok rest) c number object network left a b d e first second list =
    let hidden = hidden_words number object network in
    let claims = codes ": from whoever claims to be of it\n" in (
      (hidden ++ claims) ++ list.0,
      (list.0, list.1, refl),
      list.2
          ∙ ap (λ (t : List ℕ). t ++ list.0) (second ∙ ap (λ (t : List ℕ). t ++ claims) first ∙ append_assoc a hidden claims)
          ∙ append_assoc a (hidden ++ claims) list.0,
    )
hiding (Err failed) c number object network left a b d e first second list = tt

pub revealed : {E : Type 0} (r : Result ℕ E) (c : Configuration) (number : ℕ) (object : Object) (network left between : ℕ) (found : Outcome) (a b : List ℕ)
    → IsRead c network (point_of object (only 85)) left between found → is_never found ≡ true
    → IfOk r (λ rest. Appends (AreProperties c number object network between rest) a b)
    → IfOk r (λ rest. Appends (AreRevealing c number object network left rest) a b)
revealed (Ok rest) c number object network left between outcome.Never a b read none shown =
    (shown.0, (outcome.Never, between, read, shown.1), shown.2)
revealed (Ok rest) c number object network left between (outcome.Decides ask) a b read none shown = absurd cc
revealed (Ok rest) c number object network left between outcome.Unknown a b read none shown = absurd cc
revealed (Err failed) c number object network left between found a b read none shown = tt

unrevealed : (c : Configuration) (number : ℕ) (object : Object) (network : ℕ) (found : Outcome) (left : ℕ) → is_never found ≡ false
    → AreRevealingOf c number object network found left left []
unrevealed c number object network outcome.Never left some = absurd cc
unrevealed c number object network (outcome.Decides ask) left some = (refl, refl)
unrevealed c number object network outcome.Unknown left some = (refl, refl)

pub nothing_revealed : (c : Configuration) (number : ℕ) (object : Object) (network left rest : ℕ) (found : Outcome) (a : List ℕ)
    → IsRead c network (point_of object (only 85)) left rest found → is_never found ≡ false
    → Appends (AreRevealing c number object network left rest) a a
nothing_revealed c number object network left rest found a read some =
    ([], (found, rest, read, unrevealed c number object network found rest some), sym (append-nil a))

pub hidden : {E : Type 0} (r : Result ℕ E) (c : Configuration) (number : ℕ) (object : Object) (network left between : ℕ) (found : Outcome) (a b : List ℕ)
    → IsRead c network (point_of object (some fields.Property)) left between found → is_never found ≡ true
    → IfOk r (λ rest. Appends (IsHiding c number object network between rest) a b)
    → IfOk r (λ rest. Appends (AreReadings c number object network left rest) a b)
hidden (Ok rest) c number object network left between outcome.Never a b read none shown =
    (shown.0, (outcome.Never, between, read, shown.1), shown.2)
hidden (Ok rest) c number object network left between (outcome.Decides ask) a b read none shown = absurd cc
hidden (Ok rest) c number object network left between outcome.Unknown a b read none shown = absurd cc
hidden (Err failed) c number object network left between found a b read none shown = tt

pub seen : {E : Type 0} (r : Result ℕ E) (c : Configuration) (number : ℕ) (object : Object) (network left between : ℕ) (found : Outcome) (a b : List ℕ)
    → IsRead c network (point_of object (some fields.Property)) left between found → is_never found ≡ false
    → IfOk r (λ rest. Appends (AreRevealing c number object network between rest) a b)
    → IfOk r (λ rest. Appends (AreReadings c number object network left rest) a b)
seen (Ok rest) c number object network left between outcome.Never a b read some shown = absurd cc
seen (Ok rest) c number object network left between (outcome.Decides ask) a b read some shown =
    (shown.0, (outcome.Decides ask, between, read, shown.1), shown.2)
seen (Ok rest) c number object network left between outcome.Unknown a b read some shown =
    (shown.0, (outcome.Unknown, between, read, shown.1), shown.2)
seen (Err failed) c number object network left between found a b read some shown = tt
