-- What a walk adds, if it adds nothing.
use Rattle.std.proofs.Common.{◌≡◌, ◌∙◌, sym, ap, refl, List, [], ◌++◌, Option, Some, None}
use Rattle.std.specs.Option.{option_or}
use Rattle.std.proofs.lemmas.List.{append-nil}
use Rattle.gw_rules.specs.Ask.{Ask}
use Rattle.gw_rules.specs.declared.rule.Rule.{Rule}
use Rattle.gw_rules.specs.declared.verdict.Verdict.{Verdict}
use Rattle.gw_relay.specs.Response.{Response}
use Rattle.gw_relay.specs.Sends.{Sending}
use Rattle.gw_relay.specs.Turn.{IsWalked}
use Rattle.std.specs.Prelude.{Result, Ok, Err, OnOk}
use Rattle.gw_relay.specs.Steps.{Step, taken}
use Rattle.gw_relay.specs.internal.Taken.{AreTaken}
use Rattle.gw_relay.specs.declared.change.Change.{Change}
use Rattle.gw_relay.specs.declared.turn.Turn.{Turn}

-- if nothing is to be committed, it is what was before
pub or_none : (change : Option Change) → change ≡ option_or change None
or_none (Some change) = refl
or_none None = refl

-- of no asks nothing is kept
pub none_kept : {A : Type 0} (kept : A → List Verdict) (kept_of : List Rule → List Ask → List Verdict)
    → ((rules : List Rule) → kept_of rules [] ≡ []) → (rules : List Rule) (asker : A) (asks : List Ask) → asks ≡ []
    → kept asker ≡ kept asker ++ kept_of rules asks
none_kept kept kept_of nothing rules asker asks none =
    sym (append-nil (kept asker)) ∙ ap (λ (l : List Verdict). kept asker ++ l) (sym (ap (kept_of rules) none ∙ nothing rules))

-- if nothing is due, the turn is as it was
pub none_walked : {A : Type 0} (kept : A → List Verdict) (kept_of : List Rule → List Ask → List Verdict)
    → ((rules : List Rule) → kept_of rules [] ≡ []) → (rules : List Rule) (due : Response) (turn : Turn A)
    → due.sends ≡ [] → due.asks ≡ [] → due.change ≡ None → IsWalked kept kept_of rules due turn turn
none_walked kept kept_of nothing rules due turn sends asks change = record {
  sends = sym (append-nil turn.sends) ∙ ap (λ (l : List Sending). turn.sends ++ l) (sym sends);
  verdicts = none_kept kept kept_of nothing rules turn.asker due.asks asks;
  change = or_none turn.change ∙ ap (λ (x : Option Change). option_or turn.change x) (sym change);
}

-- steps that were taken are the walk of what they answer
pub taken_walked : {A : Type 0} (kept : A → List Verdict) (kept_of : List Rule → List Ask → List Verdict)
    (rules : List Rule) (steps : List Step) (due : Response) (old new : Turn A) → due ≡ taken rules steps
    → AreTaken kept kept_of rules steps old new → IsWalked kept kept_of rules due old new
taken_walked kept kept_of rules steps due old new e t = record {
  sends = t.sends ∙ ap (λ (r : Response). old.sends ++ r.sends) (sym e);
  verdicts = t.verdicts ∙ ap (λ (r : Response). kept old.asker ++ kept_of rules r.asks) (sym e);
  change = t.change ∙ or_none old.change ∙ ap (λ (r : Response). option_or old.change r.change) (sym e);
}

-- what follows where there is a value
pub on_ok : {T E : Type 0} (r : Result T E) {P Q : Type 0} → (P → Q) → OnOk r P → OnOk r Q
on_ok (Ok x) f p = f p
on_ok (Err e) f p = tt
