-- How what is added to a turn in one step and in the next is what is added in both.
use Rattle.std.proofs.Common.{◌≡◌, ◌∙◌, sym, ap, refl, List, [], ◌∷◌, ◌++◌, map, append_assoc, Option, Some, None}
use Rattle.std.specs.Option.{option_or}
use Rattle.std.proofs.lemmas.List.{append-nil}
use Rattle.gw_relay.specs.Response.{Response}
use Rattle.gw_relay.specs.Sends.{Sending}
use Rattle.gw_relay.specs.Turn.{IsWalked}
use Rattle.gw_relay.specs.declared.change.Change.{Change}
use Rattle.gw_relay.specs.declared.turn.Turn.{Turn}
use Rattle.gw_rules.specs.Ask.{Ask}
use Rattle.gw_rules.specs.Asker.{verdict_of_refusal}
use Rattle.gw_rules.specs.declared.refusal.Refusal.{Refusal}
use Rattle.gw_rules.specs.declared.rule.Rule.{Rule}
use Rattle.gw_rules.specs.declared.verdict.Verdict.{Verdict}

-- what is kept of no asks, and of asks that are put one after the other, as the laws of an asker say
abbrev pub KeepsNone : (List Rule → List Ask → List Verdict) → Type 0
KeepsNone kept_of = (rules : List Rule) → kept_of rules [] ≡ []

abbrev pub KeepsBoth : (List Rule → List Ask → List Verdict) → Type 0
KeepsBoth kept_of = (rules : List Rule) (one two : List Ask) → kept_of rules (one ++ two) ≡ kept_of rules one ++ kept_of rules two

either : (x y z : Option Change) → option_or (option_or x y) z ≡ option_or x (option_or y z)
either None y z = refl
either (Some x) y z = refl

pub or_none : (x : Option Change) → option_or x None ≡ x
or_none None = refl
or_none (Some x) = refl

-- the same is due in other words
pub walked_like : {A : Type 0} (kept : A → List Verdict) (kept_of : List Rule → List Ask → List Verdict) (rules : List Rule)
    (due like : Response) (old new : Turn A) → like.asks ≡ due.asks → like.sends ≡ due.sends → like.change ≡ due.change
    → IsWalked kept kept_of rules due old new → IsWalked kept kept_of rules like old new
walked_like kept kept_of rules due like old new asks sends change walked = record {
  sends = walked.sends ∙ ap (λ (l : List Sending). old.sends ++ l) (sym sends);
  verdicts = walked.verdicts ∙ ap (λ (l : List Ask). kept old.asker ++ kept_of rules l) (sym asks);
  change = walked.change ∙ ap (λ (x : Option Change). option_or old.change x) (sym change);
}

-- one step, and then another
pub walked_both : {A : Type 0} (kept : A → List Verdict) (kept_of : List Rule → List Ask → List Verdict) → KeepsBoth kept_of
    → (rules : List Rule) (one two : Response) (old mid new : Turn A) → IsWalked kept kept_of rules one old mid
    → IsWalked kept kept_of rules two mid new
    → IsWalked kept kept_of rules
    (record { asks = one.asks ++ two.asks; sends = one.sends ++ two.sends; change = option_or one.change two.change }) old new
walked_both kept kept_of both rules one two old mid new first second = record {
  sends = second.sends ∙ ap (λ (l : List Sending). l ++ two.sends) first.sends ∙ append_assoc old.sends one.sends two.sends;
  verdicts = second.verdicts ∙ ap (λ (l : List Verdict). l ++ kept_of rules two.asks) first.verdicts
      ∙ append_assoc (kept old.asker) (kept_of rules one.asks) (kept_of rules two.asks)
      ∙ ap (λ (l : List Verdict). kept old.asker ++ l) (sym (both rules one.asks two.asks));
  change = second.change ∙ ap (λ (x : Option Change). option_or x two.change) first.change ∙ either old.change one.change two.change;
}

-- nothing is due
pub walked_none : {A : Type 0} (kept : A → List Verdict) (kept_of : List Rule → List Ask → List Verdict) → KeepsNone kept_of
    → (rules : List Rule) (due : Response) (turn : Turn A) → due.asks ≡ [] → due.sends ≡ [] → due.change ≡ None
    → IsWalked kept kept_of rules due turn turn
walked_none kept kept_of none rules due turn asks sends change = record {
  sends = sym (append-nil turn.sends) ∙ ap (λ (l : List Sending). turn.sends ++ l) (sym sends);
  verdicts = sym (append-nil (kept turn.asker))
      ∙ ap (λ (l : List Verdict). kept turn.asker ++ l) (sym (none rules) ∙ ap (kept_of rules) (sym asks));
  change = sym (or_none turn.change) ∙ ap (λ (x : Option Change). option_or turn.change x) (sym change);
}

-- ---- the refusals that an authorizer keeps

abbrev refusal_of : Verdict → Refusal
refusal_of v = record { ask = v.ask; by = v.by }

refusals_again : (refusals : List Refusal) → map refusal_of (map verdict_of_refusal refusals) ≡ refusals
refusals_again [] = refl
refusals_again (r ∷ refusals) = ap (λ (l : List Refusal). r ∷ l) (refusals_again refusals)

-- what is kept alike of two lists of refusals is kept of one list
pub same_refusals : (one two : List Refusal) → map verdict_of_refusal one ≡ map verdict_of_refusal two → one ≡ two
same_refusals one two same = sym (refusals_again one) ∙ ap (map refusal_of) same ∙ refusals_again two
