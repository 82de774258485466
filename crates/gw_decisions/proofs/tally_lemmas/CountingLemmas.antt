-- The count goes on line by line.
use Rattle.std.proofs.Common.{◌≡◌, ◌∙◌, ◌<◌, ◌+◌, ℕ, List, [], ◌∷◌, ◌++◌, length, rules, Option, Some, None, Result, Ok, Err, true, false, refl, sym, ap, subst, arith, append_assoc}
use Rattle.std.specs.Prelude.{cond, nat_eq}
use Rattle.std.proofs.lemmas.List.{append-nil, length-append}
use Rattle.std.proofs.lemmas.List.Sums.{sum_by-append}
use Rattle.gw_rules.specs.Ask.{Ask}
use Rattle.gw_rules.specs.declared.rule.Rule.{Rule}
use Rattle.gw_script.specs.Script.{lines_of}
use Rattle.gw_script.specs.declared.lines.LinesFault.{LinesFault}
use Rattle.gw_script.specs.declared.lines.LinesFault.TheVariants.{Line, Memory, Read, Write}
use Rattle.gw_script.proofs.Passing.{Passes, passes_on}
use Rattle.gw_decisions.specs.tally.Counting.{CountsAll, IsCountedIn, IsNext, SayAsks, SaysAsk}
use Rattle.gw_decisions.specs.tally.Tally.{AddsOne, IsTally, decided, place}

-- these lines are done, these are the asks that they say and the counts of them, and this text is left
pub record Progress (rules : List Rule) (text : List ℕ) (n : ℕ) (known : Option (List ℕ)) (counts : List ℕ) : Type 0 where
  pub asks : List Ask
  pub done : List (List ℕ)
  pub left : List ℕ
  pub say : SayAsks done asks
  pub lines : lines_of text ≡ done ++ lines_of left
  pub known_is : known ≡ Some left
  pub tally : IsTally rules asks counts
  pub number : n ≡ length done + 1

say_more : (lines : List (List ℕ)) (asks : List Ask) (line : List ℕ) (ask : Ask) → SayAsks lines asks → SaysAsk line ask
    → SayAsks (lines ++ line ∷ []) (asks ++ ask ∷ [])
say_more [] [] line ask say says = (says, tt)
say_more [] (x ∷ asks) line ask say says = absurd say
say_more (l ∷ lines) [] line ask say says = absurd say
say_more (l ∷ lines) (x ∷ asks) line ask say says = (say.0, say_more lines asks line ask say.1 says)

pub none_is_none : {A : Type 0} (x : A) → None ≡ Some x → ⊥
none_is_none x is = search rules

after_none : (n : ℕ) → 0 + n ≡ n
after_none n = omega arith

-- one ask more is counted
decided_more : (rules : List Rule) (k : ℕ) (asks : List Ask) (ask : Ask)
    → decided rules k (asks ++ ask ∷ []) ≡ decided rules k asks + cond (nat_eq (place rules ask) k) 1 0
decided_more rules k asks ask =
    sum_by-append (λ (a : Ask). cond (nat_eq (place rules a) k) 1 0) asks (ask ∷ [])
    ∙ ap (λ (n : ℕ). decided rules k asks + n) (after_none (cond (nat_eq (place rules ask) k) 1 0))

tally_more : (rules : List Rule) (asks : List Ask) (ask : Ask) (before after : List ℕ) → IsTally rules asks before
    → AddsOne (place rules ask) before after → IsTally rules (asks ++ ask ∷ []) after
tally_more rules asks ask before after tally adds = record {
  places = adds.places ∙ tally.places;
  each = λ k within.
      let was : k < length before = subst (λ (n : ℕ). k < n) adds.places within in
      adds.each k was ∙ ap (λ (n : ℕ). n + cond (nat_eq (place rules ask) k) 1 0) (tally.each k was) ∙ sym (decided_more rules k asks ask);
}

module _ (rules : List Rule) (text : List ℕ) where
  pub begins : (known : Option (List ℕ)) (counts : List ℕ) → known ≡ Some text → IsTally rules [] counts
      → Progress rules text 1 known counts
  begins known counts is tally = record {
    asks = [];
    done = [];
    left = text;
    say = tt;
    lines = refl;
    known_is = is;
    tally = tally;
    number = refl;
  }

  module _ (n : ℕ) (known left : Option (List ℕ)) (before after : List ℕ) (p : Progress rules text n known before) where
    pub goes_on : IsNext rules n p.left left before after (Ok true) → Progress rules text (n + 1) left after
    goes_on step = record {
      asks = p.asks ++ step.ask ∷ [];
      done = p.done ++ step.line ∷ [];
      left = step.rest;
      say = say_more p.done p.asks step.line step.ask p.say step.says;
      lines = p.lines ∙ ap (λ (l : List (List ℕ)). p.done ++ l) step.lines ∙ sym (append_assoc p.done (step.line ∷ []) (lines_of step.rest));
      known_is = step.remains;
      tally = tally_more rules p.asks step.ask before after p.tally step.adds;
      number = omega (arith, p.number, length-append p.done (step.line ∷ []));
    }

    pub ends : IsNext rules n p.left left before after (Ok false) → CountsAll rules text after
    ends said =
        let all : lines_of text ≡ p.done = p.lines ∙ ap (λ (l : List (List ℕ)). p.done ++ l) said.0 ∙ append-nil p.done in record {
          asks = p.asks;
          say = subst (λ (l : List (List ℕ)). SayAsks l p.asks) (sym all) p.say;
          tally = subst (λ (counts : List ℕ). IsTally rules p.asks counts) (sym said.1) p.tally;
        }

    ends_at : (fault : LinesFault) → IsNext rules n p.left left before after (Err fault) → IsCountedIn rules text after (Err fault)
    ends_at (Line m) said = record {
      done = p.done;
      asks = p.asks;
      say = p.say;
      number = said.0 ∙ p.number;
      line = said.1.line;
      others = said.1.others;
      lines = p.lines ∙ ap (λ (l : List (List ℕ)). p.done ++ l) said.1.lines;
      untranslated = said.1.untranslated;
    }
    ends_at Read said = tt
    ends_at Write said = absurd said
    ends_at Memory said = tt

    pub ends_passed : (fault : LinesFault) (r : Result (Unit {0}) LinesFault) → Passes fault r
        → IsNext rules n p.left left before after (Err fault) → IsCountedIn rules text after r
    ends_passed fault r passes said =
        passes_on (λ (q : Result (Unit {0}) LinesFault). IsCountedIn rules text after q) fault r passes (ends_at fault said)
