-- The asks of the lines, line by line.
use Rattle.std.proofs.Common.{◌≡◌, ◌∙◌, sym, ap, refl, subst, ℕ, true, false, ◌||◌, List, [], ◌∷◌, ◌++◌, append_assoc, Option, Some, None, Ok}
use Rattle.std.specs.Prelude.{not}
use Rattle.std.specs.List.{list_any}
use Rattle.std.specs.Option.{option_to_list}
use Rattle.std.proofs.lemmas.Grind.{flat_map-append}
use Rattle.std.proofs.lemmas.List.{append-nil}
use Rattle.std.proofs.lemmas.List.Elements.{filter-append}
use Rattle.std.proofs.lemmas.List.Folds.{list_any-append}
use Rattle.gw_audit.specs.Entry.{ShowsAsk}
use Rattle.gw_audit.specs.declared.entry.ShownAsk.{ShownAsk}
use Rattle.gw_rules.specs.Ask.{Ask}
use Rattle.gw_rules.specs.RuleList.{allows}
use Rattle.gw_rules.specs.declared.rule.Rule.{Rule}
use Rattle.gw_script.specs.Script.{lines_of}
use Rattle.gw_policy_drafts.specs.suggestion.Given.{denied}
use Rattle.gw_policy_drafts.specs.suggestion.Lines.{AreSeen, HaveAsks, IsTaken, HasAsk, TakesNext, asks_in, words_of}

told_more : (lines : List (List ℕ)) (shown_asks : List (Option Ask)) (line : List ℕ) (ask : Option Ask) → HaveAsks lines shown_asks → HasAsk line ask
    → HaveAsks (lines ++ line ∷ []) (shown_asks ++ ask ∷ [])
told_more [] [] line ask are is = (is, tt)
told_more [] (x ∷ shown_asks) line ask are is = absurd are
told_more (l ∷ lines) [] line ask are is = absurd are
told_more (l ∷ lines) (x ∷ shown_asks) line ask are is = (are.0, told_more lines shown_asks line ask are.1 is)

asks_more : (shown_asks : List (Option Ask)) (ask : Option Ask) → asks_in (shown_asks ++ ask ∷ []) ≡ asks_in shown_asks ++ option_to_list ask
asks_more shown_asks ask =
    flat_map-append option_to_list shown_asks (ask ∷ [])
    ∙ ap (λ (xs : List Ask). asks_in shown_asks ++ xs) (append-nil (option_to_list ask))

seen_more : (rules : List Rule) (done : List (List ℕ)) (line : List ℕ) (before after : List Ask) → AreSeen rules done before
    → IsTaken rules line before after → AreSeen rules (done ++ line ∷ []) after
seen_more rules done line before after seen taken = record {
  shown_asks = seen.shown_asks ++ taken.ask ∷ [];
  each = told_more done seen.shown_asks line taken.ask seen.each taken.shown_asks;
  same = λ test.
      taken.added test
      ∙ ap (λ b. b || list_any test (denied rules (option_to_list taken.ask))) (seen.same test)
      ∙ sym (list_any-append test (denied rules (asks_in seen.shown_asks)) (denied rules (option_to_list taken.ask)))
      ∙ ap (list_any test) (
      sym (filter-append (λ ask. not (allows rules ask)) (asks_in seen.shown_asks) (option_to_list taken.ask))
      ∙ ap (denied rules) (sym (asks_more seen.shown_asks taken.ask))
      );
}

-- some first lines are taken, and the rest is left
pub record Progress (rules : List Rule) (log : List ℕ) (left : Option (List ℕ)) (given : List Ask) : Type 0 where
  pub done : List (List ℕ)
  pub rest : List ℕ
  pub remains : left ≡ Some rest
  pub lines : lines_of log ≡ done ++ lines_of rest
  pub seen : AreSeen rules done given

pub begins : (rules : List Rule) (log : List ℕ) (left : Option (List ℕ)) (given : List Ask) → left ≡ Some log → given ≡ []
    → Progress rules log left given
begins rules log left given known none = record {
  done = [];
  rest = log;
  remains = known;
  lines = refl;
  seen = record { shown_asks = []; each = tt; same = λ test. ap (list_any test) none };
}

pub goes_on : (rules : List Rule) (log : List ℕ) (left new : Option (List ℕ)) (before after : List Ask) → Progress rules log left before
    → ((text : List ℕ) → left ≡ Some text → TakesNext rules text new before after (Ok true)) → Progress rules log new after
goes_on rules log left new before after so_far step =
    let first = step so_far.rest so_far.remains in record {
      done = so_far.done ++ first.line ∷ [];
      rest = first.rest;
      remains = first.remains;
      lines = so_far.lines ∙ ap (λ (ls : List (List ℕ)). so_far.done ++ ls) first.lines
          ∙ sym (append_assoc so_far.done (first.line ∷ []) (lines_of first.rest));
      seen = seen_more rules so_far.done first.line before after so_far.seen first.taken;
    }

pub ends : (rules : List Rule) (log : List ℕ) (left new : Option (List ℕ)) (before after : List Ask) → Progress rules log left before
    → ((text : List ℕ) → left ≡ Some text → TakesNext rules text new before after (Ok false)) → AreSeen rules (lines_of log) after
ends rules log left new before after so_far step =
    let last = step so_far.rest so_far.remains in
    subst (λ (asks : List Ask). AreSeen rules (lines_of log) asks) (sym last.1)
    (subst (λ (ls : List (List ℕ)). AreSeen rules ls before)
    (sym (so_far.lines ∙ ap (λ (ls : List (List ℕ)). so_far.done ++ ls) last.0 ∙ append-nil so_far.done)) so_far.seen)

-- what isn't read as an ask shows none
pub tells_none : (line words : List ℕ) → words ≡ words_of line → ((ask : ShownAsk) → ShowsAsk words ask → None ≡ Some ask) → HasAsk line None
tells_none line words is only shown tells = never (only shown (subst (λ (text : List ℕ). ShowsAsk text shown) (sym is) tells))
  where
    never : ◌≡◌ {A = Option ShownAsk} None (Some shown) → ⊥
    never e = absurd (cc)
