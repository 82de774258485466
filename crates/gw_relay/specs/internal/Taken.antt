-- Asks that are put and steps that are taken one after the other, as far as they have come.
use Rattle.std.specs.Prelude.{◌≡◌, Bool, List, ◌++◌}
use Rattle.std.specs.List.{list_all}
use Rattle.gw_rules.specs.Ask.{Ask}
use Rattle.gw_rules.specs.RuleList.{allows}
use Rattle.gw_rules.specs.declared.rule.Rule.{Rule}
use Rattle.gw_rules.specs.declared.verdict.Verdict.{Verdict}
use Rattle.gw_relay.specs.Steps.{Step, asks_of, sends_of}
use Rattle.gw_relay.specs.declared.turn.Turn.{Turn}

-- What these steps send is added to the sends, and what is kept of their asks to what was kept.
-- Nothing more is to be committed.
pub record AreTaken {A : Type 0} (kept : A → List Verdict) (kept_of : List Rule → List Ask → List Verdict)
    (rules : List Rule) (steps : List Step) (old new : Turn A) : Type 0 where
  pub sends : new.sends ≡ old.sends ++ sends_of rules steps
  pub verdicts : kept new.asker ≡ kept old.asker ++ kept_of rules (asks_of steps)
  pub change : new.change ≡ old.change

-- What is kept of these asks is added to what was kept; and the answer is whether all are allowed.
pub record AreAsked {A : Type 0} (kept : A → List Verdict) (kept_of : List Rule → List Ask → List Verdict)
    (rules : List Rule) (asks : List Ask) (old new : A) (allowed : Bool) : Type 0 where
  pub answer : allowed ≡ list_all (allows rules) asks
  pub verdicts : kept new ≡ kept old ++ kept_of rules asks
