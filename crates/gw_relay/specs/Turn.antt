-- How far a walk over a datagram has come: what it asks, sends and changes.
use Rattle.std.specs.Prelude.{◌≡◌, ◌++◌, List}
use Rattle.std.specs.Option.{option_or}
use Rattle.gw_rules.specs.Ask.{Ask}
use Rattle.gw_rules.specs.declared.rule.Rule.{Rule}
use Rattle.gw_rules.specs.declared.verdict.Verdict.{Verdict}
use Rattle.gw_relay.specs.Response.{Response}
use Rattle.gw_relay.specs.declared.turn.Turn.{Turn}

-- A walk goes one step on: these sends are added to those before, what the asker keeps of these asks is
-- added to what it kept, and this change is to be committed if there was none.
pub record IsWalked {A : Type 0} (kept : A → List Verdict) (kept_of : List Rule → List Ask → List Verdict)
    (rules : List Rule) (due : Response) (old new : Turn A) : Type 0 where
  pub sends : new.sends ≡ old.sends ++ due.sends
  pub verdicts : kept new.asker ≡ kept old.asker ++ kept_of rules due.asks
  pub change : new.change ≡ option_or old.change due.change
