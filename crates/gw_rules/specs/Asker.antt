-- What an asker keeps of the asks that are put to it.
use Rattle.std.specs.Prelude.{◌&&◌, Bool, false, List, map, not}
use Rattle.gw_rules.specs.declared.refusal.Refusal.{Refusal}
use Rattle.gw_rules.specs.declared.rule.Rule.{Rule}
use Rattle.gw_rules.specs.declared.verdict.Verdict.{Verdict}
use Rattle.gw_rules.specs.Ask.{Ask}
use Rattle.gw_rules.specs.RuleList.{allows, first, is_quiet_by}

-- an ask, and what the policy says of it
abbrev pub verdict : List Rule → Ask → Verdict
verdict rules ask = record {
  ask = ask;
  is_allowed = allows rules ask;
  by = first rules ask;
  is_quiet = is_quiet_by rules (first rules ask);
}

-- of each ask, in order
abbrev pub verdicts_of : List Rule → List Ask → List Verdict
verdicts_of rules asks = map (verdict rules) asks

-- a verdict that is logged: it denies, and not by a quiet rule
abbrev pub is_refused : Verdict → Bool
is_refused v = not v.is_allowed && not v.is_quiet

-- a refusal is the verdict on an ask that is denied by a rule that isn't quiet, or by none
abbrev pub verdict_of_refusal : Refusal → Verdict
verdict_of_refusal refusal = record { ask = refusal.ask; is_allowed = false; by = refusal.by; is_quiet = false }

-- what contracts see of a recorder
pub record RecorderState (J : Type 0) : Type 0 where
  pub judge : J
  pub verdicts : List Verdict
