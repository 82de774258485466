use Rattle.std.proofs.Common.{◌≡◌, ◌<◌, ℕ, get_or}
use Rattle.gw_rules.specs.Ask.{Ask}
use Rattle.gw_rules.specs.declared.field.FieldName.{FieldName}
use Rattle.gw_rules.specs.declared.field.TheConstants.FieldName.{ALL}
use Rattle.gw_policy_drafts.specs.suggestion.Own.{admits_but}
use Rattle.gw_policy_drafts.proofs.suggestion.group.same_but.Given as goal

abbrev pub invariant-loop-other : goal.invariant-loop-other
invariant-loop-other l = (k : ℕ) (d : FieldName) → k < l.other-index → (ask : Ask) → admits_but l.field (get_or ALL k d) l.a ask ≡ admits_but l.field (get_or ALL k d) l.b ask
