use Rattle.std.proofs.Common.{◌≡◌, ◌<◌, ℕ, get_or}
use Rattle.gw_rules.specs.Ask.{Ask}
use Rattle.gw_rules.specs.declared.field.FieldName.{FieldName}
use Rattle.gw_rules.specs.declared.field.TheConstants.FieldName.{ALL}
use Rattle.gw_ask_sets.specs.regions.Merging.{has_but}
use Rattle.gw_ask_sets.proofs.regions.merging.same_but.Given as goal

abbrev pub invariant-loop-other : goal.invariant-loop-other
invariant-loop-other l = (k : ℕ) (d : FieldName) → k < l.other-index → (ask : Ask) → has_but l.field (get_or ALL k d) l.a ask ≡ has_but l.field (get_or ALL k d) l.b ask
