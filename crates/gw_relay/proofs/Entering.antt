-- What is asked before a message is taken reads nothing.
use Rattle.std.proofs.Common.{Bool, true, false, List, [], ◌∷◌}
use Rattle.std.specs.Prelude.{if◌then◌else◌}
use Rattle.std.specs.List.{AllByRecursion, list_all}
use Rattle.gw_rules.specs.Ask.{Ask, IsFor}
use Rattle.gw_rules.specs.RuleList.{allows}
use Rattle.gw_rules.specs.declared.format.Format.{Format}
use Rattle.gw_rules.specs.declared.operation.Operation.TheVariants.{Read}
use Rattle.gw_rules.specs.declared.rule.Rule.{Rule}
use Rattle.gw_relay.specs.Entry.{claim_ask, enter_ask, is_stranger, speaks_for_others}
use Rattle.gw_relay.specs.Laws.{EntryAsksReadNothing}
use Rattle.gw_relay.specs.Message.{Message}
use Rattle.gw_relay.specs.internal.Entering.{asks_where}

reads_none : List Ask → Type 0
reads_none asks = AllByRecursion (λ ask. IsFor Read ask → ⊥) asks

claims_read_nothing : (b speaks : Bool) (format : Format) (m : Message)
    → reads_none (if b then (if speaks then claim_ask format m ∷ [] else []) else [])
unfolding reads_none
claims_read_nothing false speaks format m = tt
claims_read_nothing true false format m = tt
claims_read_nothing true true format m = (λ e. absurd cc, tt)

asks_read_nothing : (rules : List Rule) (format : Format) (m : Message) (stranger speaks : Bool)
    → reads_none (asks_where rules format m stranger speaks)
unfolding reads_none
asks_read_nothing rules format m false speaks = claims_read_nothing true speaks format m
asks_read_nothing rules format m true speaks =
    (λ e. absurd cc, claims_read_nothing (list_all (allows rules) (enter_ask format m ∷ [])) speaks format m)

pub entry_asks_read_nothing : EntryAsksReadNothing
unfolding reads_none
entry_asks_read_nothing rules relay m =
    asks_read_nothing rules relay.format m (is_stranger relay.format m) (speaks_for_others relay m)
