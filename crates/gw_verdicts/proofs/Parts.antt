-- What holds of each part of a message's asks holds of all of them.
use Rattle.std.proofs.Common.{◌≡◌, refl, Bool, true, false, List, [], ◌∷◌, ◌++◌}
use Rattle.std.specs.Prelude.{if◌then◌else◌}
use Rattle.std.specs.List.{AllByRecursion, list_all}
use Rattle.gw_objects.specs.Objects.{Database}
use Rattle.gw_relay.specs.Entry.{claim_ask, claim_asks, enter_ask, enter_asks, entry_asks, is_stranger, speaks_for_others}
use Rattle.gw_relay.specs.Message.{Message}
use Rattle.gw_relay.specs.State.{Relay}
use Rattle.gw_rules.specs.Ask.{Ask}
use Rattle.gw_rules.specs.RuleList.{allows}
use Rattle.gw_rules.specs.declared.rule.Rule.{Rule}
use Rattle.gw_rules.proofs.EachAsk.{each_both}
use Rattle.gw_core.specs.Asks.{asks_for, cast_asks_for, manage_asks_for, message_asks, route_asks_for}
use Rattle.gw_core.specs.Receive.{message}

pub each_part : (P : Ask → Type 0) (rules : List Rule) (relay : Relay) (d : Database) (m : Message)
    → AllByRecursion P (entry_asks rules relay m) → AllByRecursion P (cast_asks_for relay (message m))
    → AllByRecursion P (route_asks_for relay (message m)) → AllByRecursion P (manage_asks_for relay (message m))
    → AllByRecursion P (message_asks rules relay.format d m) → AllByRecursion P (asks_for rules relay d (message m))
each_part P rules relay d m entered cast routed answered served =
    let a = entry_asks rules relay m in
    let b = cast_asks_for relay (message m) in
    let c = route_asks_for relay (message m) in
    let e = manage_asks_for relay (message m) in
    each_both P (a ++ b ++ c ++ e) (message_asks rules relay.format d m)
    (each_both P (a ++ b ++ c) e (each_both P (a ++ b) c (each_both P a b entered cast) routed) answered) served

-- the asks before it is taken, each where it is raised
pub each_entry : (P : Ask → Type 0) (rules : List Rule) (relay : Relay) (m : Message)
    → (is_stranger relay.format m ≡ true → P (enter_ask relay.format m))
    → (speaks_for_others relay m ≡ true → P (claim_ask relay.format m)) → AllByRecursion P (entry_asks rules relay m)
each_entry P rules relay m enter claim =
    each_both P (enter_asks relay.format m) _ (one (is_stranger relay.format m) (enter_ask relay.format m) enter)
    (none (list_all (allows rules) (enter_asks relay.format m)) (claim_asks relay m) (one (speaks_for_others relay m) (claim_ask relay.format m) claim))
  where
    one : (b : Bool) (ask : Ask) → (b ≡ true → P ask) → AllByRecursion P (if b then ask ∷ [] else [])
    one true ask p = (p refl, tt)
    one false ask p = tt

    none : (b : Bool) (asks : List Ask) → AllByRecursion P asks → AllByRecursion P (if b then asks else [])
    none true asks p = p
    none false asks p = tt
