-- The objects of pairs of rules have numbers below 2^64, and aren't deep.
use Rattle.std.proofs.Common.{ℕ, ◌^◌, ◌<◌, ◌≤◌, true, false, List, [], ◌∷◌, Option, None, Some, decimal, arith}
use Rattle.std.specs.Prelude.{codes}
use Rattle.json.specs.Json.{boolean, null, number, string, no_members}
use Rattle.gw_ask_sets.specs.declared.regions.pairs.ShownPair.{ShownPair}
use Rattle.gw_audit.specs.Line.{key_octets, operation_named}
use Rattle.gw_json.specs.Ask.{key_or_null, key_value, number_value, operation_value, station_word}
use Rattle.gw_json.specs.Comparison.{rules_value, verdict_word}
use Rattle.gw_json.specs.Laws.{AskFits, Fits, GivenUpRead, PairedRead, PairsRead}
use Rattle.gw_json.specs.Results.{given_up_value, pair_value, paired_value}
use Rattle.gw_json.specs.Unheld.{ask_value}
use Rattle.gw_json.proofs.Documents.{IsShallow, boolean_shallow, line_read, member_shallow, none_shallow, null_shallow, number_shallow, object_shallow, or_shallow, string_shallow}
use Rattle.gw_json.proofs.Shallow.{rules_shallow}
use Rattle.gw_rules.specs.Ask.{Ask}
use Rattle.gw_rules.specs.Operation.{operation_name}
use Rattle.gw_rules.specs.declared.rule.Rule.{Rule}

maybe_shallow : (value : Option ℕ) → Fits value → IsShallow 0 (number_value value)
maybe_shallow None fits = null_shallow 0
maybe_shallow (Some n) fits = number_shallow 0 n fits

operation_shallow : (value : Option ℕ) → Fits value → IsShallow 0 (operation_value true value)
operation_shallow None fits = null_shallow 0
operation_shallow (Some n) fits =
    or_shallow 0 (λ operation. string (operation_name operation)) (operation_named true n) (number (decimal n))
    (λ operation. string_shallow 0 (operation_name operation)) (number_shallow 0 n fits)

key_shallow : (key : Option ℕ) → IsShallow 0 (key_or_null key)
key_shallow key = or_shallow 0 key_value key null (λ k. string_shallow 0 (station_word (key_octets k))) (null_shallow 0)

ask_shallow : (ask : Ask) → AskFits ask → IsShallow 1 (ask_value ask)
ask_shallow ask fits =
    object_shallow 0 _ (member_shallow 0 (codes "port") (number_value ask.port) _ (maybe_shallow ask.port fits.port)
    (member_shallow 0 (codes "source_network") (number_value ask.source_network) _ (maybe_shallow ask.source_network fits.source_network)
    (member_shallow 0 (codes "source") (key_or_null ask.source_key) _ (key_shallow ask.source_key)
    (member_shallow 0 (codes "operation") (operation_value true ask.operation) _ (operation_shallow ask.operation fits.operation)
    (member_shallow 0 (codes "destination") (number_value ask.destination_network) _ (maybe_shallow ask.destination_network fits.destination_network)
    (member_shallow 0 (codes "service") (number_value ask.service) _ (maybe_shallow ask.service fits.service)
    (member_shallow 0 (codes "object_type") (number_value ask.object_type) _ (maybe_shallow ask.object_type fits.object_type)
    (member_shallow 0 (codes "instance") (number_value ask.instance) _ (maybe_shallow ask.instance fits.instance)
    (member_shallow 0 (codes "property") (number_value ask.property) _ (maybe_shallow ask.property fits.property)
    (member_shallow 0 (codes "priority") (number_value ask.priority) _ (maybe_shallow ask.priority fits.priority)
    (member_shallow 0 (codes "sender") (key_or_null ask.sender) _ (key_shallow ask.sender)
    (member_shallow 0 (codes "station") (key_or_null ask.station) no_members (key_shallow ask.station) (none_shallow 0)))))))))))))

pub pairs_read : PairsRead
pairs_read old new shown fits =
    let by = shown.pair.new ∷ [] in
    let was = shown.pair.old ∷ [] in
    line_read 2 (pair_value old new shown) (omega arith)
    (object_shallow 1 _ (member_shallow 1 (codes "verdict") (string (verdict_word shown.pair.allows)) _ (string_shallow 1 (verdict_word shown.pair.allows))
    (member_shallow 1 (codes "by") (rules_value new by) _ (rules_shallow new by)
    (member_shallow 1 (codes "was_by") (rules_value old was) _ (rules_shallow old was)
    (member_shallow 1 (codes "ask") (ask_value shown.ask) no_members (ask_shallow shown.ask fits) (none_shallow 1))))))

pub paired_read : PairedRead
paired_read pairs steps few short =
    line_read 1 (paired_value pairs steps) (omega arith)
    (object_shallow 0 _ (member_shallow 0 (codes "pairs") (number (decimal pairs)) _ (number_shallow 0 pairs few)
    (member_shallow 0 (codes "finished") (boolean true) _ (boolean_shallow 0 true)
    (member_shallow 0 (codes "steps") (number (decimal steps)) no_members (number_shallow 0 steps short) (none_shallow 0)))))

pub given_up_read : GivenUpRead
given_up_read kinds steps pairs given_up some short few others =
    line_read 1 (given_up_value kinds steps pairs given_up) (omega arith)
    (object_shallow 0 _ (member_shallow 0 (codes "kinds") (number (decimal kinds)) _ (number_shallow 0 kinds some)
    (member_shallow 0 (codes "finished") (boolean false) _ (boolean_shallow 0 false)
    (member_shallow 0 (codes "steps") (number (decimal steps)) _ (number_shallow 0 steps short)
    (member_shallow 0 (codes "pairs") (number (decimal pairs)) _ (number_shallow 0 pairs few)
    (member_shallow 0 (codes "given_up") (number (decimal given_up)) no_members (number_shallow 0 given_up others) (none_shallow 0)))))))
