-- The objects of a log and of answers have numbers below 2^64, and aren't deep.
use Rattle.std.proofs.Common.{◌≡◌, ℕ, zero, suc, ◌+◌, ◌-◌, ◌^◌, ◌<◌, inl, inr, length, Bool, true, false, List, [], ◌∷◌, ◌++◌, Option, Some, None, decimal, refl, sym, subst, arith, append_assoc}
use Rattle.std.specs.Prelude.{IfSome, codes, if◌then◌else◌, is_some, option_map, slice_get, ◌==◌}
use Rattle.std.specs.List.{AllByRecursion}
use Rattle.hex.specs.Hex.{encode_upper}
use Rattle.json.specs.Json.{Json, null, number, string, no_members}
use Rattle.gw_addr.specs.Station.{is_network}
use Rattle.gw_audit.specs.Entry.{IsShowable, IsShownAsk, ShowsAsk, ask_shown, shown_ask}
use Rattle.gw_audit.specs.Line.{operation_named}
use Rattle.gw_audit.specs.declared.denial.Denial.{Denial}
use Rattle.gw_audit.specs.declared.entry.ShownAsk.{ShownAsk}
use Rattle.gw_rules.proofs.First.{first_within}
use Rattle.gw_rules.specs.Ask.{Ask}
use Rattle.gw_rules.specs.Operation.{operation_name}
use Rattle.gw_rules.specs.RuleList.{IsNumberOf, allows, first, is_quiet_by}
use Rattle.gw_rules.specs.declared.rule.Rule.{Rule}
use Rattle.gw_rules.specs.declared.field.FieldName.TheVariants as fields
use Rattle.gw_json.specs.Ask.{ask_members, key_or_null, key_value, number_value, operation_value, sender_of, station_of, station_word}
use Rattle.gw_json.specs.Document.{members_of}
use Rattle.gw_json.specs.Laws.{AnswersRead, AnswersStay, DenialsRead, IsRead, OthersRead, ReadsAs}
use Rattle.gw_json.specs.Log.{denial_value, front_members, front_octets_members, octets_value, rule_members, text_value}
use Rattle.gw_policy_review.specs.Places.{line_of as table_line}
use Rattle.gw_json.specs.Why.{answer_value, beside_members, name_value, place_members, note_at, note_value, noted_value, quiet_members, rule_at}
use Rattle.gw_json.proofs.Documents.{AreShallow, IsShallow, boolean_shallow, chosen_shallow, line_read, member_shallow, none_shallow, null_shallow, number_shallow, object_shallow, or_shallow, string_shallow}

-- ---- values that may be missing

number_if : (o : Option ℕ) → IfSome o (λ n. n < 2 ^ 64) → IsShallow 0 (number_value o)
number_if None fits = null_shallow 0
number_if (Some n) fits = number_shallow 0 n fits

operation_if : (b : Bool) (o : Option ℕ) → IfSome o (λ n. n < 2 ^ 64) → IsShallow 0 (operation_value b o)
operation_if b None fits = null_shallow 0
operation_if b (Some n) fits =
    or_shallow 0 (λ o. string (operation_name o)) (operation_named b n) (number (decimal n)) (λ o. string_shallow 0 (operation_name o)) (number_shallow 0 n fits)

key_if : (o : Option ℕ) → IsShallow 0 (key_or_null o)
key_if o = or_shallow 0 key_value o null (λ key. string_shallow 0 _) (null_shallow 0)

-- ---- the members of an ask

-- the numbers of an ask that a line tells
pub record AreSmall (ask : ShownAsk) : Type 0 where
  pub port : ask.port < 2 ^ 64
  pub network : ask.source.net < 2 ^ 64
  pub operation : IfSome ask.operation (λ n. n < 2 ^ 64)
  pub destination_network : IfSome ask.destination_network (λ n. n < 2 ^ 64)
  pub service : IfSome ask.service (λ n. n < 2 ^ 64)
  pub object_type : IfSome ask.object_type (λ n. n < 2 ^ 64)
  pub instance : IfSome ask.instance (λ n. n < 2 ^ 64)
  pub property : IfSome ask.property (λ n. n < 2 ^ 64)
  pub priority : IfSome ask.priority (λ n. n < 2 ^ 64)

ask_shallow : (ask : ShownAsk) (rest : List (List ℕ × Json)) → AreSmall ask → AreShallow 0 (members_of rest) → AreShallow 0 (members_of (ask_members ask ++ rest))
ask_shallow ask rest small are =
    member_shallow 0 (codes "port") _ _ (number_shallow 0 ask.port small.port)
    (member_shallow 0 (codes "source_network") _ _ (number_shallow 0 ask.source.net small.network)
    (member_shallow 0 (codes "source") _ _ (string_shallow 0 (station_word ask.source.mac))
    (member_shallow 0 (codes "operation") _ _ (operation_if (is_some ask.stations) ask.operation small.operation)
    (member_shallow 0 (codes "destination") _ _ (number_if ask.destination_network small.destination_network)
    (member_shallow 0 (codes "service") _ _ (number_if ask.service small.service)
    (member_shallow 0 (codes "object_type") _ _ (number_if ask.object_type small.object_type)
    (member_shallow 0 (codes "instance") _ _ (number_if ask.instance small.instance)
    (member_shallow 0 (codes "property") _ _ (number_if ask.property small.property)
    (member_shallow 0 (codes "priority") _ _ (number_if ask.priority small.priority)
    (member_shallow 0 (codes "sender") _ _ (key_if (sender_of ask))
    (member_shallow 0 (codes "station") _ _ (key_if (station_of ask)) are)))))))))))

-- ---- a denial

narrow : (n : ℕ) → n < 2 ^ 8 → n < 2 ^ 64
narrow n less = omega (arith, less)

wide : (n : ℕ) → n < 2 ^ 16 → n < 2 ^ 64
wide n less = omega (arith, less)

small_denial : (d : Denial) → IsShowable d → AreSmall (shown_ask d)
small_denial d is =
    let small = is.numbers in record {
      port = narrow d.port small.port;
      network = wide d.source.net small.network;
      operation = small.fields fields.Operation;
      destination_network = small.fields fields.DestinationNetwork;
      service = small.fields fields.Service;
      object_type = small.fields fields.ObjectType;
      instance = small.fields fields.Instance;
      property = small.fields fields.Property;
      priority = small.fields fields.Priority;
    }

denial_read : (allowed : Bool) (front : List (List ℕ × Json)) (d : Denial) → IsShowable d → AreShallow 0 (members_of front)
    → IsRead (denial_value allowed front d)
denial_read allowed front d is are =
    line_read 1 (denial_value allowed front d) (omega arith)
    (object_shallow 0 _ (member_shallow 0 (codes "number") _ _ (number_shallow 0 d.number is.numbers.number)
    (member_shallow 0 (codes "tick") _ _ (number_shallow 0 d.tick is.numbers.tick)
    (ask_shallow (shown_ask d) (rule_members allowed d.rule ++ front) (small_denial d is)
    (member_shallow 0 (codes "allow") _ _ (boolean_shallow 0 allowed) (member_shallow 0 (codes "rule") (string d.rule) _ (string_shallow 0 d.rule) are))))))

text_shallow : (key text : List ℕ) → AreShallow 0 (members_of ((key, string text) ∷ []))
text_shallow key text = member_shallow 0 key (string text) no_members (string_shallow 0 text) (none_shallow 0)

pub denials_read : DenialsRead
denials_read d is = record {
  alone = denial_read false [] d is (none_shallow 0);
  fronted = λ allowed front. denial_read allowed (front_members front) d is (text_shallow (codes "front") front);
  by_octets = λ allowed front. denial_read allowed (front_octets_members front) d is (text_shallow (codes "front_octets") (encode_upper front));
}

-- ---- other lines

pub others_read : OthersRead
others_read line = (
  line_read 1 (text_value line) (omega arith) (object_shallow 0 _ (text_shallow (codes "line") line)),
  line_read 1 (octets_value line) (omega arith) (object_shallow 0 _ (text_shallow (codes "octets") (encode_upper line))),
)

-- ---- an answer

small_network : (n : ℕ) → is_network n ≡ true → n < 2 ^ 64
small_network n is = grind (arith, is)

small_words : (ask : ShownAsk) → IsShownAsk ask → AreSmall ask
small_words ask is = record {
  port = narrow ask.port is.port;
  network = small_network ask.source.net is.network;
  operation = is.operation;
  destination_network = is.destination_network;
  service = is.service;
  object_type = is.object_type;
  instance = is.instance;
  property = is.property;
  priority = is.priority;
}

small_told : (line : List ℕ) (ask : ShownAsk) → ShowsAsk line ask → AreSmall ask
small_told line ask (inl of) = subst AreSmall of.ask (small_denial of.denial of.showable)
small_told line ask (inr of) = small_words ask of.numbers

within_small : (o : Option ℕ) (rules : List Rule) → IfSome o (IsNumberOf rules) → length rules < 2 ^ 64 → IfSome o (λ n. n < 2 ^ 64)
within_small None rules within few = tt
within_small (Some n) rules within few = omega (arith, within.1, few)

by_small : (rules : List Rule) (ask : Ask) → length rules < 2 ^ 64 → IfSome (first rules ask) (λ n. n < 2 ^ 64)
by_small rules ask few = within_small (first rules ask) rules (first_within rules ask) few

name_shallow : (rule : Option Rule) → IsShallow 0 (name_value rule)
name_shallow rule = or_shallow 0 (λ r. string r.name) rule (string (codes "default")) (λ r. string_shallow 0 r.name) (string_shallow 0 (codes "default"))

note_shallow : (note : Option (List ℕ)) → IsShallow 0 (note_value note)
note_shallow note =
    or_shallow 0 noted_value note null (λ text. chosen_shallow 0 (length text == 0) null (string text) (null_shallow 0) (string_shallow 0 text)) (null_shallow 0)

quiet_shallow : (is_quiet : Bool) (rest : List (List ℕ × Json)) → AreShallow 0 (members_of rest) → AreShallow 0 (members_of (quiet_members is_quiet ++ rest))
quiet_shallow true rest are = member_shallow 0 (codes "quiet") _ _ (boolean_shallow 0 true) are
quiet_shallow false rest are = are

all_small : (bound : ℕ) (numbers : List ℕ) (place : ℕ) → AllByRecursion (λ n. n < bound) numbers → IfSome (slice_get numbers place) (λ n. n < bound)
all_small bound [] zero all = tt
all_small bound [] (suc place) all = tt
all_small bound (n ∷ numbers) zero all = all.0
all_small bound (n ∷ numbers) (suc place) all = all_small bound numbers place all.1

beside_shallow : (lines : List ℕ) (nth table : ℕ) (rest : List (List ℕ × Json)) → table < 2 ^ 63 → AllByRecursion (λ line. line < 2 ^ 64) lines
    → AreShallow 0 (members_of rest) → AreShallow 0 (members_of (beside_members lines nth (Some (table + 1)) ++ rest))
beside_shallow lines nth table rest fits few are = by (table + 1 == nth)
  where
    by : (same : Bool) → AreShallow 0 (members_of ((if same then [] else (codes "table", number_value (Some (table + 1))) ∷ (codes "line", number_value (table_line lines (table + 1))) ∷ []) ++ rest))
    by true = are
    by false =
        member_shallow 0 (codes "table") _ _ (number_if (Some (table + 1)) (omega (arith, fits)))
        (member_shallow 0 (codes "line") _ _ (number_if (table_line lines (table + 1)) (all_small (2 ^ 64) lines (table + 1 - 1) few)) are)

place_shallow : (tables lines : List ℕ) (by : Option ℕ) (rest : List (List ℕ × Json)) → AllByRecursion (λ table. table < 2 ^ 63) tables
    → AllByRecursion (λ line. line < 2 ^ 64) lines → AreShallow 0 (members_of rest) → AreShallow 0 (members_of (place_members tables lines by ++ rest))
place_shallow tables lines None rest places few are = are
place_shallow tables lines (Some nth) rest places few are = at (slice_get tables (nth - 1)) (all_small (2 ^ 63) tables (nth - 1) places)
  where
    at : (found : Option ℕ) → IfSome found (λ n. n < 2 ^ 63) → AreShallow 0 (members_of (beside_members lines nth (option_map (λ table. table + 1) found) ++ rest))
    at None fits = are
    at (Some table) fits = beside_shallow lines nth table rest fits few are

joined_shallow : (head second rest : List (List ℕ × Json)) → AreShallow 0 (members_of (head ++ (second ++ rest)))
    → AreShallow 0 (members_of ((head ++ second) ++ rest))
joined_shallow head second rest are =
    subst (λ (members : List (List ℕ × Json)). AreShallow 0 (members_of members)) (sym (append_assoc head second rest)) are

answer_shallow : (rules : List Rule) (notes : List (List ℕ)) (tables lines : List ℕ) (ask : ShownAsk) → length rules < 2 ^ 64
    → AllByRecursion (λ table. table < 2 ^ 63) tables → AllByRecursion (λ line. line < 2 ^ 64) lines → AreSmall ask
    → IsShallow 1 (answer_value rules notes (place_members tables lines) ask)
answer_shallow rules notes tables lines ask few places fit small =
    let by = first rules (ask_shown ask) in
    object_shallow 0 _ (member_shallow 0 (codes "allow") _ _ (boolean_shallow 0 (allows rules (ask_shown ask)))
    (member_shallow 0 (codes "rule") _ _ (name_shallow (rule_at rules by))
    (member_shallow 0 (codes "rule_number") _ _ (number_if by (by_small rules (ask_shown ask) few))
    (member_shallow 0 (codes "note") _ _ (note_shallow (note_at notes by))
    (joined_shallow (place_members tables lines by) (quiet_members (is_quiet_by rules by)) (ask_members ask)
    (place_shallow tables lines by (quiet_members (is_quiet_by rules by) ++ ask_members ask) places fit
    (quiet_shallow (is_quiet_by rules by) (ask_members ask) (ask_shallow ask [] small (none_shallow 0)))))))))

pub answers_stay : AnswersStay
answers_stay rules notes place ask loud none = rw (loud, none) refl

pub answers_read : AnswersRead
answers_read rules notes tables lines few places fit line text answer =
    let ask = answer.ask in
    let value = answer_value rules notes (place_members tables lines) ask in
    let made : IsRead value =
    line_read 1 value (omega arith) (answer_shallow rules notes tables lines ask few places fit (small_told line ask answer.translates)) in
    subst (λ (text : List ℕ). ReadsAs text value) (sym answer.answer) made
