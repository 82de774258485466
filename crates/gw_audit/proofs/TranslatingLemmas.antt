-- The line of a denial, and what it shows.
use Rattle.std.proofs.Common.{◌≡◌, inl, inr, ℕ, suc, ◌^◌, ◌<◌, Bool, true, false, List, [], ◌∷◌, ◌++◌, length, Option, Some, None, refl, sym, ap, ap₂, subst, ◌∙◌, arith}
use Rattle.std.specs.Prelude.{◌==◌, if◌then◌else◌, codes, is_some, IfSome}
use Rattle.std.specs.Fmt.{decimal}
use Rattle.std.specs.List.{flat_map}
use Rattle.std.specs.Option.{IsSomeAnd, option_and_then, option_map}
use Rattle.std.specs.Str.{IsUtf8}
use Rattle.std.proofs.lemmas.Bool.{eqb-true}
use Rattle.std.proofs.lemmas.List.{append_cancel_right}
use Rattle.gw_addr.specs.Address.{big_endian}
use Rattle.gw_addr.specs.Reading.{AreOctets}
use Rattle.gw_addr.specs.Station.{key_of, two_digits}
use Rattle.gw_addr.specs.Text.{Lacks}
use Rattle.gw_addr.proofs.Addresses.{key_below}
use Rattle.gw_addr.proofs.Lacking.{not_in_decimal, same_split}
use Rattle.gw_rules.specs.Fields.{value_of}
use Rattle.gw_rules.specs.Format.{key_in}
use Rattle.gw_rules.specs.declared.field.FieldName.{FieldName}
use Rattle.gw_rules.specs.declared.field.FieldName.TheVariants.{Operation, Port, SourceNetwork, SourceKey, DestinationNetwork, Service, ObjectType, Instance, Property, Priority, Sender, Station}
use Rattle.gw_audit.specs.declared.denial.Denial.{Denial}
use Rattle.gw_audit.specs.declared.entry.ShownAsk.{ShownAsk}
use Rattle.gw_audit.specs.declared.entry.Stations.{Stations}
use Rattle.gw_audit.specs.Entry.{IsAskInWords, IsLineOf, IsShowable, IsShownAsk, ShowsAsk, ask_shown, format_shown, shown_ask}
use Rattle.gw_audit.specs.Laws.{AreShownAlike, IsDenial}
use Rattle.gw_audit.specs.Line.{field_text, line_text, operation_word, stations_of, stations_text}
use Rattle.gw_audit.specs.internal.Reading.{◌>>=◌, Gives, ask_at, ask_in, ask_of_parts, behind, denial_of_parts, line_in, name_of, number_to, rule_at, rule_of, shown_by, whole_ask, with_both, word_at}
use Rattle.gw_audit.proofs.AskLemmas.{WholeRead, ask_again, ask_on, ask_takes, ask_whole, behind_again, behind_takes, net_small, number_to_again, number_to_takes, priority_on, request_of, request_on, source_on, stations_end, target_of, target_on, whole_again, whole_takes, word_again, word_lacks, word_takes}
use Rattle.gw_audit.proofs.Fields.{IsSmall, colon, operation_spaceless, space}
use Rattle.gw_audit.proofs.KeyLemmas.{keyed_below}
use Rattle.gw_audit.proofs.LineLemmas.{AreSmall, names_both, stations_from, stations_small, step}
use Rattle.gw_audit.proofs.ReadingLemmas.{first_is, name_takes, name_there, pair, second_is, some, some_is, step_of}

-- ---- the line without its line feed

body : Denial → List ℕ
body d =
    decimal d.number ++ codes " " ++ decimal d.tick ++ codes " " ++ decimal d.port
    ++ codes " " ++ decimal d.source.net ++ codes ":" ++ flat_map two_digits d.source.mac
    ++ codes " " ++ operation_word (is_some d.ask.sender) d.ask.operation
    ++ codes " dst=" ++ field_text d.ask.destination_network
    ++ codes " svc=" ++ field_text d.ask.service
    ++ codes " obj=" ++ field_text d.ask.object_type ++ codes "," ++ field_text d.ask.instance
    ++ codes " prop=" ++ field_text d.ask.property
    ++ codes " prio=" ++ field_text d.ask.priority
    ++ codes " rule=" ++ d.rule ++ stations_text (stations_of d.ask)

fed : (d : Denial) → line_text d ≡ body d ++ 10 ∷ []
unfolding line_text body
fed d = refl

abbrev end_on : Denial → List ℕ
end_on d = codes " rule=" ++ (d.rule ++ stations_text (stations_of d.ask))

line_on : Denial → List ℕ
line_on d =
    decimal d.number ++ 32 ∷ (decimal d.tick ++ 32 ∷ ask_on (shown_ask d) (operation_word (is_some d.ask.sender) d.ask.operation) (end_on d))

whole_body : (d : Denial) → body d ≡ line_on d
unfolding body line_on ask_on source_on request_on target_on priority_on
whole_body d =
    let s = shown_ask d in
    let last = end_on d in
    let word = operation_word (is_some d.ask.sender) d.ask.operation in
    let prio = priority_on s.priority last in
    let prop = codes "prop=" ++ (field_text s.property ++ 32 ∷ prio) in
    let object = target_on (target_of s) prio in
    let asked = request_on (request_of s) object in
    step _ (codes " rule=") d.rule (stations_text (stations_of d.ask))
    ∙ step _ (codes " prio=") (field_text s.priority) last
    ∙ step _ (codes " prop=") (field_text s.property) (32 ∷ prio)
    ∙ step _ (codes ",") (field_text s.instance) (32 ∷ prop)
    ∙ step _ (codes " obj=") (field_text s.object_type) (44 ∷ (field_text s.instance ++ 32 ∷ prop))
    ∙ step _ (codes " svc=") (field_text s.service) (32 ∷ object)
    ∙ step _ (codes " dst=") (field_text s.destination_network) (32 ∷ (codes "svc=" ++ (field_text s.service ++ 32 ∷ object)))
    ∙ step _ (codes " ") word (32 ∷ asked)
    ∙ step _ (codes ":") (flat_map two_digits s.source.mac) (32 ∷ (word ++ 32 ∷ asked))
    ∙ step _ (codes " ") (decimal s.source.net) (58 ∷ (flat_map two_digits s.source.mac ++ 32 ∷ (word ++ 32 ∷ asked)))
    ∙ step _ (codes " ") (decimal d.port) (32 ∷ source_on s.source (word ++ 32 ∷ asked))
    ∙ step (decimal d.number) (codes " ") (decimal d.tick) (32 ∷ ask_on s word last)

is_line : (text : List ℕ) (d : Denial) → text ≡ line_on d → IsLineOf text d
is_line text d e = ap (λ (t : List ℕ). t ++ 10 ∷ []) (e ∙ sym (whole_body d)) ∙ sym (fed d)

line_is : (text : List ℕ) (d : Denial) → IsLineOf text d → text ≡ line_on d
line_is text d e = append_cancel_right text (body d) (10 ∷ []) (e ∙ fed d) ∙ whole_body d

-- ---- the numbers of a denial

key_small : (stations : Option Stations) (mac : List ℕ) → AreOctets mac → IfSome (key_in (format_shown stations) mac) (λ n. n < 2 ^ 64)
key_small None mac fits = by (length mac == 6) refl
  where
    by : (b : Bool) → (length mac == 6) ≡ b → IfSome (if b then Some (big_endian mac) else None) (λ n. n < 2 ^ 64)
    by true e = omega (arith, key_below mac (eqb-true (length mac) 6 e) fits)
    by false e = tt
key_small (Some s) mac fits = by (key_of mac) refl
  where
    by : (found : Option ℕ) → key_of mac ≡ found → IfSome found (λ n. n < 2 ^ 64)
    by None e = tt
    by (Some n) e = keyed_below mac n fits e

sender_small : (stations : Option Stations) → AreSmall stations → IsSmall (option_map (λ s. s.sender) stations)
sender_small None fits = tt
sender_small (Some s) fits = fits.sender

station_small : (stations : Option Stations) → AreSmall stations → IsSmall (option_and_then (λ s. s.station) stations)
station_small None fits = tt
station_small (Some s) fits = fits.station

asked_small : (s : ShownAsk) → IsShownAsk s → (field : FieldName) → IfSome (value_of field (ask_shown s)) (λ n. n < 2 ^ 64)
asked_small s is field = elim field as (λ field. IfSome (value_of field (ask_shown s)) (λ n. n < 2 ^ 64)) [
  | Operation ↦ is.operation
  | Port ↦ omega (arith, is.port)
  | SourceNetwork ↦ omega (arith, net_small s.source.net is.network)
  | SourceKey ↦ key_small s.stations s.source.mac is.mac
  | DestinationNetwork ↦ is.destination_network
  | Service ↦ is.service
  | ObjectType ↦ is.object_type
  | Instance ↦ is.instance
  | Property ↦ is.property
  | Priority ↦ is.priority
  | Sender ↦ sender_small s.stations is.stations
  | Station ↦ station_small s.stations is.stations
]

shown_small : (d : Denial) → IsShowable d → IsShownAsk (shown_ask d)
shown_small d is = record {
  port = is.numbers.port;
  network = is.network;
  station = is.station;
  mac = is.numbers.mac;
  operation = is.numbers.fields Operation;
  destination_network = is.numbers.fields DestinationNetwork;
  service = is.numbers.fields Service;
  object_type = is.numbers.fields ObjectType;
  instance = is.numbers.fields Instance;
  property = is.numbers.fields Property;
  priority = is.numbers.fields Priority;
  stations = stations_small d.ask.sender d.ask.station (is.numbers.fields Sender) (is.numbers.fields Station);
}

-- the stations of an ask that is shown so
abbrev sender_of : Option Stations → Option ℕ
sender_of stations = option_map (λ s. s.sender) stations

pub stations_back : (stations : Option Stations) → stations_from (sender_of stations) (option_and_then (λ s. s.station) stations) ≡ stations
stations_back None = refl
stations_back (Some s) = refl

named_back : (stations : Option Stations) → is_some (sender_of stations) ≡ is_some stations
named_back None = refl
named_back (Some s) = refl

-- ---- a line

record RuleRead (text name rest : List ℕ) : Type 0 where
  spelled : text ≡ codes " rule=" ++ (name ++ rest)
  utf8 : IsUtf8 name
  lacks : Lacks 32 name

rule_takes : (text name rest : List ℕ) → rule_at text ≡ Some (name, rest) → RuleRead text name rest
rule_takes text name rest e =
    let label = step_of (behind (codes " rule=") text) (λ behind. rule_of (word_at behind)) (pair name rest) e in
    let word = word_at label.value in
    let named = step_of (name_of word.0) (λ n. Some (pair n word.1)) (pair name rest) label.goes_on in
    let both : pair named.value word.1 ≡ pair name rest = some_is (pair named.value word.1) (pair name rest) named.goes_on in
    let is = name_takes word.0 named.value named.gave in
    let same : word.0 ≡ name = is.0 ∙ first_is named.value name word.1 rest both in
    let parts : text ≡ codes " rule=" ++ (word.0 ++ word.1) =
    behind_takes (codes " rule=") text label.value label.gave ∙ ap (λ (t : List ℕ). codes " rule=" ++ t) (word_takes label.value) in
    record {
      spelled = parts ∙ ap₂ (λ (x y : List ℕ). codes " rule=" ++ (x ++ y)) same (second_is named.value name word.1 rest both);
      utf8 = subst IsUtf8 (first_is named.value name word.1 rest both) is.1;
      lacks = subst (Lacks 32) same (word_lacks label.value);
    }

rule_again : (name : List ℕ) (stations : Option Stations) → IsUtf8 name → Lacks 32 name
    → rule_at (codes " rule=" ++ (name ++ stations_text stations)) ≡ Some (name, stations_text stations)
rule_again name stations is lacks =
    ap (λ x. x >>= (λ behind. rule_of (word_at behind))) (behind_again (codes " rule=") (name ++ stations_text stations))
    ∙ ap rule_of (word_again name (stations_text stations) lacks (stations_end stations))
    ∙ ap (λ x. x >>= (λ n. Some (pair n (stations_text stations)))) (name_there name is)

abbrev with_whole : ℕ → ℕ → List ℕ → ShownAsk → Option Denial
with_whole number tick rule ask = Some (denial_of_parts number tick ask rule)

abbrev with_rule : ℕ → ℕ → ShownAsk × List ℕ × List ℕ → List ℕ × List ℕ → Option Denial
with_rule number tick asked rule = whole_ask asked.0 asked.1 rule.1 >>= with_whole number tick rule.0

abbrev with_ask : ℕ → ℕ → ShownAsk × List ℕ × List ℕ → Option Denial
with_ask number tick asked = rule_at asked.2 >>= with_rule number tick asked

abbrev with_tick : ℕ → ℕ × List ℕ → Option Denial
with_tick number tick = ask_at tick.1 >>= with_ask number tick.0

abbrev with_number : ℕ × List ℕ → Option Denial
with_number number = number_to 32 number.1 >>= with_tick number.0

pub record Taken (text : List ℕ) (d : Denial) : Type 0 where
  pub line : IsLineOf text d
  pub is : IsShowable d

-- an ask whose parts fit, and its end too
whole_fits : (ask : ShownAsk) (word end : List ℕ) (s : ShownAsk) → IsShownAsk ask → WholeRead ask word end s → IsShownAsk s
whole_fits ask word end s is read = subst IsShownAsk read.same (record {
  port = is.port;
  network = is.network;
  station = is.station;
  mac = is.mac;
  operation = read.operation;
  destination_network = is.destination_network;
  service = is.service;
  object_type = is.object_type;
  instance = is.instance;
  property = is.property;
  priority = is.priority;
  stations = read.stations;
})

-- its words, too
whole_spelled : (ask : ShownAsk) (word end rest : List ℕ) (s : ShownAsk) → WholeRead ask word end s
    → ask_on ask word rest ≡ ask_on s (operation_word (is_some s.stations) s.operation) rest
unfolding ask_on
whole_spelled ask word end rest s read =
    ap (λ (w : List ℕ). ask_on ask w rest) read.named
    ∙ ap (λ (x : ShownAsk). ask_on x (operation_word (is_some s.stations) s.operation) rest) read.same

-- the line of what is read
line_of_parts : (number tick : ℕ) (s : ShownAsk) (rule : List ℕ)
    → decimal number ++ 32 ∷ (decimal tick ++ 32 ∷ ask_on s (operation_word (is_some s.stations) s.operation) (codes " rule=" ++ (rule ++ stations_text s.stations)))
    ≡ line_on (denial_of_parts number tick s rule)
unfolding line_on ask_on
line_of_parts number tick s rule =
    rw (stations_back s.stations, named_back s.stations) refl

pub line_takes : (text : List ℕ) (d : Denial) → line_in text ≡ Some d → Taken text d
line_takes text d e =
    let number = step_of (number_to 32 text) with_number d e in
    let tick = step_of (number_to 32 number.value.1) (with_tick number.value.0) d number.goes_on in
    let asked = step_of (ask_at tick.value.1) (with_ask number.value.0 tick.value.0) d tick.goes_on in
    let rule = step_of (rule_at asked.value.2) (with_rule number.value.0 tick.value.0 asked.value) d asked.goes_on in
    let ask = step_of (whole_ask asked.value.0 asked.value.1 rule.value.1) (with_whole number.value.0 tick.value.0 rule.value.0) d rule.goes_on in
    let s = ask.value in
    let made : Denial = denial_of_parts number.value.0 tick.value.0 s rule.value.0 in
    let same : made ≡ d = some_is made d ask.goes_on in
    let a = number_to_takes 32 text number.value.0 number.value.1 number.gave in
    let b = number_to_takes 32 number.value.1 tick.value.0 tick.value.1 tick.gave in
    let c = ask_takes tick.value.1 asked.value asked.gave in
    let f = rule_takes asked.value.2 rule.value.0 rule.value.1 rule.gave in
    let g = whole_takes asked.value.0 asked.value.1 rule.value.1 s ask.gave in
    let fits = whole_fits asked.value.0 asked.value.1 rule.value.1 s c.fits g in
    let end : asked.value.2 ≡ codes " rule=" ++ (rule.value.0 ++ stations_text s.stations) =
    f.spelled ∙ ap (λ (t : List ℕ). codes " rule=" ++ (rule.value.0 ++ t)) g.ends in
    let parts : text ≡ line_on made =
    a.0 ∙ ap (λ (t : List ℕ). decimal number.value.0 ++ 32 ∷ t) b.0
    ∙ ap (λ (t : List ℕ). decimal number.value.0 ++ 32 ∷ (decimal tick.value.0 ++ 32 ∷ t)) (c.spelled ∙ ap (ask_on asked.value.0 asked.value.1) end
    ∙ whole_spelled asked.value.0 asked.value.1 rule.value.1 (codes " rule=" ++ (rule.value.0 ++ stations_text s.stations)) s g)
    ∙ line_of_parts number.value.0 tick.value.0 s rule.value.0 in
    let numbers : IsDenial made = record {
      number = a.1;
      tick = b.1;
      port = fits.port;
      network = net_small s.source.net fits.network;
      mac = fits.mac;
      fields = asked_small s fits;
      spaceless = f.lacks;
    } in
    let taken : Taken text made = record {
      line = is_line text made parts;
      is = record { numbers = numbers; network = fits.network; station = fits.station; name = f.utf8 };
    } in
    subst (Taken text) same taken

pub line_again : (text : List ℕ) (d : Denial) → IsShowable d → IsLineOf text d
    → line_in text ≡ Some (denial_of_parts d.number d.tick (shown_ask d) d.rule)
unfolding line_on
line_again text d is e =
    let s = shown_ask d in
    let fits = shown_small d is in
    let named = is_some d.ask.sender in
    let word = operation_word named d.ask.operation in
    let shown : is_some s.stations ≡ named = names_both d.ask.sender d.ask.station in
    let last = end_on d in
    let bare = ask_of_parts s.port s.source (request_of s) (target_of s) s.priority in
    let a = number_to_again 32 d.number (decimal d.tick ++ 32 ∷ ask_on s word last) space is.numbers.number in
    let b = number_to_again 32 d.tick (ask_on s word last) space is.numbers.tick in
    let c = ask_again s word last fits (operation_spaceless named d.ask.operation fits.operation) (inr (codes "rule=" ++ (d.rule ++ stations_text s.stations), refl)) in
    let f = rule_again d.rule s.stations is.name is.numbers.spaceless in
    let g : whole_ask bare word (stations_text s.stations) ≡ Some s =
    ap (λ (n : Bool). whole_ask bare (operation_word n d.ask.operation) (stations_text s.stations)) (sym shown) ∙ whole_again s fits in
    ap line_in (line_is text d e) ∙ ap (λ x. x >>= with_number) a ∙ ap (λ x. x >>= with_tick d.number) b
    ∙ ap (λ x. x >>= with_ask d.number d.tick) c ∙ ap (λ x. x >>= with_rule d.number d.tick (bare, word, last)) f
    ∙ ap (λ x. x >>= with_whole d.number d.tick d.rule) g

-- the ask of the denial of an ask
pub shown_again : (number tick : ℕ) (rule : List ℕ) (s : ShownAsk) → shown_ask (denial_of_parts number tick s rule) ≡ s
shown_again number tick rule s = ap (with_both s s.operation) (stations_back s.stations)

-- two denials that a line shows alike
pub shown_alike : (d : Denial) → AreShownAlike d (denial_of_parts d.number d.tick (shown_ask d) d.rule)
shown_alike d = record {
  number = refl;
  tick = refl;
  port = refl;
  source = refl;
  operation = refl;
  destination_network = refl;
  service = refl;
  object_type = refl;
  instance = refl;
  property = refl;
  priority = refl;
  stations = sym (stations_back (stations_of d.ask));
  rule = refl;
}

-- ---- words alone

ask_in_takes : (text : List ℕ) (s : ShownAsk) → ask_in text ≡ Some s → IsAskInWords text s
ask_in_takes text s e =
    let asked = step_of (ask_at text) (λ asked. whole_ask asked.0 asked.1 asked.2) s e in
    let c = ask_takes text asked.value asked.gave in
    let g = whole_takes asked.value.0 asked.value.1 asked.value.2 s asked.goes_on in
    let word = operation_word (is_some s.stations) s.operation in
    record {
      numbers = whole_fits asked.value.0 asked.value.1 asked.value.2 s c.fits g;
      spelled = c.spelled ∙ ap (ask_on asked.value.0 asked.value.1) g.ends
          ∙ whole_spelled asked.value.0 asked.value.1 asked.value.2 (stations_text s.stations) s g ∙ sym (ask_whole s);
    }

words_on : (text : List ℕ) (s : ShownAsk) → IsAskInWords text s → text ≡ ask_on s (operation_word (is_some s.stations) s.operation) (stations_text s.stations)
words_on text s words = words.spelled ∙ ask_whole s

ask_in_again : (text : List ℕ) (s : ShownAsk) → IsAskInWords text s → ask_in text ≡ Some s
ask_in_again text s words =
    let fits = words.numbers in
    let word = operation_word (is_some s.stations) s.operation in
    ap ask_in (words_on text s words)
    ∙ ap (λ x. x >>= (λ asked. whole_ask asked.0 asked.1 asked.2))
    (ask_again s word (stations_text s.stations) fits (operation_spaceless (is_some s.stations) s.operation fits.operation) (stations_end s.stations))
    ∙ whole_again s fits

-- a number ends at one character only
two_ends : (xs ys a b : List ℕ) → Lacks 58 ys → Lacks 32 xs → xs ++ 58 ∷ a ≡ ys ++ 32 ∷ b → ⊥
two_ends [] [] a b ly lx e =
    let same : ◌≡◌ {A = ℕ} 58 32 = cc in
    omega (arith, same)
two_ends [] (y ∷ ys) a b ly lx e = ly 0 (omega arith) cc
two_ends (x ∷ xs) [] a b ly lx e = lx 0 (omega arith) cc
two_ends (x ∷ xs) (y ∷ ys) a b ly lx e =
    two_ends xs ys a b (λ i lt. ly (suc i) (omega arith)) (λ i lt. lx (suc i) (omega arith)) cc

-- so the words alone are no line
no_line : (text : List ℕ) (s : ShownAsk) (d : Denial) → IsAskInWords text s → Taken text d → ⊥
unfolding line_on ask_on source_on
no_line text s d words taken =
    let both = sym (words_on text s words) ∙ line_is text d taken.line in
    let asked = operation_word (is_some s.stations) s.operation ++ 32 ∷ request_on (request_of s) (target_on (target_of s) (priority_on s.priority (stations_text s.stations))) in
    let last = ask_on (shown_ask d) (operation_word (is_some d.ask.sender) d.ask.operation) (end_on d) in
    let port_small : s.port < 2 ^ 64 = omega (arith, words.numbers.port) in
    let net : s.source.net < 2 ^ 64 = omega (arith, net_small s.source.net words.numbers.network) in
    let behind = same_split 32 (decimal s.port) (decimal d.number) (source_on s.source asked) (decimal d.tick ++ 32 ∷ last)
    (not_in_decimal s.port 32 port_small space) (not_in_decimal d.number 32 taken.is.numbers.number space) both in
    two_ends (decimal s.source.net) (decimal d.tick) (flat_map two_digits s.source.mac ++ 32 ∷ asked) last
    (not_in_decimal d.tick 58 taken.is.numbers.tick colon) (not_in_decimal s.source.net 32 net space) behind.1

-- ---- a line or words alone

pub told_takes : (text : List ℕ) (s : ShownAsk) → shown_by (line_in text) text ≡ Some s → ShowsAsk text s
told_takes text s e = by (line_in text) refl e
  where
    by : (found : Option Denial) → line_in text ≡ found → shown_by found text ≡ Some s → ShowsAsk text s
    by None f h = inr (ask_in_takes text s h)
    by (Some d) f h =
        let taken = line_takes text d f in
        inl (record { denial = d; showable = taken.is; spelled = taken.line; ask = some_is (shown_ask d) s h })

pub told_again : (text : List ℕ) (s : ShownAsk) → ShowsAsk text s → shown_by (line_in text) text ≡ Some s
told_again text s (inl line) =
    ap (λ (found : Option Denial). shown_by found text) (line_again text line.denial line.showable line.spelled)
    ∙ ap (λ (x : ShownAsk). some x) (shown_again line.denial.number line.denial.tick line.denial.rule (shown_ask line.denial) ∙ line.ask)
told_again text s (inr words) = by (line_in text) refl
  where
    by : (found : Option Denial) → line_in text ≡ found → shown_by found text ≡ Some s
    by None f = ask_in_again text s words
    by (Some d) f = absurd (no_line text s d words (line_takes text d f))

-- ---- what a function returned, from what its reading gives

pub gives_found : {X Y : Type 0} (view : X → Y) (r : Option X) (reading : Option Y) (P : Y → Type 0) → Gives view r reading
    → ((y : Y) → reading ≡ Some y → P y) → IfSome r (λ x. P (view x))
gives_found view (Some x) reading P given holds = holds (view x) given
gives_found view None reading P given holds = tt

pub gives_only : {X Y : Type 0} (view : X → Y) (r : Option X) (reading : Option Y) (y : Y) (P : Y → Type 0) → Gives view r reading
    → reading ≡ Some y → P y → IsSomeAnd r (λ x. P (view x))
gives_only view (Some x) reading y P given is holds = subst P (some_is y (view x) (sym is ∙ given)) holds
gives_only view None reading y P given is holds = absurd (let both = sym given ∙ is in cc)

pub is_found : {X : Type 0} (r : Option X) (P : X → Type 0) → ((x : X) → r ≡ Some x → P x) → IfSome r P
is_found (Some x) P holds = holds x refl
is_found None P holds = tt
