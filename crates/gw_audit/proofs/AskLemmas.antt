-- Lines: what is read of one is there, and what is there is read.
use Rattle.std.proofs.Common.{◌≡◌, ◌≢◌, ◌⊎◌, inl, inr, ℕ, suc, ◌^◌, ◌<◌, Bool, true, false, List, [], ◌∷◌, ◌++◌, length, take, drop, get_or, Option, Some, None, refl, sym, ap, ap₂, subst, ◌∙◌, append-nil, arith}
use Rattle.std.specs.Prelude.{◌==◌, nat_lt, if◌then◌else◌, codes, is_some, position, nat_eq}
use Rattle.std.specs.Option.{option_map, option_map_or}
use Rattle.std.specs.Char.{IsAsciiDigit}
use Rattle.std.specs.Cmp.Lexicographic.{pointwise, same_text}
use Rattle.std.specs.Fmt.{decimal}
use Rattle.std.specs.List.{flat_map, position_or_len}
use Rattle.std.proofs.lemmas.Bool.{eq-eqb, eqb-true, lt-ltb, ltb-false, ltb-true, le-ltb}
use Rattle.std.proofs.lemmas.Bool.Decides.{nat_tests}
use Rattle.std.proofs.lemmas.List.{drop_at, get_or-take, length-take, take-append-drop, take_at}
use Rattle.std.proofs.lemmas.List.Sums.{fails_before_first}
use Rattle.gw_addr.specs.declared.station.Source.{Source}
use Rattle.gw_addr.specs.Reading.{AreOctets}
use Rattle.gw_addr.specs.Station.{is_network, is_station, two_digits}
use Rattle.gw_addr.specs.Text.{Lacks}
use Rattle.gw_addr.proofs.Lacking.{not_in_decimal}
use Rattle.gw_audit.specs.declared.entry.ShownAsk.{ShownAsk}
use Rattle.gw_audit.specs.declared.reading.Request.{Request}
use Rattle.gw_audit.specs.declared.reading.Target.{Target}
use Rattle.gw_audit.specs.Line.{field_text, key_text, operation_word, stations_text}
use Rattle.gw_audit.specs.Entry.{AreShownStations, IsShownAsk, ask_text}
use Rattle.gw_audit.specs.declared.entry.Stations.{Stations}
use Rattle.gw_audit.specs.internal.Parts.{station_text}
use Rattle.gw_audit.specs.internal.Reading.{◌>>=◌, key_in, key_to, named_stations, station_key, stations_in, whole_ask, with_both, ask_at, ask_of_parts, behind, field_in, field_to, labelled_to, mac_in, mac_to, net_of, number_in, number_to, operation_in, parted_at, port_at, port_of, priority_at, priority_of, request_at, source_at, target_at, up_to, word_at, word_len}
use Rattle.gw_audit.proofs.Fields.{IsSmall, colon, comma, digits_lack, field_lacks, space}
use Rattle.gw_audit.proofs.LineLemmas.{AreSmall, stations_on, stations_right, stations_whole, step}
use Rattle.gw_audit.proofs.KeyLemmas.{key_again, key_lacks, key_takes, station_again, station_takes}
use Rattle.gw_audit.proofs.MacLemmas.{mac_again, mac_takes}
use Rattle.gw_audit.proofs.ReadingLemmas.{pair, field_again, field_takes, first_is, number_again, number_takes, operation_again, other_character, operation_takes, step_of, parted_again, parted_takes, place_first, same_as_itself, second_is, some_is}

-- ---- a word up to a character

pub record WordOf {A : Type 0} (read : List ℕ → Option A) (c : ℕ) (text : List ℕ) (value : A) (rest : List ℕ) : Type 0 where
  pub word : List ℕ
  pub parts : text ≡ word ++ c ∷ rest
  pub reads : read word ≡ Some value

up_to_takes : {A : Type 0} (read : List ℕ → Option A) (c : ℕ) (text : List ℕ) (value : A) (rest : List ℕ) → up_to read c text ≡ Some (value, rest)
    → WordOf read c text value rest
up_to_takes read c text value rest e =
    let parted = step_of (parted_at c text) (λ word. read word.0 >>= (λ value. Some (value, word.1))) (value, rest) e in
    let word = parted.value.0 in
    let behind = parted.value.1 in
    let took = step_of (read word) (λ value. Some (value, behind)) (value, rest) parted.goes_on in
    let is : pair took.value behind ≡ pair value rest = some_is (pair took.value behind) (pair value rest) took.goes_on in
    record {
      word = word;
      parts = parted_takes c text word behind parted.gave ∙ ap (λ (t : List ℕ). word ++ c ∷ t) (second_is took.value value behind rest is);
      reads = took.gave ∙ ap (λ x. Some x) (first_is took.value value behind rest is);
    }

up_to_again : {A : Type 0} (read : List ℕ → Option A) (c : ℕ) (word : List ℕ) (value : A) (rest : List ℕ) → Lacks c word → read word ≡ Some value
    → up_to read c (word ++ c ∷ rest) ≡ Some (value, rest)
up_to_again read c word value rest lacks e = rw (parted_again c word rest lacks, e) refl

pub number_to_takes : (c : ℕ) (text : List ℕ) (n : ℕ) (rest : List ℕ) → number_to c text ≡ Some (n, rest) → (text ≡ decimal n ++ c ∷ rest) × (n < 2 ^ 64)
number_to_takes c text n rest e =
    let took = up_to_takes number_in c text n rest e in
    let number = number_takes took.word n took.reads in
    (took.parts ∙ ap (λ (t : List ℕ). t ++ c ∷ rest) number.spelled, number.small)

pub number_to_again : (c n : ℕ) (rest : List ℕ) → ¬ (IsAsciiDigit c) → n < 2 ^ 64 → number_to c (decimal n ++ c ∷ rest) ≡ Some (n, rest)
number_to_again c n rest digit small =
    up_to_again number_in c (decimal n) n rest (not_in_decimal n c small digit) (number_again (decimal n) n small refl)

field_to_takes : (c : ℕ) (text : List ℕ) (value : Option ℕ) (rest : List ℕ) → field_to c text ≡ Some (value, rest)
    → (text ≡ field_text value ++ c ∷ rest) × IsSmall value
field_to_takes c text value rest e =
    let took = up_to_takes field_in c text value rest e in
    let field = field_takes took.word value took.reads in
    (took.parts ∙ ap (λ (t : List ℕ). t ++ c ∷ rest) field.0, field.1)

-- a character that ends a field
record EndsField (c : ℕ) : Type 0 where
  digit : ¬ (IsAsciiDigit c)
  other : 45 ≢ c

field_to_again : (c : ℕ) (value : Option ℕ) (rest : List ℕ) → EndsField c → IsSmall value → field_to c (field_text value ++ c ∷ rest) ≡ Some (value, rest)
field_to_again c value rest ends small =
    up_to_again field_in c (field_text value) value rest (field_lacks c ends.digit ends.other value small) (field_again value small)

at_space : EndsField 32
at_space = record { digit = space; other = λ e. absurd (omega arith) }

at_comma : EndsField 44
at_comma = record { digit = comma; other = λ e. absurd (omega arith) }

key_to_takes : (text : List ℕ) (n : ℕ) (rest : List ℕ) → key_to 32 text ≡ Some (n, rest) → (text ≡ key_text n ++ 32 ∷ rest) × (n < 2 ^ 64)
key_to_takes text n rest e =
    let took = up_to_takes key_in 32 text n rest e in
    let key = key_takes took.word n took.reads in
    (took.parts ∙ ap (λ (t : List ℕ). t ++ 32 ∷ rest) key.0, key.1)

key_to_again : (n : ℕ) (rest : List ℕ) → n < 2 ^ 64 → key_to 32 (key_text n ++ 32 ∷ rest) ≡ Some (n, rest)
key_to_again n rest small = up_to_again key_in 32 (key_text n) n rest (key_lacks 32 n (omega arith)) (key_again n small)

-- ---- a label

pub behind_takes : (label text rest : List ℕ) → behind label text ≡ Some rest → text ≡ label ++ rest
behind_takes label text rest e = by (pointwise nat_eq (take (length label) text) label) refl e
  where
    by : (b : Bool) → pointwise nat_eq (take (length label) text) label ≡ b
        → (if b then Some (drop (length label) text) else None) ≡ Some rest → text ≡ label ++ rest
    by true f h =
        let front : take (length label) text ≡ label = same_text (take (length label) text) label (sym f) in
        let is : drop (length label) text ≡ rest = some_is (drop (length label) text) rest h in
        sym (take-append-drop (length label) text) ∙ ap₂ (λ (x y : List ℕ). x ++ y) front is
    by false f h = absurd cc

pub behind_again : (label rest : List ℕ) → behind label (label ++ rest) ≡ Some rest
behind_again label rest =
    rw (take_at label rest (length label) refl, same_as_itself label, drop_at label rest (length label) refl) refl

labelled_takes : (label : List ℕ) (c : ℕ) (text : List ℕ) (value : Option ℕ) (rest : List ℕ) → labelled_to label c text ≡ Some (value, rest)
    → (text ≡ label ++ (field_text value ++ c ∷ rest)) × IsSmall value
labelled_takes label c text value rest e =
    let label_there = step_of (behind label text) (λ rest. field_to c rest) (value, rest) e in
    let field = field_to_takes c label_there.value value rest label_there.goes_on in
    (behind_takes label text label_there.value label_there.gave ∙ ap (λ (t : List ℕ). label ++ t) field.0, field.1)

labelled_again : (label : List ℕ) (c : ℕ) (value : Option ℕ) (rest : List ℕ) → EndsField c → IsSmall value
    → labelled_to label c (label ++ (field_text value ++ c ∷ rest)) ≡ Some (value, rest)
labelled_again label c value rest ends small =
    rw (behind_again label (field_text value ++ c ∷ rest)) (field_to_again c value rest ends small)

-- ---- the parts of an ask

unfoldable pub source_on : Source → List ℕ → List ℕ
source_on s rest = decimal s.net ++ 58 ∷ (flat_map two_digits s.mac ++ 32 ∷ rest)

unfoldable pub request_on : Request → List ℕ → List ℕ
request_on r rest =
    codes "dst=" ++ (field_text r.destination_network ++ 32 ∷ (codes "svc=" ++ (field_text r.service ++ 32 ∷ rest)))

unfoldable pub target_on : Target → List ℕ → List ℕ
target_on t rest =
    codes "obj=" ++ (field_text t.object_type ++ 44 ∷ (field_text t.instance
    ++ 32 ∷ (codes "prop=" ++ (field_text t.property ++ 32 ∷ rest))))

unfoldable pub priority_on : Option ℕ → List ℕ → List ℕ
priority_on p rest = codes "prio=" ++ (field_text p ++ rest)

port_takes : (text : List ℕ) (port : ℕ) (rest : List ℕ) → port_at text ≡ Some (port, rest) → (text ≡ decimal port ++ 32 ∷ rest) × (port < 2 ^ 8)
port_takes text port rest e =
    let number = step_of (number_to 32 text) (λ number. port_of number.0 >>= (λ port. Some (port, number.1))) (port, rest) e in
    let took = number_to_takes 32 text number.value.0 number.value.1 number.gave in
    by number.value.0 number.value.1 (nat_lt number.value.0 (2 ^ 8)) refl took.0 number.goes_on
  where
    by : (n : ℕ) (others : List ℕ) (b : Bool) → nat_lt n (2 ^ 8) ≡ b → text ≡ decimal n ++ 32 ∷ others
        → ((if b then Some n else None) >>= (λ port. Some (pair port others))) ≡ Some (pair port rest)
        → (text ≡ decimal port ++ 32 ∷ rest) × (port < 2 ^ 8)
    by n others true f parts h =
        let is : pair n others ≡ pair port rest = some_is (pair n others) (pair port rest) h in
        let number = first_is n port others rest is in
        (parts ∙ ap₂ (λ (k : ℕ) (t : List ℕ). decimal k ++ 32 ∷ t) number (second_is n port others rest is), subst (λ (k : ℕ). k < 2 ^ 8) number (ltb-true n (2 ^ 8) f))
    by n others false f parts h = absurd cc

port_again : (port : ℕ) (rest : List ℕ) → port < 2 ^ 8 → port_at (decimal port ++ 32 ∷ rest) ≡ Some (port, rest)
port_again port rest small =
    let fits : nat_lt port (2 ^ 8) ≡ true = lt-ltb port (2 ^ 8) small in
    rw (number_to_again 32 port rest space (omega (arith, small)), fits) refl

pub record IsSource (s : Source) : Type 0 where
  pub network : is_network s.net ≡ true
  pub station : is_station s.mac ≡ true
  pub octets : AreOctets s.mac

net_takes : (number net : ℕ) → net_of number ≡ Some net → (number ≡ net) × (is_network net ≡ true)
net_takes number net e = by (nat_lt number (2 ^ 16)) (is_network number) refl refl e
  where
    by : (b n : Bool) → nat_lt number (2 ^ 16) ≡ b → is_network number ≡ n
        → (if b then (if n then Some number else None) else None) ≡ Some net → (number ≡ net) × (is_network net ≡ true)
    by true true f g h =
        let is = some_is number net h in
        (is, subst (λ (k : ℕ). is_network k ≡ true) is g)
    by true false f g h = absurd cc
    by false n f g h = absurd cc

pub net_small : (net : ℕ) → is_network net ≡ true → net < 2 ^ 16
net_small net is = grind (arith, nat_tests)

net_again : (net : ℕ) → is_network net ≡ true → net_of net ≡ Some net
net_again net is =
    let fits : nat_lt net (2 ^ 16) ≡ true = lt-ltb net (2 ^ 16) (net_small net is) in
    rw (fits, is) refl

abbrev station : ℕ → List ℕ → Source
station net mac = record { net = net; mac = mac }

mac_to_takes : (text mac rest : List ℕ) → mac_to 32 text ≡ Some (mac, rest)
    → (text ≡ flat_map two_digits mac ++ 32 ∷ rest) × (is_station mac ≡ true) × AreOctets mac
mac_to_takes text mac rest e =
    let took = up_to_takes mac_in 32 text mac rest e in
    let is = mac_takes took.word mac took.reads in
    (took.parts ∙ ap (λ (t : List ℕ). t ++ 32 ∷ rest) is.spelled, is.station, is.octets)

mac_to_again : (mac rest : List ℕ) → is_station mac ≡ true → AreOctets mac → mac_to 32 (flat_map two_digits mac ++ 32 ∷ rest) ≡ Some (mac, rest)
mac_to_again mac rest is fits =
    up_to_again mac_in 32 (flat_map two_digits mac) mac rest (digits_lack 32 (omega arith) mac) (mac_again mac is fits)

source_takes : (text : List ℕ) (s : Source) (rest : List ℕ) → source_at text ≡ Some (s, rest) → (text ≡ source_on s rest) × IsSource s
unfolding source_on
source_takes text s rest e =
    let number = step_of (number_to 58 text) (λ number. net_of number.0 >>= (λ net. mac_to 32 number.1 >>= (λ mac. Some (pair (station net mac.0) mac.1)))) (pair s rest) e in
    let net = step_of (net_of number.value.0) (λ net. mac_to 32 number.value.1 >>= (λ mac. Some (pair (station net mac.0) mac.1))) (pair s rest) number.goes_on in
    let mac = step_of (mac_to 32 number.value.1) (λ mac. Some (pair (station net.value mac.0) mac.1)) (pair s rest) net.goes_on in
    let is : pair (station net.value mac.value.0) mac.value.1 ≡ pair s rest = some_is (pair (station net.value mac.value.0) mac.value.1) (pair s rest) mac.goes_on in
    let source : station net.value mac.value.0 ≡ s = first_is (station net.value mac.value.0) s mac.value.1 rest is in
    let behind : mac.value.1 ≡ rest = second_is (station net.value mac.value.0) s mac.value.1 rest is in
    let digits = number_to_takes 58 text number.value.0 number.value.1 number.gave in
    let network = net_takes number.value.0 net.value net.gave in
    let octets = mac_to_takes number.value.1 mac.value.0 mac.value.1 mac.gave in
    let parts : text ≡ source_on (station net.value mac.value.0) mac.value.1 =
    digits.0 ∙ ap₂ (λ (k : ℕ) (t : List ℕ). decimal k ++ 58 ∷ t) network.0 octets.0 in
    let fits : IsSource (station net.value mac.value.0) = record { network = network.1; station = octets.1; octets = octets.2 } in
    (parts ∙ ap₂ source_on source behind, subst IsSource source fits)

source_again : (s : Source) (rest : List ℕ) → IsSource s → source_at (source_on s rest) ≡ Some (s, rest)
unfolding source_on
source_again s rest is =
    let small = net_small s.net is.network in
    rw (number_to_again 58 s.net (flat_map two_digits s.mac ++ 32 ∷ rest) colon (omega (arith, small)), net_again s.net is.network, mac_to_again s.mac rest is.station is.octets) refl

record IsRequest (r : Request) : Type 0 where
  destination_network : IsSmall r.destination_network
  service : IsSmall r.service

abbrev pub request : Option ℕ → Option ℕ → Request
request destination service = record { destination_network = destination; service = service }

abbrev with_service : Option ℕ → Option ℕ × List ℕ → Option (Request × List ℕ)
with_service destination service = Some (pair (request destination service.0) service.1)

abbrev with_destination : Option ℕ × List ℕ → Option (Request × List ℕ)
with_destination destination = labelled_to (codes "svc=") 32 destination.1 >>= with_service destination.0

request_takes : (text : List ℕ) (r : Request) (rest : List ℕ) → request_at text ≡ Some (r, rest) → (text ≡ request_on r rest) × IsRequest r
unfolding request_on
request_takes text r rest e =
    let destination = step_of (labelled_to (codes "dst=") 32 text) with_destination (pair r rest) e in
    let service = step_of (labelled_to (codes "svc=") 32 destination.value.1) (with_service destination.value.0) (pair r rest) destination.goes_on in
    let made : Request = request destination.value.0 service.value.0 in
    let is : pair made service.value.1 ≡ pair r rest = some_is (pair made service.value.1) (pair r rest) service.goes_on in
    let same : made ≡ r = first_is made r service.value.1 rest is in
    let behind : service.value.1 ≡ rest = second_is made r service.value.1 rest is in
    let b = labelled_takes (codes "dst=") 32 text destination.value.0 destination.value.1 destination.gave in
    let c = labelled_takes (codes "svc=") 32 destination.value.1 service.value.0 service.value.1 service.gave in
    let parts : text ≡ request_on made service.value.1 =
    b.0 ∙ ap (λ (t : List ℕ). codes "dst=" ++ (field_text destination.value.0 ++ 32 ∷ t)) c.0 in
    let fits : IsRequest made = record { destination_network = b.1; service = c.1 } in
    (parts ∙ ap₂ request_on same behind, subst IsRequest same fits)

request_again : (r : Request) (rest : List ℕ) → IsRequest r → request_at (request_on r rest) ≡ Some (r, rest)
unfolding request_on
request_again r rest is =
    let svc = codes "svc=" ++ (field_text r.service ++ 32 ∷ rest) in
    let b = labelled_again (codes "dst=") 32 r.destination_network svc at_space is.destination_network in
    let c = labelled_again (codes "svc=") 32 r.service rest at_space is.service in
    ap (λ x. x >>= with_destination) b ∙ ap (λ x. x >>= with_service r.destination_network) c

record IsTarget (t : Target) : Type 0 where
  object_type : IsSmall t.object_type
  instance : IsSmall t.instance
  property : IsSmall t.property

abbrev pub target : Option ℕ → Option ℕ → Option ℕ → Target
target kind instance property = record { object_type = kind; instance = instance; property = property }

target_takes : (text : List ℕ) (t : Target) (rest : List ℕ) → target_at text ≡ Some (t, rest) → (text ≡ target_on t rest) × IsTarget t
unfolding target_on
target_takes text t rest e =
    let kind = step_of (labelled_to (codes "obj=") 44 text) (λ kind. field_to 32 kind.1 >>= (λ instance. labelled_to (codes "prop=") 32 instance.1 >>= (λ property. Some (pair (target kind.0 instance.0 property.0) property.1)))) (pair t rest) e in
    let instance = step_of (field_to 32 kind.value.1) (λ instance. labelled_to (codes "prop=") 32 instance.1 >>= (λ property. Some (pair (target kind.value.0 instance.0 property.0) property.1))) (pair t rest) kind.goes_on in
    let property = step_of (labelled_to (codes "prop=") 32 instance.value.1) (λ property. Some (pair (target kind.value.0 instance.value.0 property.0) property.1)) (pair t rest) instance.goes_on in
    let made : Target = target kind.value.0 instance.value.0 property.value.0 in
    let is : pair made property.value.1 ≡ pair t rest = some_is (pair made property.value.1) (pair t rest) property.goes_on in
    let same : made ≡ t = first_is made t property.value.1 rest is in
    let behind : property.value.1 ≡ rest = second_is made t property.value.1 rest is in
    let a = labelled_takes (codes "obj=") 44 text kind.value.0 kind.value.1 kind.gave in
    let b = field_to_takes 32 kind.value.1 instance.value.0 instance.value.1 instance.gave in
    let c = labelled_takes (codes "prop=") 32 instance.value.1 property.value.0 property.value.1 property.gave in
    let parts : text ≡ target_on made property.value.1 =
    a.0 ∙ ap (λ (x : List ℕ). codes "obj=" ++ (field_text kind.value.0 ++ 44 ∷ x)) b.0
    ∙ ap (λ (x : List ℕ). codes "obj=" ++ (field_text kind.value.0 ++ 44 ∷ (field_text instance.value.0 ++ 32 ∷ x))) c.0 in
    let fits : IsTarget made = record { object_type = a.1; instance = b.1; property = c.1 } in
    (parts ∙ ap₂ target_on same behind, subst IsTarget same fits)

target_again : (t : Target) (rest : List ℕ) → IsTarget t → target_at (target_on t rest) ≡ Some (t, rest)
unfolding target_on
target_again t rest is =
    let prop = codes "prop=" ++ (field_text t.property ++ 32 ∷ rest) in
    let instance = field_text t.instance ++ 32 ∷ prop in
    let a = labelled_again (codes "obj=") 44 t.object_type instance at_comma is.object_type in
    let b = field_to_again 32 t.instance prop at_space is.instance in
    let c = labelled_again (codes "prop=") 32 t.property rest at_space is.property in
    ap (λ x. x >>= (λ kind. field_to 32 kind.1 >>= (λ instance. labelled_to (codes "prop=") 32 instance.1 >>= (λ property. Some (pair (target kind.0 instance.0 property.0) property.1))))) a
    ∙ ap (λ x. x >>= (λ instance. labelled_to (codes "prop=") 32 instance.1 >>= (λ property. Some (pair (target t.object_type instance.0 property.0) property.1)))) b
    ∙ ap (λ x. x >>= (λ property. Some (pair (target t.object_type t.instance property.0) property.1))) c

-- ---- the last word of an ask

-- what follows a word: nothing, or a space
abbrev pub EndsWord : List ℕ → Type 0
EndsWord rest = (rest ≡ []) ⊎ ((others : List ℕ) × (rest ≡ 32 ∷ others))

none_place : (c : ℕ) (word : List ℕ) → Lacks c word → position_or_len (λ x. x == c) word ≡ length word
none_place c [] lacks = refl
none_place c (x ∷ word) lacks =
    let other = other_character x c (lacks 0 (omega arith)) in
    let later = none_place c word (λ i lt. lacks (suc i) (omega arith)) in
    rw (other, later) (omega arith)

no_place : (c : ℕ) (word : List ℕ) → Lacks c word → position (λ x. x == c) word ≡ None
no_place c word lacks =
    let past : nat_lt (length word) (length word) ≡ false = le-ltb _ _ (omega arith) in
    rw (none_place c word lacks, past) refl

word_len_is : (word rest : List ℕ) → Lacks 32 word → EndsWord rest → word_len (word ++ rest) ≡ length word
word_len_is word rest lacks (inl none) =
    let whole : word ++ rest ≡ word = ap (λ (t : List ℕ). word ++ t) none ∙ append-nil word in
    ap word_len whole ∙ rw (no_place 32 word lacks) refl
word_len_is word rest lacks (inr space) =
    ap (λ (t : List ℕ). word_len (word ++ t)) space.1 ∙ rw (place_first 32 word space.0 lacks) refl

pub word_again : (word rest : List ℕ) → Lacks 32 word → EndsWord rest → word_at (word ++ rest) ≡ (word, rest)
word_again word rest lacks ends =
    let len = word_len_is word rest lacks ends in
    rw (len, take_at word rest (length word) refl, drop_at word rest (length word) refl) refl

pub word_takes : (text : List ℕ) → text ≡ (word_at text).0 ++ (word_at text).1
word_takes text = sym (take-append-drop (word_len text) text)

-- no space comes before the first
no_space_before : (text : List ℕ) (k : ℕ) → k < word_len text → k < length text → get_or text k 0 ≢ 32
no_space_before text k before within e =
    let passes : (get_or text k 0 == 32) ≡ true = eq-eqb (get_or text k 0) 32 e in
    let fails : k < position_or_len (λ x. x == 32) text → ⊥ =
    λ early. let none = fails_before_first (λ x. x == 32) text k 0 early in absurd (let both = sym none ∙ passes in cc) in
    by (nat_lt (position_or_len (λ x. x == 32) text) (length text)) refl fails before
  where
    by : (b : Bool) → nat_lt (position_or_len (λ x. x == 32) text) (length text) ≡ b → (k < position_or_len (λ x. x == 32) text → ⊥)
        → k < option_map_or (λ place. place) (if b then Some (position_or_len (λ x. x == 32) text) else None) (length text) → ⊥
    by true f fails early = fails early
    by false f fails early = fails (omega (arith, within, ltb-false (position_or_len (λ x. x == 32) text) (length text) f))

pub word_lacks : (text : List ℕ) → Lacks 32 (word_at text).0
word_lacks text k lt e =
    let len = length-take (word_len text) text in
    let before : k < word_len text = omega (arith, len, lt) in
    no_space_before text k before (omega (arith, len, lt)) (sym (get_or-take (word_len text) text k 0 before) ∙ e)

priority_takes : (text : List ℕ) (p : Option ℕ) (rest : List ℕ) → priority_at text ≡ Some (p, rest) → (text ≡ priority_on p rest) × IsSmall p
unfolding priority_on
priority_takes text p rest e =
    let label = step_of (behind (codes "prio=") text) (λ rest. priority_of (word_at rest)) (pair p rest) e in
    let word = word_at label.value in
    let value = step_of (field_in word.0) (λ value. Some (pair value word.1)) (pair p rest) label.goes_on in
    let is : pair value.value word.1 ≡ pair p rest = some_is (pair value.value word.1) (pair p rest) value.goes_on in
    let field = field_takes word.0 value.value value.gave in
    let number : value.value ≡ p = first_is value.value p word.1 rest is in
    let parts : text ≡ priority_on value.value word.1 =
    behind_takes (codes "prio=") text label.value label.gave
    ∙ ap (λ (t : List ℕ). codes "prio=" ++ t) (word_takes label.value ∙ ap (λ (t : List ℕ). t ++ word.1) field.0) in
    (parts ∙ ap₂ priority_on number (second_is value.value p word.1 rest is), subst IsSmall number field.1)

priority_again : (p : Option ℕ) (rest : List ℕ) → IsSmall p → EndsWord rest → priority_at (priority_on p rest) ≡ Some (p, rest)
unfolding priority_on
priority_again p rest small ends =
    let label = behind_again (codes "prio=") (field_text p ++ rest) in
    let word = word_again (field_text p) rest (field_lacks 32 space (λ e. absurd (omega arith)) p small) ends in
    ap (λ x. x >>= (λ rest. priority_of (word_at rest))) label ∙ ap priority_of word
    ∙ ap (λ x. x >>= (λ value. Some (pair value rest))) (field_again p small)

-- ---- an ask but for its operation and its stations

abbrev pub request_of : ShownAsk → Request
request_of s = request s.destination_network s.service

abbrev pub target_of : ShownAsk → Target
target_of s = target s.object_type s.instance s.property

unfoldable pub ask_on : ShownAsk → List ℕ → List ℕ → List ℕ
ask_on s word rest =
    decimal s.port ++ 32 ∷ source_on s.source (word ++ 32 ∷ request_on (request_of s) (target_on (target_of s) (priority_on s.priority rest)))

abbrev triple : ShownAsk → List ℕ → List ℕ → ShownAsk × List ℕ × List ℕ
triple s word rest = (s, word, rest)

abbrev with_priority : ℕ → Source → List ℕ → Request → Target → Option ℕ × List ℕ → Option (ShownAsk × List ℕ × List ℕ)
with_priority port source word request target priority = Some (triple (ask_of_parts port source request target priority.0) word priority.1)

abbrev with_target : ℕ → Source → List ℕ → Request → Target × List ℕ → Option (ShownAsk × List ℕ × List ℕ)
with_target port source word request target = priority_at target.1 >>= with_priority port source word request target.0

abbrev with_request : ℕ → Source → List ℕ → Request × List ℕ → Option (ShownAsk × List ℕ × List ℕ)
with_request port source word request = target_at request.1 >>= with_target port source word request.0

abbrev with_word : ℕ → Source → List ℕ × List ℕ → Option (ShownAsk × List ℕ × List ℕ)
with_word port source word = request_at word.1 >>= with_request port source word.0

abbrev with_source : ℕ → Source × List ℕ → Option (ShownAsk × List ℕ × List ℕ)
with_source port source = parted_at 32 source.1 >>= with_word port source.0

abbrev with_port : ℕ × List ℕ → Option (ShownAsk × List ℕ × List ℕ)
with_port port = source_at port.1 >>= with_source port.0

-- what is read of the eight words
pub record AskRead (text : List ℕ) (asked : ShownAsk × List ℕ × List ℕ) : Type 0 where
  pub spelled : text ≡ ask_on asked.0 asked.1 asked.2
  pub fits : IsShownAsk asked.0

pub ask_takes : (text : List ℕ) (asked : ShownAsk × List ℕ × List ℕ) → ask_at text ≡ Some asked → AskRead text asked
unfolding ask_on
ask_takes text asked e =
    let port = step_of (port_at text) with_port asked e in
    let source = step_of (source_at port.value.1) (with_source port.value.0) asked port.goes_on in
    let word = step_of (parted_at 32 source.value.1) (with_word port.value.0 source.value.0) asked source.goes_on in
    let request = step_of (request_at word.value.1) (with_request port.value.0 source.value.0 word.value.0) asked word.goes_on in
    let target = step_of (target_at request.value.1) (with_target port.value.0 source.value.0 word.value.0 request.value.0) asked request.goes_on in
    let priority = step_of (priority_at target.value.1) (with_priority port.value.0 source.value.0 word.value.0 request.value.0 target.value.0) asked target.goes_on in
    let ask : ShownAsk = ask_of_parts port.value.0 source.value.0 request.value.0 target.value.0 priority.value.0 in
    let made = triple ask word.value.0 priority.value.1 in
    let same : made ≡ asked = some_is made asked priority.goes_on in
    let a = port_takes text port.value.0 port.value.1 port.gave in
    let b = source_takes port.value.1 source.value.0 source.value.1 source.gave in
    let w = parted_takes 32 source.value.1 word.value.0 word.value.1 word.gave in
    let c = request_takes word.value.1 request.value.0 request.value.1 request.gave in
    let d = target_takes request.value.1 target.value.0 target.value.1 target.gave in
    let f = priority_takes target.value.1 priority.value.0 priority.value.1 priority.gave in
    let front : List ℕ → List ℕ = λ t. decimal port.value.0 ++ 32 ∷ source_on source.value.0 t in
    let parts : text ≡ ask_on ask word.value.0 priority.value.1 =
    a.0 ∙ ap (λ (t : List ℕ). decimal port.value.0 ++ 32 ∷ t) b.0
    ∙ ap front w
    ∙ ap (λ (t : List ℕ). front (word.value.0 ++ 32 ∷ t)) c.0
    ∙ ap (λ (t : List ℕ). front (word.value.0 ++ 32 ∷ request_on request.value.0 t)) d.0
    ∙ ap (λ (t : List ℕ). front (word.value.0 ++ 32 ∷ request_on request.value.0 (target_on target.value.0 t))) f.0 in
    let fits : IsShownAsk ask = record {
      port = a.1;
      network = b.1.network;
      station = b.1.station;
      mac = b.1.octets;
      operation = tt;
      destination_network = c.1.destination_network;
      service = c.1.service;
      object_type = d.1.object_type;
      instance = d.1.instance;
      property = d.1.property;
      priority = f.1;
      stations = tt;
    } in
    let read : AskRead text made = record { spelled = parts; fits = fits } in
    subst (AskRead text) same read

pub ask_again : (s : ShownAsk) (word rest : List ℕ) → IsShownAsk s → Lacks 32 word → EndsWord rest
    → ask_at (ask_on s word rest) ≡ Some (ask_of_parts s.port s.source (request_of s) (target_of s) s.priority, word, rest)
unfolding ask_on
ask_again s word rest is lacks ends =
    let prio = priority_on s.priority rest in
    let object = target_on (target_of s) prio in
    let asked = request_on (request_of s) object in
    let a = port_again s.port (source_on s.source (word ++ 32 ∷ asked)) is.port in
    let b = source_again s.source (word ++ 32 ∷ asked) (record { network = is.network; station = is.station; octets = is.mac }) in
    let w = parted_again 32 word asked lacks in
    let c = request_again (request_of s) object (record { destination_network = is.destination_network; service = is.service }) in
    let d = target_again (target_of s) prio (record { object_type = is.object_type; instance = is.instance; property = is.property }) in
    let f = priority_again s.priority rest is.priority ends in
    ap (λ x. x >>= with_port) a ∙ ap (λ x. x >>= with_source s.port) b ∙ ap (λ x. x >>= with_word s.port s.source) w
    ∙ ap (λ x. x >>= with_request s.port s.source word) c
    ∙ ap (λ x. x >>= with_target s.port s.source word (request_of s)) d
    ∙ ap (λ x. x >>= with_priority s.port s.source word (request_of s) (target_of s)) f

-- ---- the stations at the end

abbrev named_by : ℕ → Option ℕ → Stations
named_by sender other = record { sender = sender; station = other }

abbrev with_station : ℕ → Option ℕ → Option Stations
with_station sender other = Some (named_by sender other)

abbrev with_station_label : ℕ → List ℕ → Option Stations
with_station_label sender word = station_key word >>= with_station sender

abbrev with_sender : ℕ × List ℕ → Option Stations
with_sender sender = behind (codes "station=") sender.1 >>= with_station_label sender.0

abbrev with_sender_label : List ℕ → Option Stations
with_sender_label rest = key_to 32 rest >>= with_sender

named_takes : (text : List ℕ) (s : Stations) → named_stations text ≡ Some s → (text ≡ stations_text (Some s)) × AreShownStations s
named_takes text s e =
    let label = step_of (behind (codes " sender=") text) with_sender_label s e in
    let sender = step_of (key_to 32 label.value) with_sender s label.goes_on in
    let word = step_of (behind (codes "station=") sender.value.1) (with_station_label sender.value.0) s sender.goes_on in
    let other = step_of (station_key word.value) (with_station sender.value.0) s word.goes_on in
    let made = named_by sender.value.0 other.value in
    let same : made ≡ s = some_is made s other.goes_on in
    let a = behind_takes (codes " sender=") text label.value label.gave in
    let b = key_to_takes label.value sender.value.0 sender.value.1 sender.gave in
    let c = behind_takes (codes "station=") sender.value.1 word.value word.gave in
    let d = station_takes word.value other.value other.gave in
    let parts : text ≡ codes " sender=" ++ (key_text sender.value.0 ++ (codes " station=" ++ station_text other.value)) =
    a ∙ ap (λ (t : List ℕ). codes " sender=" ++ t) b.0
    ∙ ap (λ (t : List ℕ). codes " sender=" ++ (key_text sender.value.0 ++ 32 ∷ t)) c
    ∙ ap (λ (t : List ℕ). codes " sender=" ++ (key_text sender.value.0 ++ (codes " station=" ++ t))) d.0 in
    let whole : text ≡ stations_text (Some made) = parts ∙ sym (stations_right made) in
    let fits : AreShownStations made = record { sender = b.1; station = d.1 } in
    (whole ∙ ap (λ (x : Stations). stations_text (Some x)) same, subst AreShownStations same fits)

named_again : (s : Stations) → AreShownStations s → named_stations (stations_text (Some s)) ≡ Some s
named_again s fits =
    let last = station_text s.station in
    let a = behind_again (codes " sender=") (key_text s.sender ++ (codes " station=" ++ last)) in
    let b = key_to_again s.sender (codes "station=" ++ last) fits.sender in
    let c = behind_again (codes "station=") last in
    let d = station_again s.station fits.station in
    ap named_stations (stations_right s)
    ∙ ap (λ x. x >>= with_sender_label) a ∙ ap (λ x. x >>= with_sender) b ∙ ap (λ x. x >>= with_station_label s.sender) c
    ∙ ap (λ x. x >>= with_station s.sender) d

pub stations_take : (text : List ℕ) (stations : Option Stations) → stations_in text ≡ Some stations → (text ≡ stations_text stations) × AreSmall stations
stations_take text stations e = by (length text == 0) (named_stations text) refl refl e
  where
    empty : (rest : List ℕ) → length rest ≡ 0 → rest ≡ []
    empty [] len = refl
    empty (x ∷ rest) len = absurd (omega (arith, len))

    by : (b : Bool) (found : Option Stations) → (length text == 0) ≡ b → named_stations text ≡ found
        → (if b then Some None else option_map (λ s. Some s) found) ≡ Some stations
        → (text ≡ stations_text stations) × AreSmall stations
    by true found f g h =
        let is : None ≡ stations = some_is None stations h in
        subst (λ (x : Option Stations). (text ≡ stations_text x) × AreSmall x) is (empty text (eqb-true (length text) 0 f), tt)
    by false None f g h = absurd cc
    by false (Some s) f g h =
        let is : Some s ≡ stations = some_is (Some s) stations h in
        subst (λ (x : Option Stations). (text ≡ stations_text x) × AreSmall x) is (named_takes text s g)

pub stations_again : (stations : Option Stations) → AreSmall stations → stations_in (stations_text stations) ≡ Some stations
stations_again None fits = refl
stations_again (Some s) fits =
    let text = stations_text (Some s) in
    let some : (length text == 0) ≡ false = other_character (length text) 0 (λ e. absurd (omega (arith, e))) in
    ap (λ (b : Bool). if b then Some None else option_map (λ s. Some s) (named_stations text)) some
    ∙ ap (λ x. option_map (λ s. Some s) x) (named_again s fits)

pub stations_end : (stations : Option Stations) → EndsWord (stations_text stations)
stations_end None = inl refl
stations_end (Some s) = inr (stations_on s [], sym (append-nil (stations_text (Some s))) ∙ stations_whole s [])

-- ---- an ask with both

abbrev with_operation : ShownAsk → Option Stations → Option ℕ → Option ShownAsk
with_operation ask stations operation = Some (with_both ask operation stations)

abbrev with_stations : ShownAsk → List ℕ → Option Stations → Option ShownAsk
with_stations ask word stations = operation_in (is_some stations) word >>= with_operation ask stations

-- what is read of an ask and its end
pub record WholeRead (ask : ShownAsk) (word end : List ℕ) (s : ShownAsk) : Type 0 where
  pub same : with_both ask s.operation s.stations ≡ s
  pub named : word ≡ operation_word (is_some s.stations) s.operation
  pub ends : end ≡ stations_text s.stations
  pub operation : IsSmall s.operation
  pub stations : AreSmall s.stations

pub whole_takes : (ask : ShownAsk) (word end : List ℕ) (s : ShownAsk) → whole_ask ask word end ≡ Some s → WholeRead ask word end s
whole_takes ask word end s e =
    let stations = step_of (stations_in end) (with_stations ask word) s e in
    let operation = step_of (operation_in (is_some stations.value) word) (with_operation ask stations.value) s stations.goes_on in
    let made = with_both ask operation.value stations.value in
    let same : made ≡ s = some_is made s operation.goes_on in
    let a = stations_take end stations.value stations.gave in
    let b = operation_takes (is_some stations.value) word operation.value operation.gave in
    let read : WholeRead ask word end made = record { same = refl; named = b.0; ends = a.0; operation = b.1; stations = a.1 } in
    subst (WholeRead ask word end) same read

pub whole_again : (s : ShownAsk) → IsShownAsk s
    → whole_ask (ask_of_parts s.port s.source (request_of s) (target_of s) s.priority) (operation_word (is_some s.stations) s.operation) (stations_text s.stations) ≡ Some s
whole_again s is =
    let ask = ask_of_parts s.port s.source (request_of s) (target_of s) s.priority in
    ap (λ x. x >>= with_stations ask (operation_word (is_some s.stations) s.operation)) (stations_again s.stations is.stations)
    ∙ ap (λ x. x >>= with_operation ask s.stations) (operation_again (is_some s.stations) s.operation is.operation)

-- the words of an ask
pub ask_whole : (s : ShownAsk) → ask_text s ≡ ask_on s (operation_word (is_some s.stations) s.operation) (stations_text s.stations)
unfolding ask_text ask_on source_on request_on target_on priority_on
ask_whole s =
    let rest = stations_text s.stations in
    let prio = priority_on s.priority rest in
    let prop = codes "prop=" ++ (field_text s.property ++ 32 ∷ prio) in
    let object = target_on (target_of s) prio in
    let asked = request_on (request_of s) object in
    let word = operation_word (is_some s.stations) s.operation in
    step _ (codes " prio=") (field_text s.priority) rest
    ∙ step _ (codes " prop=") (field_text s.property) (32 ∷ prio)
    ∙ step _ (codes ",") (field_text s.instance) (32 ∷ prop)
    ∙ step _ (codes " obj=") (field_text s.object_type) (44 ∷ (field_text s.instance ++ 32 ∷ prop))
    ∙ step _ (codes " svc=") (field_text s.service) (32 ∷ object)
    ∙ step _ (codes " dst=") (field_text s.destination_network) (32 ∷ (codes "svc=" ++ (field_text s.service ++ 32 ∷ object)))
    ∙ step _ (codes " ") word (32 ∷ asked)
    ∙ step _ (codes ":") (flat_map two_digits s.source.mac) (32 ∷ (word ++ 32 ∷ asked))
    ∙ step (decimal s.port) (codes " ") (decimal s.source.net) (58 ∷ (flat_map two_digits s.source.mac ++ 32 ∷ (word ++ 32 ∷ asked)))
