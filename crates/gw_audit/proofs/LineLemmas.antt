-- What is read back from a line.
use Rattle.std.proofs.Common.{◌≡◌, ◌≢◌, ℕ, ◌^◌, ◌<◌, List, [], ◌∷◌, ◌++◌, refl, sym, subst, ap, ap₂, ◌∙◌, arith, append_assoc, append-nil, cond, Option}
use Rattle.std.specs.Option.{option_map}
use Rattle.std.specs.Prelude.{◌==◌, find, if◌then◌else◌, nat_lt}
use Rattle.std.specs.Prelude.{codes, true, false, Bool, ◌&&◌, IfSome, IsTrue, is_some, length, nat_le, Some, None}
use Rattle.std.specs.Char.{IsAsciiDigit}
use Rattle.std.specs.Fmt.{decimal}
use Rattle.std.specs.List.{flat_map, list_all}
use Rattle.std.proofs.lemmas.Bool.{and_parts, ltb-true}
use Rattle.std.proofs.lemmas.Fmt.{decimal_injective}
use Rattle.std.proofs.lemmas.List.{append_cancel_left, append_cancel_right}
use Rattle.gw_addr.specs.declared.station.Source.{Source}
use Rattle.gw_addr.specs.Station.{two_digits}
use Rattle.gw_addr.specs.Text.{Lacks}
use Rattle.gw_addr.proofs.Lacking.{has_not_lacks, lacks_append, lacks_cons, not_in_decimal, same_split}
use Rattle.gw_rules.specs.declared.field.FieldName.TheVariants as named
use Rattle.gw_rules.specs.Operation.{operation_number}
use Rattle.gw_rules.specs.declared.operation.Operation.{Operation}
use Rattle.gw_rules.specs.declared.operation.Operation.TheVariants.{Enter, Claim}
use Rattle.gw_rules.specs.Name.{is_name, is_name_character}
use Rattle.gw_audit.specs.declared.denial.Denial.{Denial}
use Rattle.gw_audit.specs.Line.{field_text, key_text, line_text, operation_named, operation_of, operation_word, stations_of, stations_text}
use Rattle.gw_audit.specs.Entry.{AreShownStations}
use Rattle.gw_audit.specs.declared.entry.Stations.{Stations}
use Rattle.gw_audit.specs.internal.Parts.{station_text}
use Rattle.gw_audit.specs.Laws.{EndsOnce, IsDenial, IsOneLine, NamesOneDenial, StaysShort}
use Rattle.gw_audit.specs.Short.{eleven, short_line, short_operation}
use Rattle.gw_audit.proofs.ReadingLemmas.{other_character}
use Rattle.gw_audit.proofs.KeyLemmas.{key_lacks, key_same, station_lacks, station_same}
use Rattle.gw_audit.proofs.Fields.{colon, comma, digits_lack, digits_same, feed, field_lacks, field_same, has_none, lacks_by_test, lacks_in_none, of_number, operation_feedless, operation_same, operation_spaceless, space, IsSmall}

-- ---- the rest of a line from each field on

rule_on : Denial → List ℕ
rule_on d = codes "rule=" ++ (d.rule ++ (stations_text (stations_of d.ask) ++ 10 ∷ []))

prio_on : Denial → List ℕ
prio_on d = codes "prio=" ++ (field_text d.ask.priority ++ 32 ∷ rule_on d)

prop_on : Denial → List ℕ
prop_on d = codes "prop=" ++ (field_text d.ask.property ++ 32 ∷ prio_on d)

instance_on : Denial → List ℕ
instance_on d = field_text d.ask.instance ++ 32 ∷ prop_on d

type_on : Denial → List ℕ
type_on d = codes "obj=" ++ (field_text d.ask.object_type ++ 44 ∷ instance_on d)

svc_on : Denial → List ℕ
svc_on d = codes "svc=" ++ (field_text d.ask.service ++ 32 ∷ type_on d)

dst_on : Denial → List ℕ
dst_on d = codes "dst=" ++ (field_text d.ask.destination_network ++ 32 ∷ svc_on d)

operation_on : Denial → List ℕ
operation_on d = operation_word (is_some d.ask.sender) d.ask.operation ++ 32 ∷ dst_on d

mac_on : Denial → List ℕ
mac_on d = flat_map two_digits d.source.mac ++ 32 ∷ operation_on d

net_on : Denial → List ℕ
net_on d = decimal d.source.net ++ 58 ∷ mac_on d

port_on : Denial → List ℕ
port_on d = decimal d.port ++ 32 ∷ net_on d

tick_on : Denial → List ℕ
tick_on d = decimal d.tick ++ 32 ∷ port_on d

number_on : Denial → List ℕ
number_on d = decimal d.number ++ 32 ∷ tick_on d

-- a label and a field after a front
pub step : (front label field rest : List ℕ) → front ++ label ++ field ++ rest ≡ front ++ (label ++ (field ++ rest))
step front label field rest =
    append_assoc (front ++ label) field rest ∙ append_assoc front label (field ++ rest)

whole_line : (d : Denial) → line_text d ≡ number_on d
unfolding line_text number_on tick_on port_on net_on mac_on operation_on dst_on svc_on type_on instance_on prop_on prio_on rule_on
whole_line d =
    append_assoc _ (stations_text (stations_of d.ask)) (10 ∷ [])
    ∙ step _ (codes " rule=") d.rule (stations_text (stations_of d.ask) ++ 10 ∷ [])
    ∙ step _ (codes " prio=") (field_text d.ask.priority) (32 ∷ rule_on d)
    ∙ step _ (codes " prop=") (field_text d.ask.property) (32 ∷ prio_on d)
    ∙ step _ (codes ",") (field_text d.ask.instance) (32 ∷ prop_on d)
    ∙ step _ (codes " obj=") (field_text d.ask.object_type) (44 ∷ instance_on d)
    ∙ step _ (codes " svc=") (field_text d.ask.service) (32 ∷ type_on d)
    ∙ step _ (codes " dst=") (field_text d.ask.destination_network) (32 ∷ svc_on d)
    ∙ step _ (codes " ") (operation_word (is_some d.ask.sender) d.ask.operation) (32 ∷ dst_on d)
    ∙ step _ (codes ":") (flat_map two_digits d.source.mac) (32 ∷ operation_on d)
    ∙ step _ (codes " ") (decimal d.source.net) (58 ∷ mac_on d)
    ∙ step _ (codes " ") (decimal d.port) (32 ∷ net_on d)
    ∙ step (decimal d.number) (codes " ") (decimal d.tick) (32 ∷ port_on d)

-- ---- one field after the other

counted : (c m n : ℕ) (x y : List ℕ) → ¬ (IsAsciiDigit c) → m < 2 ^ 64 → n < 2 ^ 64 → decimal m ++ c ∷ x ≡ decimal n ++ c ∷ y → (m ≡ n) × (x ≡ y)
counted c m n x y digit sm sn e =
    let parts = same_split c (decimal m) (decimal n) x y (not_in_decimal m c sm digit) (not_in_decimal n c sn digit) e in
    (decimal_injective m n sm sn parts.0, parts.1)

labelled : (label : List ℕ) (c : ℕ) (a b : Option ℕ) (x y : List ℕ) → ¬ (IsAsciiDigit c) → 45 ≢ c → IsSmall a → IsSmall b → label ++ (field_text a ++ c ∷ x) ≡ label ++ (field_text b ++ c ∷ y) → (a ≡ b) × (x ≡ y)
labelled label c a b x y digit other sa sb e =
    let behind = append_cancel_left label (field_text a ++ c ∷ x) (field_text b ++ c ∷ y) e in
    let parts = same_split c (field_text a) (field_text b) x y (field_lacks c digit other a sa) (field_lacks c digit other b sb) behind in
    (field_same a b sa sb parts.0, parts.1)

abbrev station : ℕ → List ℕ → Source
station net mac = record { net = net; mac = mac }

no_space : ◌≢◌ {A = ℕ} 45 32
no_space e = absurd (omega arith)

no_comma : ◌≢◌ {A = ℕ} 45 44
no_comma e = absurd (omega arith)

-- what the parts of a line from the operation on show
record AskedAlike (a b : Denial) : Type 0 where
  operation : a.ask.operation ≡ b.ask.operation
  destination_network : a.ask.destination_network ≡ b.ask.destination_network
  service : a.ask.service ≡ b.ask.service
  object_type : a.ask.object_type ≡ b.ask.object_type
  instance : a.ask.instance ≡ b.ask.instance
  property : a.ask.property ≡ b.ask.property
  priority : a.ask.priority ≡ b.ask.priority
  rule : a.rule ≡ b.rule
  stations : stations_of a.ask ≡ stations_of b.ask

-- stations whose keys fit
abbrev pub AreSmall : Option Stations → Type 0
AreSmall stations = IfSome stations AreShownStations

abbrev pub stations_from : Option ℕ → Option ℕ → Option Stations
stations_from sender other = option_map (λ k. record { sender = k; station = other }) sender

pub stations_small : (sender other : Option ℕ) → IsSmall sender → IsSmall other → AreSmall (stations_from sender other)
stations_small None other ss so = tt
stations_small (Some k) other ss so = record { sender = ss; station = so }

small_of : (d : Denial) → IsDenial d → AreSmall (stations_of d.ask)
small_of d is = stations_small d.ask.sender d.ask.station (is.fields named.Sender) (is.fields named.Station)

-- a line names stations of an ask that has a sender
pub names_both : (sender other : Option ℕ) → is_some (stations_from sender other) ≡ is_some sender
names_both None other = refl
names_both (Some k) other = refl

-- the stations and what comes after them
unfoldable pub stations_on : Stations → List ℕ → List ℕ
stations_on s rest = codes "sender=" ++ (key_text s.sender ++ 32 ∷ (codes "station=" ++ (station_text s.station ++ rest)))

pub stations_whole : (s : Stations) (rest : List ℕ) → stations_text (Some s) ++ rest ≡ 32 ∷ stations_on s rest
unfolding stations_on
stations_whole s rest =
    step (codes " sender=" ++ key_text s.sender) (codes " station=") (station_text s.station) rest
    ∙ append_assoc (codes " sender=") (key_text s.sender) (32 ∷ (codes "station=" ++ (station_text s.station ++ rest)))

-- the stations alone
pub stations_right : (s : Stations) → stations_text (Some s) ≡ codes " sender=" ++ (key_text s.sender ++ (codes " station=" ++ station_text s.station))
stations_right s =
    append_assoc (codes " sender=" ++ key_text s.sender) (codes " station=") (station_text s.station)
    ∙ append_assoc (codes " sender=") (key_text s.sender) (codes " station=" ++ station_text s.station)

abbrev both : ℕ → Option ℕ → Option Stations
both sender other = Some (record { sender = sender; station = other })

same_stations : (s t : Stations) → AreShownStations s → AreShownStations t → stations_on s (10 ∷ []) ≡ stations_on t (10 ∷ []) → Some s ≡ Some t
unfolding stations_on
same_stations s t ss st e =
    let on : Stations → List ℕ = λ s. key_text s.sender ++ 32 ∷ (codes "station=" ++ (station_text s.station ++ 10 ∷ [])) in
    let labelled = append_cancel_left (codes "sender=") (on s) (on t) e in
    let keys = same_split 32 (key_text s.sender) (key_text t.sender) (codes "station=" ++ (station_text s.station ++ 10 ∷ [])) (codes "station=" ++ (station_text t.station ++ 10 ∷ []))
    (key_lacks 32 s.sender (omega arith)) (key_lacks 32 t.sender (omega arith)) labelled in
    let behind = append_cancel_left (codes "station=") (station_text s.station ++ 10 ∷ []) (station_text t.station ++ 10 ∷ []) keys.1 in
    let ends = append_cancel_right (station_text s.station) (station_text t.station) (10 ∷ []) behind in
    ap₂ both (key_same s.sender t.sender ss.sender st.sender keys.0) (station_same s.station t.station ss.station st.station ends)

-- a name without a space, and the stations after it
same_end : (x y : List ℕ) (s t : Option Stations) → Lacks 32 x → Lacks 32 y → AreSmall s → AreSmall t → x ++ (stations_text s ++ 10 ∷ []) ≡ y ++ (stations_text t ++ 10 ∷ [])
    → (x ≡ y) × (s ≡ t)
unfolding has_none
same_end x y None None lx ly ss st e = (append_cancel_right x y (10 ∷ []) e, refl)
same_end x y None (Some t) lx ly ss st e =
    let whole : x ++ 10 ∷ [] ≡ y ++ 32 ∷ stations_on t (10 ∷ []) = e ∙ ap (λ (z : List ℕ). y ++ z) (stations_whole t (10 ∷ [])) in
    let lacks : Lacks 32 (x ++ 10 ∷ []) = lacks_append 32 x (10 ∷ []) lx (lacks_by_test 32 (10 ∷ []) refl) in
    absurd (has_not_lacks 32 y (stations_on t (10 ∷ [])) (subst (Lacks 32) whole lacks))
same_end x y (Some s) None lx ly ss st e =
    let whole : y ++ 10 ∷ [] ≡ x ++ 32 ∷ stations_on s (10 ∷ []) = sym e ∙ ap (λ (z : List ℕ). x ++ z) (stations_whole s (10 ∷ [])) in
    let lacks : Lacks 32 (y ++ 10 ∷ []) = lacks_append 32 y (10 ∷ []) ly (lacks_by_test 32 (10 ∷ []) refl) in
    absurd (has_not_lacks 32 x (stations_on s (10 ∷ [])) (subst (Lacks 32) whole lacks))
same_end x y (Some s) (Some t) lx ly ss st e =
    let whole : x ++ 32 ∷ stations_on s (10 ∷ []) ≡ y ++ 32 ∷ stations_on t (10 ∷ []) =
    ap (λ (z : List ℕ). x ++ z) (sym (stations_whole s (10 ∷ []))) ∙ e ∙ ap (λ (z : List ℕ). y ++ z) (stations_whole t (10 ∷ [])) in
    let parts = same_split 32 x y (stations_on s (10 ∷ [])) (stations_on t (10 ∷ [])) lx ly whole in
    (parts.0, same_stations s t ss st parts.1)

abbrev end_on : Denial → List ℕ
end_on d = d.rule ++ (stations_text (stations_of d.ask) ++ 10 ∷ [])

same_rule : (a b : Denial) → IsDenial a → IsDenial b → rule_on a ≡ rule_on b → (a.rule ≡ b.rule) × (stations_of a.ask ≡ stations_of b.ask)
unfolding rule_on
same_rule a b ia ib e =
    same_end a.rule b.rule (stations_of a.ask) (stations_of b.ask) ia.spaceless ib.spaceless (small_of a ia) (small_of b ib)
    (append_cancel_left (codes "rule=") (end_on a) (end_on b) e)

asked_alike : (a b : Denial) → IsDenial a → IsDenial b → operation_on a ≡ operation_on b → AskedAlike a b
unfolding operation_on dst_on svc_on type_on instance_on prop_on prio_on
asked_alike a b ia ib e =
    let named_a = is_some a.ask.sender in
    let named_b = is_some b.ask.sender in
    let op = same_split 32 (operation_word named_a a.ask.operation) (operation_word named_b b.ask.operation) (dst_on a) (dst_on b) (operation_spaceless named_a a.ask.operation (ia.fields named.Operation)) (operation_spaceless named_b b.ask.operation (ib.fields named.Operation)) e in
    let dst = labelled (codes "dst=") 32 a.ask.destination_network b.ask.destination_network (svc_on a) (svc_on b) space no_space (ia.fields named.DestinationNetwork) (ib.fields named.DestinationNetwork) op.1 in
    let svc = labelled (codes "svc=") 32 a.ask.service b.ask.service (type_on a) (type_on b) space no_space (ia.fields named.Service) (ib.fields named.Service) dst.1 in
    let kind = labelled (codes "obj=") 44 a.ask.object_type b.ask.object_type (instance_on a) (instance_on b) comma no_comma (ia.fields named.ObjectType) (ib.fields named.ObjectType) svc.1 in
    let instance = labelled [] 32 a.ask.instance b.ask.instance (prop_on a) (prop_on b) space no_space (ia.fields named.Instance) (ib.fields named.Instance) kind.1 in
    let prop = labelled (codes "prop=") 32 a.ask.property b.ask.property (prio_on a) (prio_on b) space no_space (ia.fields named.Property) (ib.fields named.Property) instance.1 in
    let prio = labelled (codes "prio=") 32 a.ask.priority b.ask.priority (rule_on a) (rule_on b) space no_space (ia.fields named.Priority) (ib.fields named.Priority) prop.1 in
    let end = same_rule a b ia ib prio.1 in
    let alike : named_b ≡ named_a =
    sym (names_both b.ask.sender b.ask.station) ∙ ap is_some (sym end.1) ∙ names_both a.ask.sender a.ask.station in
    let word : operation_word named_a a.ask.operation ≡ operation_word named_a b.ask.operation = op.0 ∙ ap (λ (n : Bool). operation_word n b.ask.operation) alike in
    record {
      operation = operation_same named_a a.ask.operation b.ask.operation (ia.fields named.Operation) (ib.fields named.Operation) word;
      destination_network = dst.0;
      service = svc.0;
      object_type = kind.0;
      instance = instance.0;
      property = prop.0;
      priority = prio.0;
      rule = end.0;
      stations = end.1;
    }

pub names_one_denial : NamesOneDenial
unfolding number_on tick_on port_on net_on mac_on
names_one_denial a b ia ib e =
    let line = sym (whole_line a) ∙ e ∙ whole_line b in
    let number = counted 32 a.number b.number (tick_on a) (tick_on b) space ia.number ib.number line in
    let tick = counted 32 a.tick b.tick (port_on a) (port_on b) space ia.tick ib.tick number.1 in
    let port = counted 32 a.port b.port (net_on a) (net_on b) space (omega (arith, ia.port)) (omega (arith, ib.port)) tick.1 in
    let net = counted 58 a.source.net b.source.net (mac_on a) (mac_on b) colon (omega (arith, ia.network)) (omega (arith, ib.network)) port.1 in
    let mac = same_split 32 (flat_map two_digits a.source.mac) (flat_map two_digits b.source.mac) (operation_on a) (operation_on b) (digits_lack 32 (omega arith) a.source.mac) (digits_lack 32 (omega arith) b.source.mac) net.1 in
    let asked = asked_alike a b ia ib mac.1 in
    record {
      number = number.0;
      tick = tick.0;
      port = port.0;
      source = ap₂ station net.0 (digits_same a.source.mac b.source.mac ia.mac ib.mac mac.0);
      operation = asked.operation;
      destination_network = asked.destination_network;
      service = asked.service;
      object_type = asked.object_type;
      instance = asked.instance;
      property = asked.property;
      priority = asked.priority;
      rule = asked.rule;
      stations = asked.stations;
    }

-- ---- one line feed

ends_after : (x text : List ℕ) → Lacks 10 x → IsOneLine text → IsOneLine (x ++ text)
ends_after x text lacks one = record {
  front = x ++ one.front;
  ends = ap (λ (t : List ℕ). x ++ t) one.ends ∙ sym (append_assoc x one.front (10 ∷ []));
  lacks = lacks_append 10 x one.front lacks one.lacks;
}

ends_cons : (c : ℕ) (text : List ℕ) → c ≢ 10 → IsOneLine text → IsOneLine (c ∷ text)
ends_cons c text other one = record {
  front = c ∷ one.front;
  ends = ap (λ (t : List ℕ). c ∷ t) one.ends;
  lacks = lacks_cons 10 c one.front other one.lacks;
}

ends_labelled : (label : List ℕ) (c : ℕ) (value : Option ℕ) (text : List ℕ) → has_none 10 label ≡ true → c ≢ 10 → IsSmall value → IsOneLine text → IsOneLine (label ++ (field_text value ++ c ∷ text))
ends_labelled label c value text plain other small one =
    ends_after label (field_text value ++ c ∷ text) (lacks_by_test 10 label plain)
    (ends_after (field_text value) (c ∷ text) (field_lacks 10 feed (λ e. absurd (omega arith)) value small) (ends_cons c text other one))

ends_counted : (c n : ℕ) (text : List ℕ) → c ≢ 10 → n < 2 ^ 64 → IsOneLine text → IsOneLine (decimal n ++ c ∷ text)
ends_counted c n text other small one =
    ends_after (decimal n) (c ∷ text) (not_in_decimal n 10 small feed) (ends_cons c text other one)

other_space : ◌≢◌ {A = ℕ} 32 10
other_space e = absurd (omega arith)

-- no name of a rule has a line feed or a space
no_other : (c x : ℕ) → is_name_character c ≡ false → is_name_character x ≡ true → x ≢ c
no_other c x is_none is e = let wrong : false ≡ true = sym is_none ∙ subst (λ y. is_name_character y ≡ true) e is in absurd cc

all_lack : (c : ℕ) (text : List ℕ) → is_name_character c ≡ false → list_all is_name_character text ≡ true → Lacks c text
all_lack c [] is_none e = lacks_in_none c
all_lack c (x ∷ xs) is_none e =
    let parts = and_parts (is_name_character x) (list_all is_name_character xs) e in
    lacks_cons c x xs (no_other c x is_none parts.0) (all_lack c xs is_none parts.1)

pub name_lacks : (c : ℕ) (text : List ℕ) → is_name_character c ≡ false → IsTrue (is_name text) → Lacks c text
name_lacks c text is_none is =
    let all = list_all is_name_character text in
    let parts = and_parts (nat_le 1 (length text)) (nat_le (length text) 32 && all) is in
    all_lack c text is_none (and_parts (nat_le (length text) 32) all parts.1).1

stations_feedless : (stations : Option Stations) → Lacks 10 (stations_text stations)
unfolding has_none
stations_feedless None = lacks_in_none 10
stations_feedless (Some s) =
    let sender = lacks_append 10 (codes " sender=") (key_text s.sender) (lacks_by_test 10 (codes " sender=") refl) (key_lacks 10 s.sender (omega arith)) in
    let label = lacks_append 10 (codes " sender=" ++ key_text s.sender) (codes " station=") sender (lacks_by_test 10 (codes " station=") refl) in
    lacks_append 10 (codes " sender=" ++ key_text s.sender ++ codes " station=") (station_text s.station) label (station_lacks 10 (omega arith) s.station)

ends_rule : (d : Denial) → Lacks 10 d.rule → IsOneLine (rule_on d)
unfolding rule_on has_none
ends_rule d plain =
    let stations = stations_text (stations_of d.ask) in
    ends_after (codes "rule=") (end_on d) (lacks_by_test 10 (codes "rule=") refl)
    (ends_after d.rule (stations ++ 10 ∷ []) plain (record { front = stations; ends = refl; lacks = stations_feedless (stations_of d.ask) }))

ends_asked : (d : Denial) → IsDenial d → Lacks 10 d.rule → IsOneLine (operation_on d)
unfolding operation_on dst_on svc_on type_on instance_on prop_on prio_on has_none
ends_asked d is plain =
    let prio = ends_labelled (codes "prio=") 32 d.ask.priority (rule_on d) refl other_space (is.fields named.Priority) (ends_rule d plain) in
    let prop = ends_labelled (codes "prop=") 32 d.ask.property (prio_on d) refl other_space (is.fields named.Property) prio in
    let instance = ends_labelled [] 32 d.ask.instance (prop_on d) refl other_space (is.fields named.Instance) prop in
    let kind = ends_labelled (codes "obj=") 44 d.ask.object_type (instance_on d) refl (λ e. absurd (omega arith)) (is.fields named.ObjectType) instance in
    let svc = ends_labelled (codes "svc=") 32 d.ask.service (type_on d) refl other_space (is.fields named.Service) kind in
    let dst = ends_labelled (codes "dst=") 32 d.ask.destination_network (svc_on d) refl other_space (is.fields named.DestinationNetwork) svc in
    ends_after (operation_word (is_some d.ask.sender) d.ask.operation) (32 ∷ dst_on d) (operation_feedless (is_some d.ask.sender) d.ask.operation (is.fields named.Operation)) (ends_cons 32 (dst_on d) other_space dst)

pub ends_once : EndsOnce
unfolding number_on tick_on port_on net_on mac_on
ends_once d kept =
    let is = kept.numbers in
    let plain = name_lacks 10 d.rule refl kept.name in
    let asked = ends_asked d is plain in
    let mac = ends_after (flat_map two_digits d.source.mac) (32 ∷ operation_on d) (digits_lack 10 (omega arith) d.source.mac) (ends_cons 32 (operation_on d) other_space asked) in
    let net = ends_counted 58 d.source.net (mac_on d) (λ e. absurd (omega arith)) (omega (arith, is.network)) mac in
    let port = ends_counted 32 d.port (net_on d) other_space (omega (arith, is.port)) net in
    let tick = ends_counted 32 d.tick (port_on d) other_space is.tick port in
    let number = ends_counted 32 d.number (tick_on d) other_space is.number tick in
    rw (whole_line d) number

-- ---- a line without stations

-- the last two of the operations aren't met
find_front : (test : Operation → Bool) (xs : List Operation) → test Enter ≡ false → test Claim ≡ false → find test (xs ++ Enter ∷ Claim ∷ []) ≡ find test xs
find_front test [] enter claim = rw (enter, claim) refl
find_front test (x ∷ xs) enter claim = by (test x) (find_front test xs enter claim)
  where
    by : (b : Bool) → find test (xs ++ Enter ∷ Claim ∷ []) ≡ find test xs → cond b (Some x) (find test (xs ++ Enter ∷ Claim ∷ [])) ≡ cond b (Some x) (find test xs)
    by true e = refl
    by false e = e

-- none of these has so great a number
none_of : (n : ℕ) (xs : List Operation) → nat_lt n 12 ≡ false → list_all (λ o. nat_lt (operation_number o) 12) xs ≡ true → find (λ o. operation_number o == n) xs ≡ None
none_of n [] great e = refl
none_of n (o ∷ os) great e =
    let parts = and_parts (nat_lt (operation_number o) 12) (list_all (λ o. nat_lt (operation_number o) 12) os) e in
    let other : (operation_number o == n) ≡ false = other_character (operation_number o) n (λ same. let wrong : false ≡ true = sym great ∙ ap (λ k. nat_lt k 12) (sym same) ∙ parts.0 in absurd cc) in
    rw other (none_of n os great parts.1)

short_named : (n : ℕ) → operation_named false n ≡ find (λ o. operation_number o == n) eleven
short_named n = by (nat_lt n 12) refl
  where
    by : (b : Bool) → nat_lt n 12 ≡ b → (if b then operation_of n else None) ≡ find (λ o. operation_number o == n) eleven
    by true f =
        let small = ltb-true n 12 f in
        find_front (λ o. operation_number o == n) eleven (other_character 12 n (λ e. absurd (omega (arith, small, e)))) (other_character 13 n (λ e. absurd (omega (arith, small, e))))
    by false f = sym (none_of n eleven f refl)

short_word : (value : Option ℕ) → operation_word false value ≡ short_operation value
short_word None = refl
short_word (Some n) = ap (λ (found : Option Operation). of_number found n) (short_named n)

pub stays_short : StaysShort
unfolding line_text short_line
stays_short d none =
    let word : operation_word (is_some d.ask.sender) d.ask.operation ≡ short_operation d.ask.operation =
    ap (λ (s : Option ℕ). operation_word (is_some s) d.ask.operation) none ∙ short_word d.ask.operation in
    let nothing : stations_text (stations_of d.ask) ≡ [] = ap (λ (s : Option ℕ). stations_text (stations_from s d.ask.station)) none in
    rw (word, nothing) (ap (λ (t : List ℕ). t ++ 10 ∷ []) (append-nil _))
