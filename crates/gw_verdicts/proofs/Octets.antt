-- What a decoder reads of octets: the numbers of an NPDU, an APDU and a service's body, and the octets after them.
use Rattle.std.proofs.Common.{◌≡◌, ◌⊎◌, inl, inr, refl, subst, ℕ, zero, suc, ◌≤◌, ◌<◌, Bool, true, false, List, [], ◌∷◌, ◌++◌, length, nat_le, Option, Some, None, Result, Ok, Err, arith}
use Rattle.std.specs.Prelude.{◌≢◌, ◌^◌, IfSome, IsSomeAnd, MatchOption, if◌then◌else◌, ⊤}
use Rattle.std.specs.Option.{ok_or}
use Rattle.gw_codecs.specs.tags.Number.{unsigned_of}
use Rattle.std.specs.Int.{w16, to_be_bytes}
use Rattle.std.specs.List.{AllByRecursion}
use Rattle.std.proofs.lemmas.Bool.{leb-true}
use Rattle.gw_addr.specs.Reading.{AreOctets}
use Rattle.gw_addr.proofs.Reading.{AreOctets-drop, AreOctets-rest, bind_ok, both_true, ok_is}
use Rattle.gw_codecs.specs.tags.Object.{IsObject, Object}
use Rattle.gw_codecs.proofs.tags_lemmas.Octets.{behind_octets, none}
use Rattle.gw_frames.specs.npdu.Npdu.{Address, Destination, Fields, FitsAddress, FitsPayload, IsBadDestination, IsBadSource, Payload, address_part, apdu, destination_part, header_with, hops_part, message, payload_octets, payload_part, source_part}
use Rattle.gw_frames.specs.npdu.Numbers.{first_vendor_kind, protocol_version}
use Rattle.gw_frames.specs.npdu.Reading.{npdu_at}
use Rattle.gw_frames.proofs.npdu_lemmas.Whole.{npdu_takes}
use Rattle.gw_codecs.specs.apdu.Apdu.{IsApdu, code_of, fixed_part, segment_part}
use Rattle.gw_codecs.specs.apdu.Apdu.{Fields as Apdu}
use Rattle.gw_codecs.specs.apdu.Reading.{apdu_at, code_at}
use Rattle.gw_codecs.specs.declared.apdu.fault.ApduFault.{ApduFault}
use Rattle.gw_codecs.specs.declared.apdu.header.Header.{Header}
use Rattle.gw_codecs.specs.declared.apdu.header.Header.TheVariants as header
use Rattle.gw_codecs.proofs.apdu_lemmas.Headers.{apdu_is}
use Rattle.gw_codecs.specs.services.Body.{Begins, Body, IsBody, done, given, left_out, may, must, nothing_more, required}
use Rattle.gw_codecs.specs.declared.services.fault.BodyFault.TheVariants.{InvalidTag, OutOfRange}
use Rattle.gw_codecs.specs.services.Limits.{last_number, last_priority, last_property, priority_of}
use Rattle.gw_codecs.specs.services.Multi.{IsList, IsNamed, IsReference, Reference, a_property, in_new_list, in_same_list, last_one, most_references, next_object, next_property, the_object, whole, with_index}
use Rattle.gw_codecs.specs.services.MultiReading.{multi_at}
use Rattle.gw_codecs.specs.services.Parameter.{Content, Holds, IsContentOf, Parameter, a_number, a_text, a_text_value, an_enumerated_value, an_object, an_object_value, an_unsigned_value, between, enclosed, in_range, number, object, of_number, of_object, of_text, plain_enumerated, plain_object, plain_text, plain_unsigned, tagged, under}
use Rattle.gw_codecs.specs.services.Parameter.{Shape as Content_shape}
use Rattle.gw_codecs.specs.services.Read.{Read, read_at}
use Rattle.gw_codecs.specs.services.Reading.{ended, given_at, number_at, number_given, number_in, number_maybe_at, object_at, ranged, values_at}
use Rattle.gw_codecs.specs.services.WhoHas.{Sought, WhoHas, sought_held, the_name, the_object as sought_by_id, who_has_at, who_has_body, who_has_held}
use Rattle.gw_codecs.specs.services.WhoIs.{Limits, limits_held}
use Rattle.gw_codecs.specs.services.Write.{Write, priority_at, write_at}
use Rattle.gw_codecs.proofs.services_lemmas.MultiBody.{multi_takes}
use Rattle.gw_codecs.proofs.services_lemmas.ReadBody.{read_takes}
use Rattle.gw_codecs.proofs.services_lemmas.WhoHasBody.{who_has_takes}
use Rattle.gw_codecs.proofs.services_lemmas.WriteBody.{write_takes}
use Rattle.gw_relay.specs.Asks.{service_of}

-- ---- octets

front_octets : (xs ys : List ℕ) → AreOctets (xs ++ ys) → AreOctets xs
front_octets [] ys fits i = none i
front_octets (x ∷ xs) ys fits zero = fits 0
front_octets (x ∷ xs) ys fits (suc i) = front_octets xs ys (AreOctets-rest x (xs ++ ys) fits) i

-- ---- an NPDU

-- an address that a message can be bound for, and one that it can come from
abbrev pub IsPlace : Address → Type 0
IsPlace a = (1 ≤ a.network) × ((a.network ≤ 65535) × AreOctets a.mac)

abbrev pub IsStation : Address → Type 0
IsStation a = (1 ≤ a.network) × ((a.network ≤ 65534) × AreOctets a.mac)

-- what is known of the fields
pub record IsRead (f : Fields) : Type 0 where
  pub destination : IfSome f.destination (λ d. IsPlace d.address)
  pub source : IfSome f.source IsStation
  pub fits : FitsPayload f.payload
  pub octets : AreOctets (payload_octets f.payload)

positive : (n : ℕ) → n ≢ 0 → 1 ≤ n
positive zero other = absurd (other refl)
positive (suc n) other = omega arith

below_all : (n : ℕ) → n < 2 ^ 16 → n ≢ 65535 → n ≤ 65534
below_all n small other = omega (arith, small, other)

mac_octets : (a : Address) → AreOctets (address_part a) → AreOctets a.mac
mac_octets a fits = AreOctets-rest (length a.mac) a.mac (behind_octets (to_be_bytes w16 a.network) (length a.mac ∷ a.mac) fits)

destination_fits : (d : Option Destination) → IfSome d (λ d. FitsAddress d.address × (d.hops < 2 ^ 8)) → ¬ IsSomeAnd d IsBadDestination
    → AreOctets (destination_part d) → IfSome d (λ d. IsPlace d.address)
destination_fits None small good octets = tt
destination_fits (Some d) small good octets =
    let short = small.0.0 in
    (positive d.address.network (λ e. good (inl e)), (omega (arith, short), mac_octets d.address octets))

source_fits : (s : Option Address) → IfSome s FitsAddress → ¬ IsSomeAnd s IsBadSource → AreOctets (source_part s) → IfSome s IsStation
source_fits None small good octets = tt
source_fits (Some s) small good octets =
    (positive s.network (λ e. good (inl e)), (below_all s.network small.0 (λ e. good (inr (inl e))), mac_octets s octets))

pub npdu_read : (octets : List ℕ) (f : Fields) → AreOctets octets → npdu_at octets ≡ Ok f → IsRead f
npdu_read octets f fits e =
    let is = npdu_takes octets f fits e in
    let laid = is.laid_out in
    let reserved = laid.reserved in
    let front = header_with protocol_version reserved f in
    let all = subst AreOctets laid.parts fits in
    let to = destination_part f.destination in
    let from = source_part f.source in
    let hops = hops_part f.destination in
    let rest = payload_part f.payload in
    let parts : AreOctets (to ++ from ++ hops ++ rest) = AreOctets-drop 2 front (front_octets front (payload_octets f.payload) all) in
    let both : AreOctets (to ++ from) = front_octets (to ++ from) hops (front_octets (to ++ from ++ hops) rest parts) in
    record {
      destination = destination_fits f.destination laid.fits.destination (λ bad. is.addressed (inl bad)) (front_octets to from both);
      source = source_fits f.source laid.fits.source (λ bad. is.addressed (inr bad)) (behind_octets to from both);
      fits = laid.fits.payload;
      octets = behind_octets front (payload_octets f.payload) all;
    }

-- ---- the service that a payload asks for

-- that of a request or a network layer message; none; or the type of an APDU that answers
abbrev pub IsAskedFor : Option ℕ → Type 0
IsAskedFor None = ⊤
IsAskedFor (Some n) = (n ≤ 767) ⊎ ((1026 ≤ n) × (n ≤ 1031))

header_asks : (sizes : ℕ) (h : Header) → AreOctets (fixed_part sizes h) → IsAskedFor (Some (code_of h))
header_asks sizes (header.ConfirmedRequest request) fits =
    let small = behind_octets (segment_part request.segment) (request.service ∷ [])
    (AreOctets-drop 2 (sizes ∷ request.invoke ∷ (segment_part request.segment ++ request.service ∷ [])) fits) 0 in
    inl (omega arith)
header_asks sizes (header.UnconfirmedRequest service) fits =
    let small = fits 0 in
    inl (omega arith)
header_asks sizes (header.SimpleAck invoke service) fits = inr (omega arith, omega arith)
header_asks sizes (header.ComplexAck segment invoke service) fits = inr (omega arith, omega arith)
header_asks sizes (header.SegmentAck invoke sequence window) fits = inr (omega arith, omega arith)
header_asks sizes (header.Error invoke service) fits = inr (omega arith, omega arith)
header_asks sizes (header.Reject invoke reason) fits = inr (omega arith, omega arith)
header_asks sizes (header.Abort invoke reason) fits = inr (omega arith, omega arith)

behind_first : (octets : List ℕ) (f : Apdu) → AreOctets octets → (is : IsApdu octets f) → AreOctets (fixed_part is.sizes f.header ++ f.rest)
behind_first octets f fits is = AreOctets-rest is.first (fixed_part is.sizes f.header ++ f.rest) (subst AreOctets is.parts fits)

-- what follows a header is octets
pub apdu_rest : (octets : List ℕ) (f : Apdu) → AreOctets octets → apdu_at octets ≡ Ok f → AreOctets f.rest
apdu_rest octets f fits e =
    let is = (apdu_is octets f).0 e in
    behind_octets (fixed_part is.sizes f.header) f.rest (behind_first octets f fits is)

apdu_asks : (octets : List ℕ) (x : Result Apdu ApduFault) → AreOctets octets → apdu_at octets ≡ x → IsAskedFor (code_at x)
apdu_asks octets (Err fault) fits e = tt
apdu_asks octets (Ok f) fits e =
    let is = (apdu_is octets f).0 e in
    header_asks is.sizes f.header (front_octets (fixed_part is.sizes f.header) f.rest (behind_first octets f fits is))

kind_small : (v : Option ℕ) (kind : ℕ) → MatchOption v (kind < first_vendor_kind) (λ v. (first_vendor_kind ≤ kind) × (kind < 2 ^ 8) × (v < 2 ^ 16)) → kind < 256
kind_small None kind fits = omega (arith, fits)
kind_small (Some v) kind fits =
    let small = fits.1 in
    omega (arith, small)

pub payload_asks : (payload : Payload) → FitsPayload payload → AreOctets (payload_octets payload) → IsAskedFor (service_of payload)
payload_asks (message m) fits octets =
    let small = kind_small m.vendor m.kind fits in
    inl (omega arith)
payload_asks (apdu own) fits octets = apdu_asks own (apdu_at own) octets refl

-- ---- a body

-- what is known of a content
abbrev Fits : Content → Type 0
Fits (object o) = IsObject o
Fits _ = ⊤

content_fits : (shape : Content_shape) (own : List ℕ) (held : Content) → IsContentOf shape own held → Fits held
content_fits an_object own held (of_object id is parts) = is
content_fits (a_number least most) own held (of_number n is) = tt
content_fits a_text own held (of_text charset words is parts) = tt

held_fits : (p : Parameter) (octets : List ℕ) (held : Content) (rest : List ℕ) → Holds p octets held rest → Fits held
held_fits (under tag shape) octets held rest (tagged own begins is) = content_fits shape own held is
held_fits (between tag) octets held rest (enclosed inner opens ends) = tt
held_fits plain_object octets held rest (an_object_value id is begins) = is.within
held_fits (plain_unsigned least most) octets held rest (an_unsigned_value n is begins) = tt
held_fits (plain_enumerated least most) octets held rest (an_enumerated_value n is begins) = tt
held_fits plain_text octets held rest (a_text_value charset own is begins) = tt

body_fits : (body : Body) (octets : List ℕ) (held : List Content) → IsBody body octets held → AllByRecursion Fits held
body_fits done octets held nothing_more = tt
body_fits (must p body) octets held (required {others = others} first rest is later) =
    (held_fits p octets first rest is.holds, body_fits body rest others later)
body_fits (may tag shape behind without) octets held (given {others = others} first rest is later) =
    (held_fits (under tag shape) octets first rest is.holds, body_fits behind rest others later)
body_fits (may tag shape behind without) octets held (left_out absent later) = body_fits without octets held later

-- the object and the property of a body that begins with them
abbrev pub AreNamed : Object → ℕ → Type 0
AreNamed id property = IsObject id × (property ≤ last_property)

in_range_to : (p most : ℕ) → in_range 0 most p ≡ true → p ≤ most
in_range_to p most t = leb-true p most (both_true (nat_le 0 p) (nat_le p most) t).1

named_first : (rest : Body) (octets : List ℕ) (id : Object) (p : ℕ) (others : List Content)
    → IsBody (must (under 0 an_object) (must (under 1 (a_number 0 last_property)) rest)) octets (object id ∷ number p ∷ others) → AreNamed id p
named_first rest octets id p others (required held behind is (required next after also later)) =
    (held_fits (under 0 an_object) octets (object id) behind is.holds, in_range_to p last_property also.allowed)

pub read_names : (octets : List ℕ) (r : Read) → AreOctets octets → read_at octets ≡ Ok r → AreNamed r.object r.property
read_names octets r fits e = named_first _ octets r.object r.property _ (read_takes octets r fits e)

-- ---- a priority

ranged_fits : (least most n x : ℕ) → ranged least most n ≡ Ok x → (least ≤ x) × (x ≤ most)
ranged_fits least most n x e = by (in_range least most n) refl e
  where
    by : (b : Bool) → in_range least most n ≡ b → (if b then Ok n else Err OutOfRange) ≡ Ok x → (least ≤ x) × (x ≤ most)
    by true t is =
        let both = both_true (nat_le least n) (nat_le n most) t in
        let same = ok_is n x is in
        (subst (λ (m : ℕ). least ≤ m) same (leb-true least n both.0), subst (λ (m : ℕ). m ≤ most) same (leb-true n most both.1))
    by false t is = absurd cc

number_fits : (least most n : ℕ) (own : List ℕ) → number_in least most own ≡ Ok n → (least ≤ n) × (n ≤ most)
number_fits least most n own e =
    let read = bind_ok (ok_or (unsigned_of own) InvalidTag) (ranged least most) n e in
    ranged_fits least most read.0 n read.2

abbrev IsMaybe : ℕ → ℕ → Option ℕ → Type 0
IsMaybe least most given_number = IfSome given_number (λ n. (least ≤ n) × (n ≤ most))

given_fits : (least most : ℕ) (octets : List ℕ) (content : Option (List ℕ × List ℕ)) (x : Option ℕ × List ℕ)
    → number_given least most octets content ≡ Ok x → IsMaybe least most x.0
given_fits least most octets None x e =
    subst (λ (y : Option ℕ × List ℕ). IsMaybe least most y.0) (ok_is (None, octets) x e) tt
given_fits least most octets (Some content) x e =
    let read = bind_ok (number_in least most content.0) _ x e in
    subst (λ (y : Option ℕ × List ℕ). IsMaybe least most y.0) (ok_is (Some read.0, content.1) x read.2)
    (number_fits least most read.0 content.0 read.1)

maybe_fits : (tag least most : ℕ) (octets : List ℕ) (x : Option ℕ × List ℕ) → number_maybe_at tag least most octets ≡ Ok x → IsMaybe least most x.0
maybe_fits tag least most octets x e =
    let read = bind_ok (given_at tag octets) (number_given least most octets) x e in
    given_fits least most octets read.0 x read.2

ended_is : (w v : Write) (rest : List ℕ) → ended w rest ≡ Ok v → w ≡ v
ended_is w v [] e = ok_is w v e
ended_is w v (octet ∷ rest) e = absurd cc

priority_fits : (target : Read) (value octets : List ℕ) (w : Write) → priority_at target value octets ≡ Ok w → IsMaybe 1 last_priority w.priority
priority_fits target value octets w e =
    let read = bind_ok (number_maybe_at 4 1 last_priority octets) _ w e in
    subst (λ (v : Write). IsMaybe 1 last_priority v.priority) (ended_is _ w read.0.1 read.2)
    (maybe_fits 4 1 last_priority octets read.0 read.1)

written_fits : (octets : List ℕ) (w : Write) → write_at octets ≡ Ok w → IsMaybe 1 last_priority w.priority
written_fits octets w e =
    let id = bind_ok (object_at 0 octets) _ w e in
    let property = bind_ok (number_at 1 0 last_property id.0.1) _ w id.2 in
    let index = bind_ok (number_maybe_at 2 0 last_number property.0.1) _ w property.2 in
    let value = bind_ok (values_at 3 index.0.1) _ w index.2 in
    priority_fits _ value.0.0 value.0.1 w value.2

abbrev pub IsRank : ℕ → Type 0
IsRank n = (1 ≤ n) × (n ≤ 16)

rank_of : (priority : Option ℕ) → IsMaybe 1 last_priority priority → IsRank (priority_of priority)
rank_of None fits = (omega arith, omega arith)
rank_of (Some n) fits = fits

pub write_names : (octets : List ℕ) (w : Write) → AreOctets octets → write_at octets ≡ Ok w
    → AreNamed w.object w.property × IsRank (priority_of w.priority)
write_names octets w fits e =
    (named_first _ octets w.object w.property _ (write_takes octets w fits e), rank_of w.priority (written_fits octets w e))

-- ---- references

property_fits : (octets : List ℕ) (p : ℕ) (rest : List ℕ) → Begins a_property octets (number p) rest → p ≤ last_property
property_fits octets p rest is = in_range_to p last_property is.allowed

name_fits : (octets : List ℕ) (p : ℕ) (i : Option ℕ) (rest : List ℕ) → IsNamed octets p i rest → p ≤ last_property
name_fits octets p (Some i) rest (with_index middle named index) = property_fits octets p middle named
name_fits octets p None rest (whole named absent) = property_fits octets p rest named

reference_fits : (current : Option Object) (octets : List ℕ) (r : Reference) (at : List ℕ) → IfSome current IsObject
    → IsReference current octets r at → AreNamed r.object r.property
reference_fits None octets r at known (in_new_list {p = p} {i = i} id a b is begins named) =
    (held_fits the_object octets (object id) a is.holds, name_fits b p i at named)
reference_fits (Some id) octets r at known (in_same_list {p = p} {i = i} named) = (known, name_fits octets p i at named)

abbrev pub IsNamedBy : Reference → Type 0
IsNamedBy r = AreNamed r.object r.property

list_fits : (left : ℕ) (current : Option Object) (octets : List ℕ) (rs : List Reference) → IfSome current IsObject
    → IsList left current octets rs → AllByRecursion IsNamedBy rs
list_fits zero current octets rs known is = elim is [ ]
list_fits (suc left) current octets rs known (last_one r at is good closed) = (reference_fits current octets r at known is, tt)
list_fits (suc left) current octets rs known (next_object {others = others} r at rest is good closed later) =
    (reference_fits current octets r at known is, list_fits left None rest others tt later)
list_fits (suc left) current octets rs known (next_property {others = others} r at is good later) =
    let here = reference_fits current octets r at known is in
    (here, list_fits left (Some r.object) at others here.0 later)

pub multi_names : (octets : List ℕ) (rs : List Reference) → AreOctets octets → multi_at octets ≡ Ok rs → AllByRecursion IsNamedBy rs
multi_names octets rs fits e = list_fits most_references None octets rs tt (multi_takes octets rs fits e)

-- ---- what is sought

abbrev pub IsSoughtBy : (Object → Type 0) → Sought → Type 0
IsSoughtBy Is (sought_by_id o) = Is o
IsSoughtBy Is (the_name charset name) = ⊤

sought_fits : (limits : Option Limits) (s : Sought) → AllByRecursion Fits (limits_held limits ++ sought_held s) → IsSoughtBy IsObject s
sought_fits None (sought_by_id o) fits = fits.0
sought_fits (Some l) (sought_by_id o) fits = fits.1.1.0
sought_fits limits (the_name charset name) fits = tt

pub who_has_names : (octets : List ℕ) (w : WhoHas) → AreOctets octets → who_has_at octets ≡ Ok w → IsSoughtBy IsObject w.sought
who_has_names octets w fits e =
    sought_fits w.limits w.sought (body_fits who_has_body octets (who_has_held w) (who_has_takes octets w fits e))
