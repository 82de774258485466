-- An APDU is read exactly if the octets are one, and each fault exactly if its own condition holds.
use Rattle.std.proofs.Common.{◌≡◌, ◌↔◌, ℕ, zero, suc, ◌/◌, ◌≤◌, ◌++◌, Bool, true, false, List, [], ◌∷◌, Option, Some, None, Result, Ok, Err, refl, sym, ap, subst, ◌∙◌, inl, inr, ◌⊎◌, arith}
use Rattle.gw_addr.specs.Reading.{◌>>=◌, octet_at}
use Rattle.gw_addr.proofs.Reading.{bind_ok, bind_err, ok_is, either}
use Rattle.gw_codecs.specs.declared.apdu.fault.ApduFault.{ApduFault}
use Rattle.gw_codecs.specs.declared.apdu.fault.ApduFault.TheVariants.{Short, Kind}
use Rattle.gw_codecs.specs.declared.apdu.header.Segment.{Segment}
use Rattle.gw_codecs.specs.declared.apdu.header.Header.{Header}
use Rattle.gw_codecs.specs.declared.apdu.header.Header.TheVariants.{ConfirmedRequest, UnconfirmedRequest, SimpleAck, ComplexAck, SegmentAck, Error, Reject, Abort}
use Rattle.gw_codecs.specs.declared.apdu.pdu_type.PduType.{PduType}
use Rattle.gw_codecs.specs.declared.apdu.pdu_type.PduType.TheVariants as types
use Rattle.gw_codecs.specs.apdu.Numbers.{segmented_bit, more_bit}
use Rattle.gw_codecs.specs.apdu.Apdu.{Fields, IsApdu, HasUnknownType, IsShort, type_number, type_of, segment_part, fixed_part, is_set, TellsSegment, HasFlags, HasSizes, code_of}
use Rattle.gw_codecs.specs.apdu.Reading.{type_of_number, type_at, segment_at, told_segment_at, request_of, confirmed_at, complex_ack_at, header_at, apdu_at, code_at, service_at}

-- ---- types

number_reads : (t : PduType) → type_of_number (type_number t) ≡ Ok t
number_reads types.ConfirmedRequest = refl
number_reads types.UnconfirmedRequest = refl
number_reads types.SimpleAck = refl
number_reads types.ComplexAck = refl
number_reads types.SegmentAck = refl
number_reads types.Error = refl
number_reads types.Reject = refl
number_reads types.Abort = refl

number_refused : (n : ℕ) → 8 ≤ n → type_of_number n ≡ Err Kind
number_refused zero high = absurd (omega arith)
number_refused (suc zero) high = absurd (omega arith)
number_refused (suc (suc zero)) high = absurd (omega arith)
number_refused (suc (suc (suc zero))) high = absurd (omega arith)
number_refused (suc (suc (suc (suc zero)))) high = absurd (omega arith)
number_refused (suc (suc (suc (suc (suc zero))))) high = absurd (omega arith)
number_refused (suc (suc (suc (suc (suc (suc zero)))))) high = absurd (omega arith)
number_refused (suc (suc (suc (suc (suc (suc (suc zero))))))) high = absurd (omega arith)
number_refused (suc (suc (suc (suc (suc (suc (suc (suc n)))))))) high = refl

number_cases : (n : ℕ) → ((t : PduType) × (n ≡ type_number t)) ⊎ (8 ≤ n)
number_cases zero = inl (types.ConfirmedRequest, refl)
number_cases (suc zero) = inl (types.UnconfirmedRequest, refl)
number_cases (suc (suc zero)) = inl (types.SimpleAck, refl)
number_cases (suc (suc (suc zero))) = inl (types.ComplexAck, refl)
number_cases (suc (suc (suc (suc zero)))) = inl (types.SegmentAck, refl)
number_cases (suc (suc (suc (suc (suc zero))))) = inl (types.Error, refl)
number_cases (suc (suc (suc (suc (suc (suc zero)))))) = inl (types.Reject, refl)
number_cases (suc (suc (suc (suc (suc (suc (suc zero))))))) = inl (types.Abort, refl)
number_cases (suc (suc (suc (suc (suc (suc (suc (suc n)))))))) = inr (omega arith)

-- ---- segments

record IsSegment (first : ℕ) (octets : List ℕ) (x : Option Segment × List ℕ) : Type 0 where
  pub parts : octets ≡ segment_part x.0 ++ x.1
  pub tells : TellsSegment first x.0

abbrev Segments : Type 0
Segments = Option Segment × List ℕ

segment_told : (first : ℕ) (b : Bool) (octets : List ℕ) (x : Segments) → is_set first segmented_bit ≡ b → segment_at b (is_set first more_bit) octets ≡ Ok x → IsSegment first octets x
segment_told first false octets x set e = subst (IsSegment first octets) (ok_is {F = ApduFault} (None, octets) x e) (record { parts = refl; tells = (set, tt) })
segment_told first true [] x set e = absurd cc
segment_told first true (a ∷ []) x set e = absurd cc
segment_told first true (a ∷ b ∷ rest) x set e =
    let found : Segment = record { more_follows = is_set first more_bit; sequence = a; window = b } in
    subst (IsSegment first (a ∷ b ∷ rest)) (ok_is {F = ApduFault} (Some found, rest) x e) (record { parts = refl; tells = (set, refl) })

segment_again : (first : ℕ) (s : Option Segment) (rest : List ℕ) → TellsSegment first s → told_segment_at first (segment_part s ++ rest) ≡ Ok (s, rest)
segment_again first None rest tells = rw tells.0 refl
segment_again first (Some s) rest tells = rw (tells.0, tells.1) refl

segment_err : (b more : Bool) (octets : List ℕ) (fault : ApduFault) → segment_at b more octets ≡ Err fault → fault ≡ Short
segment_err false more octets fault e = absurd cc
segment_err true more [] fault e = cc
segment_err true more (a ∷ []) fault e = cc
segment_err true more (a ∷ b ∷ rest) fault e = absurd cc

octet_is : (octets : List ℕ) (x : ℕ × List ℕ) → octet_at Short octets ≡ Ok x → octets ≡ x.0 ∷ x.1
octet_is [] x e = absurd cc
octet_is (o ∷ os) x e = ap (λ (p : ℕ × List ℕ). p.0 ∷ p.1) (ok_is {F = ApduFault} (o, os) x e)

octet_err : (octets : List ℕ) (fault : ApduFault) → octet_at Short octets ≡ Err fault → fault ≡ Short
octet_err [] fault e = cc
octet_err (o ∷ os) fault e = absurd cc

-- ---- headers

abbrev Found : Type 0
Found = Header × List ℕ

record IsBehind (t : PduType) (first : ℕ) (octets : List ℕ) (x : Found) : Type 0 where
  pub sizes : ℕ
  pub parts : octets ≡ fixed_part sizes x.0 ++ x.1
  pub same : type_of x.0 ≡ t
  pub flags : HasFlags first x.0
  pub sized : HasSizes sizes x.0

-- what follows a segment: the service
abbrev service_of : (ℕ → Header) → List ℕ → Result Found ApduFault
service_of make octets = octet_at Short octets >>= λ service. Ok (make service.0, service.1)

service_takes : (make : ℕ → Header) (octets : List ℕ) (x : Found) → service_of make octets ≡ Ok x → (service : ℕ) × (x.0 ≡ make service) × (octets ≡ service ∷ x.1)
service_takes make [] x e = absurd cc
service_takes make (o ∷ os) x e =
    let is = ok_is {F = ApduFault} (make o, os) x e in
    (o, ap (λ (p : Found). p.0) (sym is), ap (λ (p : Found). o ∷ p.1) is)

regroup_2 : (a b : ℕ) (s : Option Segment) (service : ℕ) (rest : List ℕ) → a ∷ b ∷ (segment_part s ++ service ∷ rest) ≡ (a ∷ b ∷ [] ++ segment_part s ++ service ∷ []) ++ rest
regroup_2 a b None service rest = refl
regroup_2 a b (Some s) service rest = refl

regroup_1 : (a : ℕ) (s : Option Segment) (service : ℕ) (rest : List ℕ) → a ∷ (segment_part s ++ service ∷ rest) ≡ (a ∷ [] ++ segment_part s ++ service ∷ []) ++ rest
regroup_1 a None service rest = refl
regroup_1 a (Some s) service rest = refl

confirmed_takes : (first : ℕ) (octets : List ℕ) (x : Found) → confirmed_at first octets ≡ Ok x → IsBehind types.ConfirmedRequest first octets x
confirmed_takes first [] x e = absurd cc
confirmed_takes first (sizes ∷ []) x e = absurd cc
confirmed_takes first (sizes ∷ invoke ∷ octets) x e =
    let make : Option Segment → ℕ → Header = λ s service. ConfirmedRequest (request_of first sizes invoke s service) in
    let a = bind_ok (told_segment_at first octets) (λ segment. service_of (make segment.0) segment.1) x e in
    let told = segment_told first (is_set first segmented_bit) octets a.0 refl a.1 in
    let last = service_takes (make a.0.0) a.0.1 x a.2 in
    let parts : sizes ∷ invoke ∷ octets ≡ fixed_part sizes (make a.0.0 last.0) ++ x.1 =
    ap (λ (o : List ℕ). sizes ∷ invoke ∷ o) (told.parts ∙ ap (λ (o : List ℕ). segment_part a.0.0 ++ o) last.2) ∙ regroup_2 sizes invoke a.0.0 last.0 x.1 in
    let is : IsBehind types.ConfirmedRequest first (sizes ∷ invoke ∷ octets) (make a.0.0 last.0, x.1) =
    record { sizes = sizes; parts = parts; same = refl; flags = (told.tells, refl); sized = (refl, refl) } in
    subst (λ (h : Header). IsBehind types.ConfirmedRequest first (sizes ∷ invoke ∷ octets) (h, x.1)) (sym last.1) is

complex_takes : (first : ℕ) (octets : List ℕ) (x : Found) → complex_ack_at first octets ≡ Ok x → IsBehind types.ComplexAck first octets x
complex_takes first [] x e = absurd cc
complex_takes first (invoke ∷ octets) x e =
    let make : Option Segment → ℕ → Header = λ s service. ComplexAck s invoke service in
    let a = bind_ok (told_segment_at first octets) (λ segment. service_of (make segment.0) segment.1) x e in
    let told = segment_told first (is_set first segmented_bit) octets a.0 refl a.1 in
    let last = service_takes (make a.0.0) a.0.1 x a.2 in
    let parts : invoke ∷ octets ≡ fixed_part 0 (make a.0.0 last.0) ++ x.1 =
    ap (λ (o : List ℕ). invoke ∷ o) (told.parts ∙ ap (λ (o : List ℕ). segment_part a.0.0 ++ o) last.2) ∙ regroup_1 invoke a.0.0 last.0 x.1 in
    let is : IsBehind types.ComplexAck first (invoke ∷ octets) (make a.0.0 last.0, x.1) =
    record { sizes = 0; parts = parts; same = refl; flags = told.tells; sized = tt } in
    subst (λ (h : Header). IsBehind types.ComplexAck first (invoke ∷ octets) (h, x.1)) (sym last.1) is

-- a header whose octets say nothing but its numbers
plain : (t : PduType) (first : ℕ) (h : Header) (octets : List ℕ) (x : Found) → (h, octets) ≡ x → type_of h ≡ t → HasFlags first h → HasSizes 0 h → IsBehind t first (fixed_part 0 h ++ octets) x
plain t first h octets x is same flags sized =
    subst (IsBehind t first (fixed_part 0 h ++ octets)) is (record { sizes = 0; parts = refl; same = same; flags = flags; sized = sized })

header_takes : (t : PduType) (first : ℕ) (octets : List ℕ) (x : Found) → header_at t first octets ≡ Ok x → IsBehind t first octets x
header_takes types.ConfirmedRequest first octets x e = confirmed_takes first octets x e
header_takes types.UnconfirmedRequest first [] x e = absurd cc
header_takes types.UnconfirmedRequest first (a ∷ rest) x e =
    plain types.UnconfirmedRequest first (UnconfirmedRequest a) rest x (ok_is {F = ApduFault} _ x e) refl tt tt
header_takes types.SimpleAck first [] x e = absurd cc
header_takes types.SimpleAck first (a ∷ []) x e = absurd cc
header_takes types.SimpleAck first (a ∷ b ∷ rest) x e =
    plain types.SimpleAck first (SimpleAck a b) rest x (ok_is {F = ApduFault} _ x e) refl tt tt
header_takes types.ComplexAck first octets x e = complex_takes first octets x e
header_takes types.SegmentAck first [] x e = absurd cc
header_takes types.SegmentAck first (a ∷ []) x e = absurd cc
header_takes types.SegmentAck first (a ∷ b ∷ []) x e = absurd cc
header_takes types.SegmentAck first (a ∷ b ∷ c ∷ rest) x e =
    plain types.SegmentAck first (SegmentAck a b c) rest x (ok_is {F = ApduFault} _ x e) refl tt tt
header_takes types.Error first [] x e = absurd cc
header_takes types.Error first (a ∷ []) x e = absurd cc
header_takes types.Error first (a ∷ b ∷ rest) x e =
    plain types.Error first (Error a b) rest x (ok_is {F = ApduFault} _ x e) refl tt tt
header_takes types.Reject first [] x e = absurd cc
header_takes types.Reject first (a ∷ []) x e = absurd cc
header_takes types.Reject first (a ∷ b ∷ rest) x e =
    plain types.Reject first (Reject a b) rest x (ok_is {F = ApduFault} _ x e) refl tt tt
header_takes types.Abort first [] x e = absurd cc
header_takes types.Abort first (a ∷ []) x e = absurd cc
header_takes types.Abort first (a ∷ b ∷ rest) x e =
    plain types.Abort first (Abort a b) rest x (ok_is {F = ApduFault} _ x e) refl tt tt

header_again : (first sizes : ℕ) (h : Header) (rest : List ℕ) → HasFlags first h → HasSizes sizes h → header_at (type_of h) first (fixed_part sizes h ++ rest) ≡ Ok (h, rest)
header_again first sizes (ConfirmedRequest r) rest flags sized =
    ap (confirmed_at first) (sym (regroup_2 sizes r.invoke r.segment r.service rest))
    ∙ rw (segment_again first r.segment (r.service ∷ rest) flags.0, flags.1, sized.0, sized.1) refl
header_again first sizes (UnconfirmedRequest service) rest flags sized = refl
header_again first sizes (SimpleAck invoke service) rest flags sized = refl
header_again first sizes (ComplexAck s invoke service) rest flags sized =
    ap (complex_ack_at first) (sym (regroup_1 invoke s service rest))
    ∙ rw (segment_again first s (service ∷ rest) flags) refl
header_again first sizes (SegmentAck invoke sequence window) rest flags sized = refl
header_again first sizes (Error invoke service) rest flags sized = refl
header_again first sizes (Reject invoke reason) rest flags sized = refl
header_again first sizes (Abort invoke reason) rest flags sized = refl

-- after the first octet there is one fault
after_segment : (b more : Bool) (octets : List ℕ) (make : Option Segment → ℕ → Header) (fault : ApduFault) → (segment_at b more octets >>= λ segment. service_of (make segment.0) segment.1) ≡ Err fault → fault ≡ Short
after_segment b more octets make fault e =
    elim (bind_err (segment_at b more octets) (λ segment. service_of (make segment.0) segment.1) fault e) [
      | inl here ↦ segment_err b more octets fault here
      | inr (x, read, after) ↦ elim (bind_err (octet_at Short x.1) (λ service. Ok (make x.0 service.0, service.1)) fault after) [
        | inl here ↦ octet_err x.1 fault here
        | inr last ↦ absurd (let never = last.2 in cc)
      ]
    ]

header_err : (t : PduType) (first : ℕ) (octets : List ℕ) (fault : ApduFault) → header_at t first octets ≡ Err fault → fault ≡ Short
header_err types.ConfirmedRequest first [] fault e = cc
header_err types.ConfirmedRequest first (a ∷ []) fault e = cc
header_err types.ConfirmedRequest first (a ∷ b ∷ rest) fault e =
    after_segment (is_set first segmented_bit) (is_set first more_bit) rest (λ s service. ConfirmedRequest (request_of first a b s service)) fault e
header_err types.UnconfirmedRequest first [] fault e = cc
header_err types.UnconfirmedRequest first (a ∷ rest) fault e = absurd cc
header_err types.SimpleAck first [] fault e = cc
header_err types.SimpleAck first (a ∷ []) fault e = cc
header_err types.SimpleAck first (a ∷ b ∷ rest) fault e = absurd cc
header_err types.ComplexAck first [] fault e = cc
header_err types.ComplexAck first (a ∷ rest) fault e =
    after_segment (is_set first segmented_bit) (is_set first more_bit) rest (λ s service. ComplexAck s a service) fault e
header_err types.SegmentAck first [] fault e = cc
header_err types.SegmentAck first (a ∷ []) fault e = cc
header_err types.SegmentAck first (a ∷ b ∷ []) fault e = cc
header_err types.SegmentAck first (a ∷ b ∷ c ∷ rest) fault e = absurd cc
header_err types.Error first [] fault e = cc
header_err types.Error first (a ∷ []) fault e = cc
header_err types.Error first (a ∷ b ∷ rest) fault e = absurd cc
header_err types.Reject first [] fault e = cc
header_err types.Reject first (a ∷ []) fault e = cc
header_err types.Reject first (a ∷ b ∷ rest) fault e = absurd cc
header_err types.Abort first [] fault e = cc
header_err types.Abort first (a ∷ []) fault e = cc
header_err types.Abort first (a ∷ b ∷ rest) fault e = absurd cc

-- ---- whole APDUs

abbrev fields_of : Found → Result Fields ApduFault
fields_of x = Ok (record { header = x.0; rest = x.1 })

abbrev behind : ℕ → List ℕ → PduType → Result Fields ApduFault
behind first rest t = header_at t first rest >>= fields_of

pub apdu_takes : (octets : List ℕ) (f : Fields) → apdu_at octets ≡ Ok f → IsApdu octets f
apdu_takes [] f e = absurd cc
apdu_takes (first ∷ rest) f e =
    let a = bind_ok (type_at first) (behind first rest) f e in
    let b = bind_ok (header_at a.0 first rest) fields_of f a.2 in
    let is = header_takes a.0 first rest b.0 b.1 in
    let made : record { header = b.0.0; rest = b.0.1 } ≡ f = ok_is {F = ApduFault} _ f b.2 in
    let numbered : first / 16 ≡ type_number (type_of b.0.0) = elim (number_cases (first / 16)) [
      | inl (t, n) ↦
          let same : t ≡ a.0 = ok_is {F = ApduFault} t a.0 (sym (number_reads t) ∙ ap type_of_number (sym n) ∙ a.1) in
          n ∙ ap type_number (same ∙ sym is.same)
      | inr high ↦ absurd (let refused = number_refused (first / 16) high in cc)
    ] in
    subst (IsApdu (first ∷ rest)) made (record { first = first; sizes = is.sizes; parts = ap (λ (o : List ℕ). first ∷ o) is.parts; numbered = numbered; flags = is.flags; sized = is.sized })

pub apdu_again : (octets : List ℕ) (f : Fields) → IsApdu octets f → apdu_at octets ≡ Ok f
apdu_again octets f is =
    let typed : type_at is.first ≡ Ok (type_of f.header) = ap type_of_number is.numbered ∙ number_reads (type_of f.header) in
    ap apdu_at is.parts
    ∙ ap (λ (t : Result PduType ApduFault). t >>= behind is.first (fixed_part is.sizes f.header ++ f.rest)) typed
    ∙ ap (λ (x : Result Found ApduFault). x >>= fields_of) (header_again is.first is.sizes f.header f.rest is.flags is.sized)

pub apdu_is : (octets : List ℕ) (f : Fields) → (apdu_at octets ≡ Ok f) ↔ IsApdu octets f
apdu_is octets f = (apdu_takes octets f, apdu_again octets f)

pub unknown_again : (octets : List ℕ) → HasUnknownType octets → apdu_at octets ≡ Err Kind
unknown_again octets is =
    ap apdu_at is.parts
    ∙ ap (λ (t : Result PduType ApduFault). t >>= behind is.first is.rest) (number_refused (is.first / 16) is.reserved)

unknown_takes : (octets : List ℕ) → apdu_at octets ≡ Err Kind → HasUnknownType octets
unknown_takes [] e = absurd cc
unknown_takes (first ∷ rest) e = elim (number_cases (first / 16)) [
  | inr high ↦ record { first = first; rest = rest; parts = refl; reserved = high }
  | inl (t, n) ↦
      let typed : type_at first ≡ Ok t = ap type_of_number n ∙ number_reads t in
      let later : behind first rest t ≡ Err Kind = ap (λ (r : Result PduType ApduFault). r >>= behind first rest) (sym typed) ∙ e in
      absurd (elim (bind_err (header_at t first rest) fields_of Kind later) [
        | inl here ↦ let short = header_err t first rest Kind here in cc
        | inr last ↦ let never = last.2 in cc
      ])
]

pub kind_is : (octets : List ℕ) → (apdu_at octets ≡ Err Kind) ↔ HasUnknownType octets
kind_is octets = (unknown_takes octets, unknown_again octets)

only_short : (fault : ApduFault) → (fault ≡ Kind → ⊥) → fault ≡ Short
only_short Short other = refl
only_short Kind other = absurd (other refl)

pub short_is : (octets : List ℕ) → (apdu_at octets ≡ Err Short) ↔ IsShort octets
short_is octets = (
  λ e. record {
    known = λ unknown. let kind = unknown_again octets unknown in cc;
    none = λ f is. let read = apdu_again octets f is in cc;
  },
  λ is. elim (either (apdu_at octets)) [
    | inl (f, e) ↦ absurd (is.none f (apdu_takes octets f e))
    | inr (fault, e) ↦ e ∙ ap Err (only_short fault (λ k. is.known (unknown_takes octets (e ∙ ap Err k))))
  ],
)

pub one_apdu : (octets : List ℕ) (f g : Fields) → IsApdu octets f → IsApdu octets g → f ≡ g
one_apdu octets f g is other = ok_is {F = ApduFault} f g (sym (apdu_again octets f is) ∙ apdu_again octets g other)

-- ---- the number for rules

pub code_some : (octets : List ℕ) (f : Fields) → IsApdu octets f → service_at octets ≡ Some (code_of f.header)
code_some octets f is = ap code_at (apdu_again octets f is)

code_none : (r : Result Fields ApduFault) → code_at r ≡ None → (fault : ApduFault) × (r ≡ Err fault)
code_none (Ok f) e = absurd cc
code_none (Err fault) e = (fault, refl)

pub code_lacks : (octets : List ℕ) → (service_at octets ≡ None) ↔ ((f : Fields) → IsApdu octets f → ⊥)
code_lacks octets = (
  λ e f is. let none = code_none (apdu_at octets) e in let some = apdu_again octets f is in cc,
  λ none. elim (either (apdu_at octets)) [
    | inl (f, e) ↦ absurd (none f (apdu_takes octets f e))
    | inr (fault, e) ↦ ap code_at e
  ],
)
