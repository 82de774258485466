-- The whole shape of a message: what was read is laid out so, and what is laid out so is read again.
use Rattle.std.proofs.Common.{◌≡◌, ℕ, ◌+◌, ◌*◌, ◌^◌, ◌<◌, List, [], ◌∷◌, ◌++◌, Option, Some, None}
use Rattle.std.proofs.Common.{Result, Ok, refl, sym, ap, subst, ◌∙◌, append_assoc, arith}
use Rattle.std.specs.Prelude.{is_some, IfSome}
use Rattle.gw_addr.specs.Reading.{◌>>=◌, AreOctets, Takes, octet_at}
use Rattle.gw_addr.proofs.Reading.{bind_ok, ok_is, Takes-then, octet_takes}
use Rattle.gw_frames.specs.declared.npdu.fault.NpduFault.{NpduFault}
use Rattle.gw_frames.specs.declared.npdu.fault.NpduFault.TheVariants.{Short}
use Rattle.gw_frames.specs.npdu.Numbers.{message_bit, bit_six, destination_bit, bit_four}
use Rattle.gw_frames.specs.npdu.Numbers.{source_bit}
use Rattle.gw_frames.specs.npdu.Npdu.{Address, Destination, Payload, Fields, IsLaidOut, is_message, bit, control}
use Rattle.gw_frames.specs.npdu.Npdu.{source_part, destination_part, hops_part, payload_part, payload_octets}
use Rattle.gw_frames.specs.npdu.Npdu.{FitsAddress, FitsPayload}
use Rattle.gw_frames.specs.npdu.Reading.{RawNpdu, raw_npdu, is_set, named_at, hops_at, payload_at, raw_at}
use Rattle.gw_frames.proofs.npdu_lemmas.Octet.{IsMadeOf, octet-split, low-below, octet_of-bits}
use Rattle.gw_frames.proofs.npdu_lemmas.Parts.{FitsNamed, IsNamed, IsBound, IsPayload, bound_of, named_takes, named_again}
use Rattle.gw_frames.proofs.npdu_lemmas.Parts.{hops_takes, hops_again, destination_part-bound, is_some-bound}
use Rattle.gw_frames.proofs.npdu_lemmas.Parts.{payload_takes, payload_again}

-- ---- what was read is laid out so

abbrev FitsBound : Option Destination → Type 0
FitsBound d = IfSome d (λ x. FitsAddress x.address × (x.hops < 2 ^ 8))

fits_destination : (d : Option Destination) → FitsNamed (bound_of d) → IfSome d (λ x. x.hops < 2 ^ 8) → FitsBound d
fits_destination None address hops = tt
fits_destination (Some d) address hops = (address, hops)

fits_address : (d : Option Destination) → FitsBound d → FitsNamed (bound_of d)
fits_address None fits = tt
fits_address (Some d) fits = fits.0

-- the reserved bits of an octet
abbrev reserved_of : ℕ → ℕ
reserved_of c = bit_six * bit (is_set c bit_six) + bit_four * bit (is_set c bit_four)

-- the fields that were read of an octet of control and of these parts
abbrev read_fields : ℕ → Option Destination → Option Address → Payload → Fields
read_fields c destination source payload = (raw_npdu 0 c destination source payload).fields

-- the control octet of what was read
control_is : (c : ℕ) (d : Option Destination) (s : Option Address) (p : Payload) → c < 2 ^ 8
    → is_message p ≡ is_set c message_bit → is_some d ≡ is_set c destination_bit → is_some s ≡ is_set c source_bit
    → c ≡ control (read_fields c d s p) + reserved_of c
control_is c d s p lt seven five three =
    omega (arith, octet-split c lt, ap bit seven, ap bit five, ap bit three)

-- the parts, joined
laid_out : (octets a b : List ℕ) (v c : ℕ) (bound : Option Address) (r0 r1 r2 : List ℕ)
    (d : Option Destination) (s : Option Address) (p : Payload)
    → Takes octets (v ∷ []) a → Takes a (c ∷ []) b → c < 2 ^ 8
    → IsNamed (is_set c destination_bit) b bound r0 → IsNamed (is_set c source_bit) r0 s r1
    → IsBound bound r1 d r2 → IsPayload (is_set c message_bit) r2 p
    → IsLaidOut octets v (read_fields c d s p)
laid_out octets a b v c bound r0 r1 r2 d s p t0 t1 lt address source hops payload =
    let at_address : destination_part d ≡ source_part bound = sym (destination_part-bound d) ∙ ap source_part hops.address_is in
    let t2 : Takes b (destination_part d) r0 = rw at_address address.takes in
    let e1 = Takes-then octets (v ∷ []) a (c ∷ []) b t0 t1 in
    let e2 = Takes-then octets (v ∷ [] ++ c ∷ []) b (destination_part d) r0 e1 t2 in
    let e3 = Takes-then octets (v ∷ [] ++ c ∷ [] ++ destination_part d) r0 (source_part s) r1 e2 source.takes in
    let e4 = Takes-then octets (v ∷ [] ++ c ∷ [] ++ destination_part d ++ source_part s) r1 (hops_part d) r2 e3 hops.takes in
    let front = v ∷ [] ++ c ∷ [] ++ destination_part d ++ source_part s ++ hops_part d in
    let whole : octets ≡ front ++ payload_part p ++ payload_octets p =
    e4.parts ∙ ap (λ (x : List ℕ). front ++ x) payload.parts ∙ sym (append_assoc front (payload_part p) (payload_octets p)) in
    let present : is_some d ≡ is_set c destination_bit =
    sym (is_some-bound d) ∙ ap is_some hops.address_is ∙ address.present in
    let sum = control_is c d s p lt payload.present present source.present in
    let at_bound : FitsNamed (bound_of d) = rw hops.address_is address.fits in
    record {
      reserved = reserved_of c;
      is_reserved = (is_set c bit_six, is_set c bit_four, refl);
      parts = subst (λ (n : ℕ). octets ≡ v ∷ [] ++ n ∷ [] ++ destination_part d ++ source_part s ++ hops_part d ++ payload_part p ++ payload_octets p) sum whole;
      fits = record {
        destination = fits_destination d at_bound hops.hops;
        source = source.fits;
        priority = low-below c lt;
        payload = payload.fits;
      };
    }

-- what is read after each part
abbrev payload_read : ℕ → ℕ → Option Destination → Option Address → List ℕ → Result RawNpdu NpduFault
payload_read v c d s rest = payload_at (is_set c message_bit) rest >>= λ payload. Ok (raw_npdu v c d s payload)

abbrev hops_read : ℕ → ℕ → Option Address → Option Address → List ℕ → Result RawNpdu NpduFault
hops_read v c bound s rest = hops_at bound rest >>= λ d. payload_read v c d.0 s d.1

abbrev source_read : ℕ → ℕ → Option Address → List ℕ → Result RawNpdu NpduFault
source_read v c bound rest = named_at (is_set c source_bit) rest >>= λ s. hops_read v c bound s.0 s.1

abbrev bound_read : ℕ → ℕ → List ℕ → Result RawNpdu NpduFault
bound_read v c rest = named_at (is_set c destination_bit) rest >>= λ bound. source_read v c bound.0 bound.1

abbrev control_read : ℕ → List ℕ → Result RawNpdu NpduFault
control_read v rest = octet_at Short rest >>= λ c. bound_read v c.0 c.1

pub raw_takes : (octets : List ℕ) (raw : RawNpdu) → AreOctets octets → raw_at octets ≡ Ok raw
    → IsLaidOut octets raw.version raw.fields
raw_takes octets raw fits e =
    let a = bind_ok (octet_at Short octets) (λ version. control_read version.0 version.1) raw e in
    let b = bind_ok (octet_at Short a.0.1) (λ c. bound_read a.0.0 c.0 c.1) raw a.2 in
    let c = bind_ok (named_at (is_set b.0.0 destination_bit) b.0.1) (λ bound. source_read a.0.0 b.0.0 bound.0 bound.1) raw b.2 in
    let d = bind_ok (named_at (is_set b.0.0 source_bit) c.0.1) (λ s. hops_read a.0.0 b.0.0 c.0.0 s.0 s.1) raw c.2 in
    let g = bind_ok (hops_at c.0.0 d.0.1) (λ x. payload_read a.0.0 b.0.0 x.0 d.0.0 x.1) raw d.2 in
    let h = bind_ok (payload_at (is_set b.0.0 message_bit) g.0.1) (λ p. Ok (raw_npdu a.0.0 b.0.0 g.0.0 d.0.0 p)) raw g.2 in
    let t0 = octet_takes Short octets a.0.0 a.0.1 fits a.1 in
    let t1 = octet_takes Short a.0.1 b.0.0 b.0.1 t0.0.rest_octets b.1 in
    let t2 = named_takes (is_set b.0.0 destination_bit) b.0.1 c.0 t1.0.rest_octets c.1 in
    let t3 = named_takes (is_set b.0.0 source_bit) c.0.1 d.0 t2.takes.rest_octets d.1 in
    let t4 = hops_takes c.0.0 d.0.1 g.0 t3.takes.rest_octets g.1 in
    let t5 = payload_takes (is_set b.0.0 message_bit) g.0.1 h.0 t4.takes.rest_octets h.1 in
    let whole =
    laid_out octets a.0.1 b.0.1 a.0.0 b.0.0 c.0.0 c.0.1 d.0.1 g.0.1 g.0.0 d.0.0 h.0 t0.0 t1.0 t1.1 t2 t3 t4 t5 in
    subst (λ (y : RawNpdu). IsLaidOut octets y.version y.fields) {x = raw_npdu a.0.0 b.0.0 g.0.0 d.0.0 h.0}
    (ok_is (raw_npdu a.0.0 b.0.0 g.0.0 d.0.0 h.0) raw h.2) whole

-- ---- what is laid out so is read

-- the octets of the parts, in the order in which they are read
abbrev parts_octets : Option Destination → Option Address → Payload → List ℕ
parts_octets d s p = source_part (bound_of d) ++ (source_part s ++ (hops_part d ++ (payload_part p ++ payload_octets p)))

raw_of : ℕ → Fields → RawNpdu
raw_of v f = record { version = v; fields = f }

read_again : (v c : ℕ) (f : Fields)
    → IsMadeOf c (is_message f.payload) (is_some f.destination) (is_some f.source) f.reply_expected f.priority
    → FitsNamed (bound_of f.destination) → FitsNamed f.source → FitsPayload f.payload
    → raw_at (v ∷ c ∷ parts_octets f.destination f.source f.payload) ≡ Ok (raw_of v f)
unfolding raw_of
read_again v c f made fits_d fits_s fits_p =
    let d = f.destination in
    let s = f.source in
    let p = f.payload in
    let five : is_set c destination_bit ≡ is_some (bound_of d) = made.five_is ∙ sym (is_some-bound d) in
    rw (
      five,
      named_again (bound_of d) (source_part s ++ (hops_part d ++ (payload_part p ++ payload_octets p))) fits_d,
      made.three_is,
      named_again s (hops_part d ++ (payload_part p ++ payload_octets p)) fits_s,
      hops_again d (payload_part p ++ payload_octets p),
      made.seven_is,
      payload_again p fits_p,
      made.two_is,
      made.low_is,
    ) refl

regroup : (v c : ℕ) (a b d e g : List ℕ)
    → v ∷ [] ++ c ∷ [] ++ a ++ b ++ d ++ e ++ g ≡ v ∷ c ∷ (a ++ (b ++ (d ++ (e ++ g))))
regroup v c a b d e g = simp append_assoc

pub raw_again : (octets : List ℕ) (v : ℕ) (f : Fields) → IsLaidOut octets v f → raw_at octets ≡ Ok (record { version = v; fields = f })
unfolding raw_of
raw_again octets v f laid =
    let c = control f + laid.reserved in
    let sum : c ≡ control f + (bit_six * bit laid.is_reserved.0 + bit_four * bit laid.is_reserved.1) =
    ap (λ (n : ℕ). control f + n) laid.is_reserved.2 in
    let made =
    octet_of-bits c (is_message f.payload) laid.is_reserved.0 (is_some f.destination) laid.is_reserved.1
    (is_some f.source) f.reply_expected f.priority laid.fits.priority (omega (arith, sum)) in
    let grouped : octets ≡ v ∷ c ∷ parts_octets f.destination f.source f.payload =
    laid.parts ∙ rw (destination_part-bound f.destination)
    (regroup v c (destination_part f.destination) (source_part f.source) (hops_part f.destination)
    (payload_part f.payload) (payload_octets f.payload)) in
    ap raw_at grouped
    ∙ read_again v c f made (fits_address f.destination laid.fits.destination) laid.fits.source laid.fits.payload
