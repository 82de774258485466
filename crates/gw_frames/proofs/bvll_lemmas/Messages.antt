-- What is read has those octets, those octets are read as it again, and each fault is what its words say of the octets.
use Rattle.std.proofs.Common.{◌≡◌, ◌≢◌, ◌⊎◌, ◌↔◌, inl, inr, ℕ, zero, suc, ◌+◌, ◌%◌, ◌^◌, ◌<◌, ◌≤◌, false, ltb, List, [], ◌∷◌, ◌++◌, length, take, drop, get_or, Ok, Err, refl, sym, ap, ap₂, subst, ◌∙◌, arith}
use Rattle.std.specs.List.{flat_map}
use Rattle.std.specs.Int.{w16, from_be_bytes, to_be_bytes}
use Rattle.std.proofs.lemmas.Bool.{eq-eqb, ne_eqb, le-ltb, lt-ltb, cases_lt, cases_eq}
use Rattle.std.proofs.lemmas.List.{length-drop, nil_from_length, take-append-drop, take_all, append-nil}
use Rattle.gw_addr.specs.declared.bip.BipAddr.{BipAddr}
use Rattle.gw_addr.specs.Address.{octets_of, address_in, address_at, IsAddress}
use Rattle.gw_addr.specs.Entry.{bdt_octets, fdt_octets, bdt_entry, fdt_entry, IsBdtEntry, IsFdtEntry}
use Rattle.gw_addr.specs.Reading.{◌>>=◌, AreOctets}
use Rattle.gw_addr.proofs.Addresses.{address_in-fits, address_in-back, address_again}
use Rattle.gw_addr.proofs.Reading.{AreOctets-take, AreOctets-drop, ok_is, wide16}
use Rattle.gw_frames.specs.declared.bvll.fault.BvllFault.{BvllFault}
use Rattle.gw_frames.specs.declared.bvll.fault.BvllFault.TheVariants as faults
use Rattle.gw_frames.specs.declared.bvll.function.Function.{Function}
use Rattle.gw_frames.specs.declared.bvll.function.Function.TheVariants as functions
use Rattle.gw_frames.specs.bvll.Tens.{entries_at}
use Rattle.gw_frames.specs.bvll.internal.Reads.{reads_bdt, reads_fdt}
use Rattle.gw_frames.specs.bvll.Bvll.{Message, result_code, write_bdt, read_bdt, read_bdt_ack, forwarded, register, read_fdt, read_fdt_ack, delete, distribute, original_unicast, original_broadcast, octet_of, function_of, body_of, encoding, HasFields, IsValid, IsBvll}
use Rattle.gw_frames.specs.bvll.Reading.{function_at, number_body, address_body, body_at, bvll_at}
use Rattle.gw_frames.specs.bvll.Shape.{told_length, IsMarked, IsFramed, FitsFunction, IsBadMarker, IsBadLength, IsBadFunction, IsBadBody}
use Rattle.gw_frames.proofs.bvll_lemmas.EntryLists.{entries-back, entries-fit, entries-again, entries-whole}

-- ---- the parts of a body

-- two octets are a number
number_reads : (body : List ℕ) → length body ≡ 2 → number_body body ≡ Ok (from_be_bytes w16 body)
number_reads body len =
    let long : ltb (length body) 2 ≡ false = le-ltb _ _ (omega arith) in
    let none : length (drop 2 body) ≡ 0 = omega (arith, length-drop 2 body) in
    rw (long, none, take_all 2 body (omega arith)) refl

number_refused : (body : List ℕ) → ¬ (length body ≡ 2) → number_body body ≡ Err faults.Body
number_refused body unfit =
    elim (cases_lt (length body) 2) [
      | inl short ↦ rw (lt-ltb _ _ short) refl
      | inr long ↦
          let some : (length (drop 2 body) ≡ 0 → ⊥) = λ none. unfit (omega (arith, length-drop 2 body)) in
          rw (le-ltb _ _ long, ne_eqb _ _ some) refl
    ]

-- six octets are an address
address_reads : (body : List ℕ) → 6 ≤ length body → address_at faults.Body body ≡ Ok (address_in body, drop 6 body)
address_reads body long = rw (le-ltb (length body) 6 long) refl

address_refused : (body : List ℕ) → length body < 6 → address_at faults.Body body ≡ Err faults.Body
address_refused body short = rw (lt-ltb (length body) 6 short) refl

address_back : (body : List ℕ) → 6 ≤ length body → AreOctets body → octets_of (address_in body) ++ drop 6 body ≡ body
address_back body long octets = ap (λ (x : List ℕ). x ++ drop 6 body) (address_in-back body long octets) ∙ take-append-drop 6 body

-- six octets alone are an address
address_alone : (body : List ℕ) → length body ≡ 6 → address_body body ≡ Ok (address_in body)
address_alone body six =
    let none : length (drop 6 body) ≡ 0 = omega (arith, length-drop 6 body) in
    rw (address_reads body (omega arith), none) refl

address_not_alone : (body : List ℕ) → ¬ (length body ≡ 6) → address_body body ≡ Err faults.Body
address_not_alone body unfit =
    elim (cases_lt (length body) 6) [
      | inl short ↦ rw (address_refused body short) refl
      | inr long ↦
          let some : (length (drop 6 body) ≡ 0 → ⊥) = λ none. unfit (omega (arith, length-drop 6 body)) in
          rw (address_reads body long, ne_eqb _ _ some) refl
    ]

address_alone_again : (a : BipAddr) → IsAddress a → address_body (octets_of a) ≡ Ok a
address_alone_again a fits =
    let all : address_at faults.Body (octets_of a) ≡ Ok (a, []) = ap (address_at faults.Body) (sym (append-nil (octets_of a))) ∙ address_again faults.Body a [] fits in
    rw all refl

-- ---- a body by its function

-- a body that is read
record IsRead (function : Function) (body : List ℕ) : Type 0 where
  fits : FitsFunction function (length body)
  message : Message
  reads : body_at function body ≡ Ok message
  same_function : function_of message ≡ function
  same_body : body_of message ≡ body
  fields : HasFields message

-- a body that is refused
record IsRefused (function : Function) (body : List ℕ) : Type 0 where
  unfit : ¬ FitsFunction function (length body)
  reads : body_at function body ≡ Err faults.Body

body_cases : (function : Function) (body : List ℕ) → AreOctets body → IsRead function body ⊎ IsRefused function body
body_cases functions.Result body octets =
    elim (cases_eq (length body) 2) [
      | inl fit ↦ inl (record { fits = fit; message = result_code (from_be_bytes w16 body); reads = rw (number_reads body fit) refl; same_function = refl; same_body = wide16.back body fit octets; fields = wide16.below body octets })
      | inr unfit ↦ inr (record { unfit = unfit; reads = rw (number_refused body unfit) refl })
    ]
body_cases functions.WriteBdt body octets =
    elim (cases_eq (length body % 10) 0) [
      | inl fit ↦ inl (record { fits = fit; message = write_bdt (entries_at bdt_entry body); reads = rw (eq-eqb (length body % 10) 0 fit) refl; same_function = refl; same_body = entries-back bdt_octets bdt_entry IsBdtEntry reads_bdt body octets fit; fields = entries-fit bdt_octets bdt_entry IsBdtEntry reads_bdt body octets fit })
      | inr unfit ↦ inr (record { unfit = unfit; reads = rw (ne_eqb (length body % 10) 0 unfit) refl })
    ]
body_cases functions.ReadBdt body octets =
    elim (cases_eq (length body) 0) [
      | inl fit ↦ inl (record { fits = fit; message = read_bdt; reads = rw (eq-eqb (length body) 0 fit) refl; same_function = refl; same_body = sym (nil_from_length body fit); fields = tt })
      | inr unfit ↦ inr (record { unfit = unfit; reads = rw (ne_eqb (length body) 0 unfit) refl })
    ]
body_cases functions.ReadBdtAck body octets =
    elim (cases_eq (length body % 10) 0) [
      | inl fit ↦ inl (record { fits = fit; message = read_bdt_ack (entries_at bdt_entry body); reads = rw (eq-eqb (length body % 10) 0 fit) refl; same_function = refl; same_body = entries-back bdt_octets bdt_entry IsBdtEntry reads_bdt body octets fit; fields = entries-fit bdt_octets bdt_entry IsBdtEntry reads_bdt body octets fit })
      | inr unfit ↦ inr (record { unfit = unfit; reads = rw (ne_eqb (length body % 10) 0 unfit) refl })
    ]
body_cases functions.Forwarded body octets =
    elim (cases_lt (length body) 6) [
      | inl short ↦ inr (record { unfit = λ fit. omega arith; reads = rw (address_refused body short) refl })
      | inr fit ↦ inl (record { fits = fit; message = forwarded (address_in body) (drop 6 body); reads = rw (address_reads body fit) refl; same_function = refl; same_body = address_back body fit octets; fields = (address_in-fits body fit octets, AreOctets-drop 6 body octets) })
    ]
body_cases functions.Register body octets =
    elim (cases_eq (length body) 2) [
      | inl fit ↦ inl (record { fits = fit; message = register (from_be_bytes w16 body); reads = rw (number_reads body fit) refl; same_function = refl; same_body = wide16.back body fit octets; fields = wide16.below body octets })
      | inr unfit ↦ inr (record { unfit = unfit; reads = rw (number_refused body unfit) refl })
    ]
body_cases functions.ReadFdt body octets =
    elim (cases_eq (length body) 0) [
      | inl fit ↦ inl (record { fits = fit; message = read_fdt; reads = rw (eq-eqb (length body) 0 fit) refl; same_function = refl; same_body = sym (nil_from_length body fit); fields = tt })
      | inr unfit ↦ inr (record { unfit = unfit; reads = rw (ne_eqb (length body) 0 unfit) refl })
    ]
body_cases functions.ReadFdtAck body octets =
    elim (cases_eq (length body % 10) 0) [
      | inl fit ↦ inl (record { fits = fit; message = read_fdt_ack (entries_at fdt_entry body); reads = rw (eq-eqb (length body % 10) 0 fit) refl; same_function = refl; same_body = entries-back fdt_octets fdt_entry IsFdtEntry reads_fdt body octets fit; fields = entries-fit fdt_octets fdt_entry IsFdtEntry reads_fdt body octets fit })
      | inr unfit ↦ inr (record { unfit = unfit; reads = rw (ne_eqb (length body % 10) 0 unfit) refl })
    ]
body_cases functions.Delete body octets =
    elim (cases_eq (length body) 6) [
      | inl fit ↦
          let long : 6 ≤ length body = omega arith in
          let none : drop 6 body ≡ [] = nil_from_length (drop 6 body) (omega (arith, length-drop 6 body)) in
          let all : octets_of (address_in body) ≡ body = sym (append-nil (octets_of (address_in body))) ∙ ap (λ (x : List ℕ). octets_of (address_in body) ++ x) (sym none) ∙ address_back body long octets in
          inl (record { fits = fit; message = delete (address_in body); reads = rw (address_alone body fit) refl; same_function = refl; same_body = all; fields = address_in-fits body long octets })
      | inr unfit ↦ inr (record { unfit = unfit; reads = rw (address_not_alone body unfit) refl })
    ]
body_cases functions.Distribute body octets = inl (record { fits = tt; message = distribute body; reads = refl; same_function = refl; same_body = refl; fields = octets })
body_cases functions.OriginalUnicast body octets = inl (record { fits = tt; message = original_unicast body; reads = refl; same_function = refl; same_body = refl; fields = octets })
body_cases functions.OriginalBroadcast body octets = inl (record { fits = tt; message = original_broadcast body; reads = refl; same_function = refl; same_body = refl; fields = octets })

-- a message's body is read as that message again
body_again : (m : Message) → HasFields m → body_at (function_of m) (body_of m) ≡ Ok m
body_again (result_code code) fits = ap (λ r. r >>= λ n. Ok (result_code n)) (number_reads (to_be_bytes w16 code) (wide16.len code) ∙ ap Ok (wide16.again code fits))
body_again (write_bdt entries) fits =
    let whole : length (flat_map bdt_octets entries) % 10 ≡ 0 = entries-whole bdt_octets bdt_entry IsBdtEntry reads_bdt (flat_map bdt_octets entries) entries fits refl in
    rw (eq-eqb (length (flat_map bdt_octets entries) % 10) 0 whole, entries-again bdt_octets bdt_entry IsBdtEntry reads_bdt entries fits) refl
body_again read_bdt fits = refl
body_again (read_bdt_ack entries) fits =
    let whole : length (flat_map bdt_octets entries) % 10 ≡ 0 = entries-whole bdt_octets bdt_entry IsBdtEntry reads_bdt (flat_map bdt_octets entries) entries fits refl in
    rw (eq-eqb (length (flat_map bdt_octets entries) % 10) 0 whole, entries-again bdt_octets bdt_entry IsBdtEntry reads_bdt entries fits) refl
body_again (forwarded originator npdu) fits = rw (address_again faults.Body originator npdu fits.0) refl
body_again (register time_to_live) fits = ap (λ r. r >>= λ n. Ok (register n)) (number_reads (to_be_bytes w16 time_to_live) (wide16.len time_to_live) ∙ ap Ok (wide16.again time_to_live fits))
body_again read_fdt fits = refl
body_again (read_fdt_ack entries) fits =
    let whole : length (flat_map fdt_octets entries) % 10 ≡ 0 = entries-whole fdt_octets fdt_entry IsFdtEntry reads_fdt (flat_map fdt_octets entries) entries fits refl in
    rw (eq-eqb (length (flat_map fdt_octets entries) % 10) 0 whole, entries-again fdt_octets fdt_entry IsFdtEntry reads_fdt entries fits) refl
body_again (delete address) fits = rw (address_alone_again address fits) refl
body_again (distribute npdu) fits = refl
body_again (original_unicast npdu) fits = refl
body_again (original_broadcast npdu) fits = refl

-- ---- functions

function_reads : (f : Function) → function_at (octet_of f) ≡ Ok f
function_reads functions.Result = refl
function_reads functions.WriteBdt = refl
function_reads functions.ReadBdt = refl
function_reads functions.ReadBdtAck = refl
function_reads functions.Forwarded = refl
function_reads functions.Register = refl
function_reads functions.ReadFdt = refl
function_reads functions.ReadFdtAck = refl
function_reads functions.Delete = refl
function_reads functions.Distribute = refl
function_reads functions.OriginalUnicast = refl
function_reads functions.OriginalBroadcast = refl

function_refused : (n : ℕ) → 0x0B < n → function_at n ≡ Err faults.Function
function_refused zero high = absurd (omega arith)
function_refused (suc zero) high = absurd (omega arith)
function_refused (suc (suc zero)) high = absurd (omega arith)
function_refused (suc (suc (suc zero))) high = absurd (omega arith)
function_refused (suc (suc (suc (suc zero)))) high = absurd (omega arith)
function_refused (suc (suc (suc (suc (suc zero))))) high = absurd (omega arith)
function_refused (suc (suc (suc (suc (suc (suc zero)))))) high = absurd (omega arith)
function_refused (suc (suc (suc (suc (suc (suc (suc zero))))))) high = absurd (omega arith)
function_refused (suc (suc (suc (suc (suc (suc (suc (suc zero)))))))) high = absurd (omega arith)
function_refused (suc (suc (suc (suc (suc (suc (suc (suc (suc zero))))))))) high = absurd (omega arith)
function_refused (suc (suc (suc (suc (suc (suc (suc (suc (suc (suc zero)))))))))) high = absurd (omega arith)
function_refused (suc (suc (suc (suc (suc (suc (suc (suc (suc (suc (suc zero))))))))))) high = absurd (omega arith)
function_refused (suc (suc (suc (suc (suc (suc (suc (suc (suc (suc (suc (suc n)))))))))))) high = refl

function_cases : (n : ℕ) → ((f : Function) × (n ≡ octet_of f)) ⊎ (0x0B < n)
function_cases zero = inl (functions.Result, refl)
function_cases (suc zero) = inl (functions.WriteBdt, refl)
function_cases (suc (suc zero)) = inl (functions.ReadBdt, refl)
function_cases (suc (suc (suc zero))) = inl (functions.ReadBdtAck, refl)
function_cases (suc (suc (suc (suc zero)))) = inl (functions.Forwarded, refl)
function_cases (suc (suc (suc (suc (suc zero))))) = inl (functions.Register, refl)
function_cases (suc (suc (suc (suc (suc (suc zero)))))) = inl (functions.ReadFdt, refl)
function_cases (suc (suc (suc (suc (suc (suc (suc zero))))))) = inl (functions.ReadFdtAck, refl)
function_cases (suc (suc (suc (suc (suc (suc (suc (suc zero)))))))) = inl (functions.Delete, refl)
function_cases (suc (suc (suc (suc (suc (suc (suc (suc (suc zero))))))))) = inl (functions.Distribute, refl)
function_cases (suc (suc (suc (suc (suc (suc (suc (suc (suc (suc zero)))))))))) = inl (functions.OriginalUnicast, refl)
function_cases (suc (suc (suc (suc (suc (suc (suc (suc (suc (suc (suc zero))))))))))) = inl (functions.OriginalBroadcast, refl)
function_cases (suc (suc (suc (suc (suc (suc (suc (suc (suc (suc (suc (suc n)))))))))))) = inr (omega arith)

-- ---- whole messages

lacks_marker : (octets : List ℕ) → IsBadMarker octets → bvll_at octets ≡ Err faults.Marker
lacks_marker [] h = absurd (omega (arith, h.whole))
lacks_marker (a ∷ []) h = absurd (omega (arith, h.whole))
lacks_marker (a ∷ b ∷ []) h = absurd (omega (arith, h.whole))
lacks_marker (a ∷ b ∷ c ∷ []) h = absurd (omega (arith, h.whole))
lacks_marker (marker ∷ function ∷ high ∷ low ∷ body) h = rw (ne_eqb marker 0x81 h.marker) refl

short_length : (octets : List ℕ) → length octets < 4 → bvll_at octets ≡ Err faults.Length
short_length [] short = refl
short_length (a ∷ []) short = refl
short_length (a ∷ b ∷ []) short = refl
short_length (a ∷ b ∷ c ∷ []) short = refl
short_length (marker ∷ function ∷ high ∷ low ∷ body) short = absurd (omega arith)

other_length : (octets : List ℕ) → IsMarked octets → told_length octets ≢ length octets → bvll_at octets ≡ Err faults.Length
other_length [] h ne = absurd (omega (arith, h.whole))
other_length (a ∷ []) h ne = absurd (omega (arith, h.whole))
other_length (a ∷ b ∷ []) h ne = absurd (omega (arith, h.whole))
other_length (a ∷ b ∷ c ∷ []) h ne = absurd (omega (arith, h.whole))
other_length (marker ∷ function ∷ high ∷ low ∷ body) h ne =
    let unequal : (from_be_bytes w16 (high ∷ low ∷ []) ≡ 4 + length body → ⊥) = λ e. ne (omega arith) in
    rw (eq-eqb marker 0x81 h.marker, ne_eqb (from_be_bytes w16 (high ∷ low ∷ [])) (4 + length body) unequal) refl

lacks_length : (octets : List ℕ) → IsBadLength octets → bvll_at octets ≡ Err faults.Length
lacks_length octets (inl short) = short_length octets short
lacks_length octets (inr other) = other_length octets other.0 other.1

-- after a whole header, function and body decide
framed_reads : (octets : List ℕ) → IsFramed octets → bvll_at octets ≡ (function_at (get_or octets 1 0) >>= λ kind. body_at kind (drop 4 octets))
framed_reads [] h = absurd (omega (arith, h.marked.whole))
framed_reads (a ∷ []) h = absurd (omega (arith, h.marked.whole))
framed_reads (a ∷ b ∷ []) h = absurd (omega (arith, h.marked.whole))
framed_reads (a ∷ b ∷ c ∷ []) h = absurd (omega (arith, h.marked.whole))
framed_reads (marker ∷ function ∷ high ∷ low ∷ body) h =
    let equal : from_be_bytes w16 (high ∷ low ∷ []) ≡ 4 + length body = omega (arith, h.size) in
    rw (eq-eqb marker 0x81 h.marked.marker, eq-eqb (from_be_bytes w16 (high ∷ low ∷ [])) (4 + length body) equal) refl

lacks_function : (octets : List ℕ) → IsBadFunction octets → bvll_at octets ≡ Err faults.Function
lacks_function octets h = framed_reads octets h.framed ∙ rw (function_refused (get_or octets 1 0) h.function) refl

-- a whole header with a function
named_reads : (octets : List ℕ) (f : Function) → IsFramed octets → get_or octets 1 0 ≡ octet_of f → bvll_at octets ≡ body_at f (drop 4 octets)
named_reads octets f framed named = framed_reads octets framed ∙ rw (named, function_reads f) refl

-- the octets after the header and those of the header are all
framed_back : (octets : List ℕ) (m : Message) → AreOctets octets → IsFramed octets → get_or octets 1 0 ≡ octet_of (function_of m) → body_of m ≡ drop 4 octets → octets ≡ encoding m
framed_back [] m fits h named body = absurd (omega (arith, h.marked.whole))
framed_back (a ∷ []) m fits h named body = absurd (omega (arith, h.marked.whole))
framed_back (a ∷ b ∷ []) m fits h named body = absurd (omega (arith, h.marked.whole))
framed_back (a ∷ b ∷ c ∷ []) m fits h named body = absurd (omega (arith, h.marked.whole))
framed_back (marker ∷ function ∷ high ∷ low ∷ rest) m fits h named body =
    let size : from_be_bytes w16 (high ∷ low ∷ []) ≡ 4 + length (body_of m) = omega (arith, h.size, ap length body) in
    let told : to_be_bytes w16 (4 + length (body_of m)) ≡ high ∷ low ∷ [] = ap (to_be_bytes w16) (sym size) ∙ wide16.back (high ∷ low ∷ []) refl (AreOctets-take 2 (high ∷ low ∷ rest) (AreOctets-drop 2 (marker ∷ function ∷ high ∷ low ∷ rest) fits)) in
    let header : 0x81 ∷ octet_of (function_of m) ∷ to_be_bytes w16 (4 + length (body_of m)) ≡ marker ∷ function ∷ high ∷ low ∷ [] =
    ap₂ (λ (x : ℕ) (y : ℕ). x ∷ y ∷ to_be_bytes w16 (4 + length (body_of m))) (sym h.marked.marker) (sym named) ∙ ap (λ (x : List ℕ). marker ∷ function ∷ x) told in
    sym (ap₂ ◌++◌ header body)

-- what octets are
data Outcome (octets : List ℕ) : Type 0 where
  unmarked : IsBadMarker octets → Outcome octets
  other_sized : IsBadLength octets → Outcome octets
  unnamed : IsBadFunction octets → Outcome octets
  unfit : IsBadBody octets → Outcome octets
  whole : (m : Message) → bvll_at octets ≡ Ok m → octets ≡ encoding m → IsValid m → Outcome octets

outcome_named : (octets : List ℕ) → AreOctets octets → IsFramed octets → (f : Function) → get_or octets 1 0 ≡ octet_of f → IsRead f (drop 4 octets) ⊎ IsRefused f (drop 4 octets) → Outcome octets
outcome_named octets fits framed f named (inl read) =
    let encoded : octets ≡ encoding read.message = framed_back octets read.message fits framed (named ∙ ap octet_of (sym read.same_function)) read.same_body in
    let short : length octets < 2 ^ 16 = rw (← framed.size) (wide16.below (take 2 (drop 2 octets)) (AreOctets-take 2 (drop 2 octets) (AreOctets-drop 2 octets fits))) in
    whole read.message (named_reads octets f framed named ∙ read.reads) encoded (record { fields = read.fields; size = subst (λ (x : List ℕ). length x < 2 ^ 16) encoded short })
outcome_named octets fits framed f named (inr refused) = unfit (record { framed = framed; function = f; named = named; body = refused.unfit })

outcome : (octets : List ℕ) → AreOctets octets → Outcome octets
outcome octets fits =
    elim (cases_lt (length octets) 4) [
      | inl short ↦ other_sized (inl short)
      | inr long ↦
          elim (cases_eq (get_or octets 0 0) 0x81) [
            | inr ne ↦ unmarked (record { whole = long; marker = ne })
            | inl marker ↦
                let marked : IsMarked octets = record { whole = long; marker = marker } in
                elim (cases_eq (told_length octets) (length octets)) [
                  | inr ne ↦ other_sized (inr (marked, ne))
                  | inl size ↦
                      let framed : IsFramed octets = record { marked = marked; size = size } in
                      elim (function_cases (get_or octets 1 0)) [
                        | inr high ↦ unnamed (record { framed = framed; function = high })
                        | inl named ↦ outcome_named octets fits framed named.0 named.1 (body_cases named.0 (drop 4 octets) (AreOctets-drop 4 octets fits))
                      ]
                ]
          ]
    ]

lacks_body : (octets : List ℕ) → AreOctets octets → IsBadBody octets → bvll_at octets ≡ Err faults.Body
lacks_body octets fits h =
    named_reads octets h.function h.framed h.named ∙ elim (body_cases h.function (drop 4 octets) (AreOctets-drop 4 octets fits)) [
      | inl read ↦ absurd (h.body read.fits)
      | inr refused ↦ refused.reads
    ]

-- a message's octets are read as that message
pub bvll_again : (m : Message) → IsValid m → bvll_at (encoding m) ≡ Ok m
bvll_again m valid =
    let n : ℕ = 4 + length (body_of m) in
    let size : length (encoding m) ≡ n = omega arith in
    let told : told_length (encoding m) ≡ length (encoding m) = wide16.again n (omega (arith, valid.size)) ∙ sym size in
    let framed : IsFramed (encoding m) = record { marked = record { whole = omega arith; marker = refl }; size = told } in
    named_reads (encoding m) (function_of m) framed refl ∙ body_again m valid.fields

-- two messages with the same octets are one
pub encoding_tells : (m n : Message) → IsValid m → IsValid n → encoding m ≡ encoding n → m ≡ n
encoding_tells m n valid valid' same = ok_is {F = BvllFault} m n (sym (bvll_again m valid) ∙ ap bvll_at same ∙ bvll_again n valid')

-- what is read has those octets
pub bvll_takes : (octets : List ℕ) → AreOctets octets → (m : Message) → bvll_at octets ≡ Ok m → IsValid m × (octets ≡ encoding m)
bvll_takes octets fits m e =
    elim (outcome octets fits) [
      | unmarked h ↦ let refused = lacks_marker octets h in absurd cc
      | other_sized h ↦ let refused = lacks_length octets h in absurd cc
      | unnamed h ↦ let refused = lacks_function octets h in absurd cc
      | unfit h ↦ let refused = lacks_body octets fits h in absurd cc
      | whole n reads encoded valid ↦
          let same : n ≡ m = ok_is {F = BvllFault} n m (sym reads ∙ e) in
          subst (λ (x : Message). IsValid x × (octets ≡ encoding x)) same (valid, encoded)
    ]

-- ---- each fault, by its words

pub marker_is : (octets : List ℕ) → AreOctets octets → (bvll_at octets ≡ Err faults.Marker) ↔ IsBadMarker octets
marker_is octets fits = (
  λ e. elim (outcome octets fits) [
    | unmarked h ↦ h
    | other_sized h ↦ let refused = lacks_length octets h in absurd cc
    | unnamed h ↦ let refused = lacks_function octets h in absurd cc
    | unfit h ↦ let refused = lacks_body octets fits h in absurd cc
    | whole n reads encoded valid ↦ absurd cc
  ],
  lacks_marker octets,
)

pub length_is : (octets : List ℕ) → AreOctets octets → (bvll_at octets ≡ Err faults.Length) ↔ IsBadLength octets
length_is octets fits = (
  λ e. elim (outcome octets fits) [
    | unmarked h ↦ let refused = lacks_marker octets h in absurd cc
    | other_sized h ↦ h
    | unnamed h ↦ let refused = lacks_function octets h in absurd cc
    | unfit h ↦ let refused = lacks_body octets fits h in absurd cc
    | whole n reads encoded valid ↦ absurd cc
  ],
  lacks_length octets,
)

pub function_is : (octets : List ℕ) → AreOctets octets → (bvll_at octets ≡ Err faults.Function) ↔ IsBadFunction octets
function_is octets fits = (
  λ e. elim (outcome octets fits) [
    | unmarked h ↦ let refused = lacks_marker octets h in absurd cc
    | other_sized h ↦ let refused = lacks_length octets h in absurd cc
    | unnamed h ↦ h
    | unfit h ↦ let refused = lacks_body octets fits h in absurd cc
    | whole n reads encoded valid ↦ absurd cc
  ],
  lacks_function octets,
)

pub body_is : (octets : List ℕ) → AreOctets octets → (bvll_at octets ≡ Err faults.Body) ↔ IsBadBody octets
body_is octets fits = (
  λ e. elim (outcome octets fits) [
    | unmarked h ↦ let refused = lacks_marker octets h in absurd cc
    | other_sized h ↦ let refused = lacks_length octets h in absurd cc
    | unnamed h ↦ let refused = lacks_function octets h in absurd cc
    | unfit h ↦ h
    | whole n reads encoded valid ↦ absurd cc
  ],
  lacks_body octets fits,
)

-- the reading function and the relation agree
pub reads_as : (octets : List ℕ) (m : Message) → AreOctets octets → (bvll_at octets ≡ Ok m) ↔ IsBvll octets m
reads_as octets m fits = (
  λ e. let taken = bvll_takes octets fits m e in record { valid = taken.0; encoded = taken.1 },
  λ is. ap bvll_at is.encoded ∙ bvll_again m is.valid,
)
