-- Each part of a message: what was read is encoded so, and what is encoded so is read again.
use Rattle.std.proofs.Common.{◌≡◌, ℕ, ◌^◌, ◌<◌, Bool, true, false, cond, ltb, List, [], ◌∷◌, ◌++◌, length}
use Rattle.std.proofs.Common.{Option, Some, None, Ok, refl, sym, ap, subst, ◌∙◌, append_assoc, arith, inl, inr}
use Rattle.std.specs.Prelude.{is_some, IfSome}
use Rattle.std.specs.Option.{option_map}
use Rattle.std.specs.Int.{w16, to_be_bytes}
use Rattle.std.proofs.lemmas.Bool.{ltb-false, ltb-true, le-ltb, lt-ltb}
use Rattle.gw_addr.specs.Reading.{◌>>=◌, AreOctets, Takes, octet_at, front_at, number_at}
use Rattle.gw_addr.proofs.Reading.{bind_ok, ok_is, chosen, Takes-then, octet_takes, front_takes, front_again}
use Rattle.gw_addr.proofs.Reading.{number_takes, number_again, wide16}
use Rattle.gw_frames.specs.declared.npdu.fault.NpduFault.TheVariants.{Short}
use Rattle.gw_frames.specs.npdu.Numbers.{first_vendor_kind}
use Rattle.gw_frames.specs.npdu.Npdu.{Address, Destination, Message, Payload, apdu, message, is_message}
use Rattle.gw_frames.specs.npdu.Npdu.{address_part, source_part, destination_part, hops_part, vendor_part, payload_part}
use Rattle.gw_frames.specs.npdu.Npdu.{payload_octets, FitsAddress, FitsMessage, FitsPayload}
use Rattle.gw_frames.specs.npdu.Reading.{address_at, named_at, hops_at, message_at, payload_at}

-- ---- a network and the address of a station there

address_of : ℕ → List ℕ → Address
address_of network mac = record { network = network; mac = mac }

-- what an address is read as
abbrev IsAddress : List ℕ → Address × List ℕ → Type 0
IsAddress octets x = Takes octets (address_part x.0) x.1 × FitsAddress x.0

-- a length is that of the octets after it
sized : (octets network mac rest : List ℕ) (len : ℕ) → length mac ≡ len
    → Takes octets (network ++ len ∷ [] ++ mac) rest → Takes octets (network ++ length mac ∷ [] ++ mac) rest
sized octets network mac rest len same takes =
    subst (λ (n : ℕ). Takes octets (network ++ n ∷ [] ++ mac) rest) {x = len} {y = length mac} (sym {a = length mac} same) takes

pub address_takes : (octets : List ℕ) (x : Address × List ℕ) → AreOctets octets → address_at octets ≡ Ok x → IsAddress octets x
unfolding address_of
address_takes octets x fits e =
    let a = bind_ok (number_at Short w16 octets) (λ network.
    octet_at Short network.1 >>= λ len.
    front_at Short len.0 len.1 >>= λ mac. Ok (address_of network.0 mac.0, mac.1)) x e in
    let b = bind_ok (octet_at Short a.0.1) (λ len.
    front_at Short len.0 len.1 >>= λ mac. Ok (address_of a.0.0 mac.0, mac.1)) x a.2 in
    let c = bind_ok (front_at Short b.0.0 b.0.1) (λ mac. Ok (address_of a.0.0 mac.0, mac.1)) x b.2 in
    let t0 = number_takes Short w16 (2 ^ 16) wide16 octets a.0.0 a.0.1 fits a.1 in
    let t1 = octet_takes Short a.0.1 b.0.0 b.0.1 t0.0.rest_octets b.1 in
    let t2 = front_takes Short b.0.0 b.0.1 c.0.0 c.0.1 t1.0.rest_octets c.1 in
    let e01 = Takes-then octets (to_be_bytes w16 a.0.0) a.0.1 (b.0.0 ∷ []) b.0.1 t0.0 t1.0 in
    let e02 = Takes-then octets (to_be_bytes w16 a.0.0 ++ b.0.0 ∷ []) b.0.1 c.0.0 c.0.1 e01 t2.0 in
    let takes : Takes octets (address_part (address_of a.0.0 c.0.0)) c.0.1 =
    sized octets (to_be_bytes w16 a.0.0) c.0.0 c.0.1 b.0.0 t2.1 e02 in
    let made : Address × List ℕ = (address_of a.0.0 c.0.0, c.0.1) in
    subst (λ (y : Address × List ℕ). IsAddress octets y) {x = made} (ok_is made x c.2) (takes, (t0.1, omega (arith, t2.1, t1.1)))

pub address_again : (a : Address) (rest : List ℕ) → a.network < 2 ^ 16 → address_at (address_part a ++ rest) ≡ Ok (a, rest)
address_again a rest lt =
    let behind : List ℕ = length a.mac ∷ (a.mac ++ rest) in
    let regrouped : address_part a ++ rest ≡ to_be_bytes w16 a.network ++ behind = simp append_assoc in
    ap address_at regrouped
    ∙ rw (number_again Short w16 (2 ^ 16) wide16 a.network behind lt, front_again Short a.mac rest) refl

-- ---- an address, if the control octet names one

abbrev pub FitsNamed : Option Address → Type 0
FitsNamed found = IfSome found FitsAddress

-- what a named address is read as
pub record IsNamed (is_named : Bool) (octets : List ℕ) (found : Option Address) (rest : List ℕ) : Type 0 where
  pub takes : Takes octets (source_part found) rest
  pub present : is_some found ≡ is_named
  pub fits : FitsNamed found

pub named_takes : (is_named : Bool) (octets : List ℕ) (x : Option Address × List ℕ) → AreOctets octets
    → named_at is_named octets ≡ Ok x → IsNamed is_named octets x.0 x.1
named_takes false octets x fits e =
    subst (λ (y : Option Address × List ℕ). IsNamed false octets y.0 y.1) (ok_is (None, octets) x e)
    (record { takes = record { parts = refl; rest_octets = fits }; present = refl; fits = tt })
named_takes true octets x fits e =
    let a = bind_ok (address_at octets) (λ found. Ok (Some found.0, found.1)) x e in
    let t = address_takes octets a.0 fits a.1 in
    let made : Option Address × List ℕ = (Some a.0.0, a.0.1) in
    subst (λ (y : Option Address × List ℕ). IsNamed true octets y.0 y.1) {x = made} (ok_is made x a.2)
    (record { takes = t.0; present = refl; fits = t.1 })

pub named_again : (found : Option Address) (rest : List ℕ) → FitsNamed found
    → named_at (is_some found) (source_part found ++ rest) ≡ Ok (found, rest)
named_again None rest fits = refl
named_again (Some a) rest fits = rw (address_again a rest fits.0) refl

-- ---- the hop count

-- the address of a destination
abbrev pub bound_of : Option Destination → Option Address
bound_of d = option_map (λ x. x.address) d

-- what a hop count is read as
pub record IsBound (bound : Option Address) (octets : List ℕ) (found : Option Destination) (rest : List ℕ) : Type 0 where
  pub takes : Takes octets (hops_part found) rest
  pub address_is : bound_of found ≡ bound
  pub hops : IfSome found (λ d. d.hops < 2 ^ 8)

pub hops_takes : (bound : Option Address) (octets : List ℕ) (x : Option Destination × List ℕ) → AreOctets octets
    → hops_at bound octets ≡ Ok x → IsBound bound octets x.0 x.1
hops_takes None octets x fits e =
    subst (λ (y : Option Destination × List ℕ). IsBound None octets y.0 y.1) (ok_is (None, octets) x e)
    (record { takes = record { parts = refl; rest_octets = fits }; address_is = refl; hops = tt })
hops_takes (Some bound) octets x fits e =
    let a = bind_ok (octet_at Short octets) (λ hops. Ok (Some (record { address = bound; hops = hops.0 }), hops.1)) x e in
    let t = octet_takes Short octets a.0.0 a.0.1 fits a.1 in
    let made : Option Destination × List ℕ = (Some (record { address = bound; hops = a.0.0 }), a.0.1) in
    subst (λ (y : Option Destination × List ℕ). IsBound (Some bound) octets y.0 y.1) {x = made} (ok_is made x a.2)
    (record { takes = t.0; address_is = refl; hops = t.1 })

pub hops_again : (found : Option Destination) (rest : List ℕ) → hops_at (bound_of found) (hops_part found ++ rest) ≡ Ok (found, rest)
hops_again None rest = refl
hops_again (Some d) rest = refl

-- a destination is written as its address is
pub destination_part-bound : (found : Option Destination) → source_part (bound_of found) ≡ destination_part found
destination_part-bound None = refl
destination_part-bound (Some d) = refl

pub is_some-bound : (found : Option Destination) → is_some (bound_of found) ≡ is_some found
is_some-bound None = refl
is_some-bound (Some d) = refl

-- ---- the payload

message_of : ℕ → Option ℕ → List ℕ → Message
message_of kind vendor octets = record { kind = kind; vendor = vendor; octets = octets }

-- what a network layer message is read as
abbrev IsMessage : List ℕ → Message → Type 0
IsMessage octets m = (octets ≡ payload_part (message m) ++ m.octets) × FitsMessage m

pub message_takes : (octets : List ℕ) (m : Message) → AreOctets octets → message_at octets ≡ Ok m → IsMessage octets m
unfolding message_of
message_takes octets m fits e =
    let a = bind_ok (octet_at Short octets) (λ kind.
    cond (ltb kind.0 first_vendor_kind) (Ok (message_of kind.0 None kind.1))
    (number_at Short w16 kind.1 >>= λ vendor. Ok (message_of kind.0 (Some vendor.0) vendor.1))) m e in
    let t = octet_takes Short octets a.0.0 a.0.1 fits a.1 in
    let plain = message_of a.0.0 None a.0.1 in
    let proprietary = number_at Short w16 a.0.1 >>= λ vendor. Ok (message_of a.0.0 (Some vendor.0) vendor.1) in
    elim (chosen (ltb a.0.0 first_vendor_kind) (Ok plain) proprietary (Ok m) a.2) [
      | inl low ↦ subst (λ (y : Message). IsMessage octets y) (ok_is plain m low.1) (t.0.parts, ltb-true _ _ low.0)
      | inr high ↦
          let b = bind_ok (number_at Short w16 a.0.1) (λ vendor. Ok (message_of a.0.0 (Some vendor.0) vendor.1)) m high.1 in
          let u = number_takes Short w16 (2 ^ 16) wide16 a.0.1 b.0.0 b.0.1 t.0.rest_octets b.1 in
          let both = Takes-then octets (a.0.0 ∷ []) a.0.1 (to_be_bytes w16 b.0.0) b.0.1 t.0 u.0 in
          let made = message_of a.0.0 (Some b.0.0) b.0.1 in
          subst (λ (y : Message). IsMessage octets y) {x = made} (ok_is made m b.2)
          (both.parts, (ltb-false _ _ high.0, t.1, u.1))
    ]

message_again : (kind : ℕ) (vendor : Option ℕ) (octets : List ℕ) → FitsMessage (message_of kind vendor octets)
    → message_at (kind ∷ [] ++ vendor_part vendor ++ octets) ≡ Ok (message_of kind vendor octets)
unfolding message_of
message_again kind None octets fits =
    let low : ltb kind first_vendor_kind ≡ true = lt-ltb _ _ fits in
    rw low refl
message_again kind (Some v) octets fits =
    let high : ltb kind first_vendor_kind ≡ false = le-ltb _ _ fits.0 in
    rw (high, number_again Short w16 (2 ^ 16) wide16 v octets fits.2) refl

-- what a payload is read as
pub record IsPayload (is_named : Bool) (octets : List ℕ) (p : Payload) : Type 0 where
  pub parts : octets ≡ payload_part p ++ payload_octets p
  pub present : is_message p ≡ is_named
  pub fits : FitsPayload p

pub payload_takes : (is_named : Bool) (octets : List ℕ) (p : Payload) → AreOctets octets
    → payload_at is_named octets ≡ Ok p → IsPayload is_named octets p
payload_takes false octets p fits e =
    subst (λ (y : Payload). IsPayload false octets y) (ok_is (apdu octets) p e)
    (record { parts = refl; present = refl; fits = tt })
payload_takes true octets p fits e =
    let a = bind_ok (message_at octets) (λ found. Ok (message found)) p e in
    let t = message_takes octets a.0 fits a.1 in
    subst (λ (y : Payload). IsPayload true octets y) (ok_is (message a.0) p a.2)
    (record { parts = t.0; present = refl; fits = t.1 })

pub payload_again : (p : Payload) → FitsPayload p → payload_at (is_message p) (payload_part p ++ payload_octets p) ≡ Ok p
unfolding message_of
payload_again (apdu octets) fits = refl
payload_again (message m) fits = rw (message_again m.kind m.vendor m.octets fits) refl
