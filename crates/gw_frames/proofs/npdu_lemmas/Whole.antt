-- Octets are read as a message exactly if they are one, and each fault exactly if its own condition holds.
use Rattle.std.proofs.Common.{◌≡◌, ◌++◌, ℕ, false, cond, eqb, List, Result, Ok, Err, refl, ap, subst, ◌∙◌}
use Rattle.std.proofs.Common.{inl, inr, ◌⊎◌}
use Rattle.std.specs.Prelude.{◌↔◌}
use Rattle.std.proofs.lemmas.Bool.{eqb-true, eqb-false, ne_eqb}
use Rattle.gw_addr.specs.Reading.{AreOctets}
use Rattle.gw_addr.proofs.Reading.{bind_ok, bind_err, chosen, either}
use Rattle.gw_frames.specs.declared.npdu.fault.NpduFault.{NpduFault}
use Rattle.gw_frames.specs.declared.npdu.fault.NpduFault.TheVariants as faults
use Rattle.gw_frames.specs.npdu.Numbers.{protocol_version}
use Rattle.gw_frames.specs.npdu.Npdu.{Fields, IsLaidOut, IsNpdu, IsValid, HasBadAddress, header, encoding, payload_octets}
use Rattle.gw_frames.specs.npdu.Npdu.{IsShort, IsBadVersion, IsBadAddress}
use Rattle.gw_frames.specs.npdu.Onward.{Onward, onward}
use Rattle.gw_frames.specs.npdu.Reading.{RawNpdu, raw_at, fields_of, npdu_at}
use Rattle.gw_frames.proofs.npdu_lemmas.Shape.{raw_takes, raw_again}
use Rattle.gw_frames.proofs.npdu_lemmas.Short.{raw_short}
use Rattle.gw_frames.proofs.npdu_lemmas.Judged.{fields_ok, fields_err, fields_again, fields_bad}

abbrev judged : RawNpdu → Result Fields NpduFault
judged raw = cond (eqb raw.version protocol_version) (fields_of raw.fields) (Err faults.Version)

is_npdu : (octets : List ℕ) (version : ℕ) (f g : Fields) → version ≡ protocol_version → f ≡ g
    → IsLaidOut octets version f → (HasBadAddress f → ⊥) → IsNpdu octets g
is_npdu octets version f g one same laid good =
    record {
      laid_out =
          subst (λ (v : ℕ). IsLaidOut octets v g) one
          (subst (λ (x : Fields). IsLaidOut octets version x) same laid);
      addressed = subst (λ (x : Fields). HasBadAddress x → ⊥) same good;
    }

pub npdu_takes : (octets : List ℕ) (f : Fields) → AreOctets octets → npdu_at octets ≡ Ok f → IsNpdu octets f
npdu_takes octets f fits e =
    let a = bind_ok (raw_at octets) judged f e in
    elim (chosen (eqb a.0.version protocol_version) (fields_of a.0.fields) (Err faults.Version) (Ok f) a.2) [
      | inl first ↦
          let same = fields_ok a.0.fields f first.1 in
          is_npdu octets a.0.version a.0.fields f (eqb-true _ _ first.0) same.0 (raw_takes octets a.0 fits a.1) same.1
      | inr other ↦ absurd (let never = other.1 in cc)
    ]

pub npdu_again : (octets : List ℕ) (f : Fields) → IsNpdu octets f → npdu_at octets ≡ Ok f
npdu_again octets f is = rw (raw_again octets protocol_version f is.laid_out) (fields_again f is.addressed)

-- octets are one message at most
pub read_once : (octets : List ℕ) (f g : Fields) → IsNpdu octets f → IsNpdu octets g → f ≡ g
read_once octets f g is_f is_g =
    let first = npdu_again octets f is_f in
    let second = npdu_again octets g is_g in
    cc

-- what an encoded message is read as
pub encoded_again : (f : Fields) → IsValid f → npdu_at (encoding f) ≡ Ok f
encoded_again f valid =
    let laid : IsLaidOut (encoding f) protocol_version f =
    record { reserved = 0; is_reserved = (false, false, refl); parts = refl; fits = valid.fits } in
    npdu_again (encoding f) f (record { laid_out = laid; addressed = valid.addressed })

-- what a message with the fields for the next hop is read as
pub next_again : (f : Fields) (o : Onward) (g : Fields) → g ≡ onward o f → IsValid g
    → npdu_at (header (onward o f) ++ payload_octets f.payload) ≡ Ok (onward o f)
next_again f o g same valid = encoded_again (onward o f) (subst (λ (x : Fields). IsValid x) same valid)

-- ---- the faults

-- where a fault came from
npdu_err : (octets : List ℕ) (fault : NpduFault) → AreOctets octets → npdu_at octets ≡ Err fault
    → (raw_at octets ≡ Err fault) ⊎ ((r : RawNpdu) × IsLaidOut octets r.version r.fields × (judged r ≡ Err fault))
npdu_err octets fault fits e =
    elim (bind_err (raw_at octets) judged fault e) [
      | inl early ↦ inl early
      | inr later ↦ inr (later.0, raw_takes octets later.0 fits later.1, later.2)
    ]

short_to : (octets : List ℕ) → npdu_at octets ≡ Err faults.Short → IsShort octets
short_to octets e laid =
    let raw = raw_again octets laid.0 laid.1 laid.2 in
    elim (bind_err (raw_at octets) judged faults.Short e) [
      | inl early ↦ absurd cc
      | inr later ↦
          elim (chosen (eqb later.0.version protocol_version) (fields_of later.0.fields) (Err faults.Version) (Err faults.Short) later.2) [
            | inl first ↦ absurd (let fault = (fields_err later.0.fields faults.Short first.1).0 in cc)
            | inr other ↦ absurd (let never = other.1 in cc)
          ]
    ]

short_from : (octets : List ℕ) → AreOctets octets → IsShort octets → npdu_at octets ≡ Err faults.Short
short_from octets fits short =
    elim (either (raw_at octets)) [
      | inl made ↦ absurd (short (made.0.version, made.0.fields, raw_takes octets made.0 fits made.1))
      | inr failed ↦
          let fault = (raw_short octets).only failed.0 failed.1 in
          let is : raw_at octets ≡ Err faults.Short = failed.1 ∙ ap (λ (e : NpduFault). Err e) fault in
          rw is refl
    ]

version_to : (octets : List ℕ) → AreOctets octets → npdu_at octets ≡ Err faults.Version → IsBadVersion octets
version_to octets fits e =
    elim (npdu_err octets faults.Version fits e) [
      | inl early ↦ absurd (let fault = (raw_short octets).only faults.Version early in cc)
      | inr later ↦
          elim (chosen (eqb later.0.version protocol_version) (fields_of later.0.fields) (Err faults.Version) (Err faults.Version) later.2) [
            | inl first ↦ absurd (let fault = (fields_err later.0.fields faults.Version first.1).0 in cc)
            | inr other ↦ (later.0.version, later.0.fields, later.1, eqb-false later.0.version protocol_version other.0)
          ]
    ]

version_from : (octets : List ℕ) → IsBadVersion octets → npdu_at octets ≡ Err faults.Version
version_from octets other = rw (raw_again octets other.0 other.1 other.2, ne_eqb other.0 protocol_version other.3) refl

address_to : (octets : List ℕ) → AreOctets octets → npdu_at octets ≡ Err faults.Address → IsBadAddress octets
address_to octets fits e =
    elim (npdu_err octets faults.Address fits e) [
      | inl early ↦ absurd (let fault = (raw_short octets).only faults.Address early in cc)
      | inr later ↦
          elim (chosen (eqb later.0.version protocol_version) (fields_of later.0.fields) (Err faults.Version) (Err faults.Address) later.2) [
            | inl first ↦
                let laid = subst (λ (v : ℕ). IsLaidOut octets v later.0.fields) (eqb-true _ _ first.0) later.1 in
                (later.0.fields, laid, (fields_err later.0.fields faults.Address first.1).1)
            | inr other ↦ absurd (let never = other.1 in cc)
          ]
    ]

address_from : (octets : List ℕ) → IsBadAddress octets → npdu_at octets ≡ Err faults.Address
address_from octets bad = rw (raw_again octets protocol_version bad.0 bad.1) (fields_bad bad.0 bad.2)

-- ---- the function and the relations agree

pub npdu_is : (octets : List ℕ) (f : Fields) → AreOctets octets → (npdu_at octets ≡ Ok f) ↔ IsNpdu octets f
npdu_is octets f fits = (λ e. npdu_takes octets f fits e, λ is. npdu_again octets f is)

pub short_is : (octets : List ℕ) → AreOctets octets → (npdu_at octets ≡ Err faults.Short) ↔ IsShort octets
short_is octets fits = (λ e. short_to octets e, λ short. short_from octets fits short)

pub version_is : (octets : List ℕ) → AreOctets octets → (npdu_at octets ≡ Err faults.Version) ↔ IsBadVersion octets
version_is octets fits = (λ e. version_to octets fits e, λ other. version_from octets other)

pub address_is : (octets : List ℕ) → AreOctets octets → (npdu_at octets ≡ Err faults.Address) ↔ IsBadAddress octets
address_is octets fits = (λ e. address_to octets fits e, λ bad. address_from octets bad)
