-- What the version and the addresses of a message are judged to be.
use Rattle.std.proofs.Common.{◌≡◌, ◌||◌, ◌&&◌, Bool, true, false, ltb, eqb, length, Option, Some, None}
use Rattle.std.proofs.Common.{Ok, Err, refl, sym, ap, ◌∙◌, inl, inr, ◌⊎◌}
use Rattle.std.specs.Prelude.{IsSomeAnd}
use Rattle.std.proofs.lemmas.Bool.{eqb-true, ltb-true, lt-ltb}
use Rattle.gw_addr.specs.Reading.{◌>>=◌}
use Rattle.gw_addr.proofs.Reading.{bind_ok, bind_err, guard_ok, guard_err, ok_is, both_true, either}
use Rattle.gw_frames.specs.declared.npdu.fault.NpduFault.{NpduFault}
use Rattle.gw_frames.specs.declared.npdu.fault.NpduFault.TheVariants as faults
use Rattle.gw_frames.specs.npdu.Numbers.{every_network}
use Rattle.gw_frames.specs.npdu.Npdu.{Address, Destination, Fields}
use Rattle.gw_frames.specs.npdu.Npdu.{IsBadDestination, IsBadSource, HasBadAddress}
use Rattle.gw_frames.specs.npdu.Reading.{is_bad_destination, is_bad_source, destination_of, source_of, fields_of}

or_true : (a b : Bool) → (a || b) ≡ true → (a ≡ true) ⊎ (b ≡ true)
or_true true b e = inl refl
or_true false b e = inr e

-- ---- destinations

bad_destination : (d : Destination) → is_bad_destination d ≡ true → IsBadDestination d
bad_destination d e =
    let network = d.address.network in
    let few = ltb 0 (length d.address.mac) in
    elim (or_true (eqb network 0) (eqb network every_network && few) e) [
      | inl none ↦ inl (eqb-true _ _ none)
      | inr every ↦
          let both = both_true (eqb network every_network) few every in
          inr (eqb-true _ _ both.0, ltb-true _ _ both.1)
    ]

destination_bad : (d : Destination) → IsBadDestination d → is_bad_destination d ≡ true
destination_bad d (inl none) = rw none refl
destination_bad d (inr every) = rw (every.0, lt-ltb 0 (length d.address.mac) every.1) refl

destination_ok : (d x : Option Destination) → destination_of d ≡ Ok x → (d ≡ x) × (IsSomeAnd d IsBadDestination → ⊥)
destination_ok None x e = (ok_is None x e, λ bad. bad)
destination_ok (Some d) x e =
    let g = guard_ok (is_bad_destination d) faults.Address (Some d) x e in
    let good = g.0 in
    (g.1, λ bad. let told = destination_bad d bad in cc)

destination_err : (d : Option Destination) (f : NpduFault) → destination_of d ≡ Err f
    → (f ≡ faults.Address) × IsSomeAnd d IsBadDestination
destination_err None f e = absurd cc
destination_err (Some d) f e =
    let g = guard_err (is_bad_destination d) faults.Address f (Some d) e in
    (sym g.1, bad_destination d g.0)

-- ---- sources

bad_source : (a : Address) → is_bad_source a ≡ true → IsBadSource a
bad_source a e =
    elim (or_true (eqb a.network 0 || eqb a.network every_network) (eqb (length a.mac) 0) e) [
      | inl number ↦ elim (or_true (eqb a.network 0) (eqb a.network every_network) number) [
        | inl none ↦ inl (eqb-true _ _ none)
        | inr every ↦ inr (inl (eqb-true _ _ every))
      ]
      | inr empty ↦ inr (inr (eqb-true _ _ empty))
    ]

or-true : (a : Bool) → (a || true) ≡ true
or-true true = refl
or-true false = refl

source_bad : (a : Address) → IsBadSource a → is_bad_source a ≡ true
source_bad a (inl none) = rw none refl
source_bad a (inr (inl every)) = rw every refl
source_bad a (inr (inr empty)) = rw empty (or-true (eqb a.network 0 || eqb a.network every_network))

source_ok : (s x : Option Address) → source_of s ≡ Ok x → (s ≡ x) × (IsSomeAnd s IsBadSource → ⊥)
source_ok None x e = (ok_is None x e, λ bad. bad)
source_ok (Some s) x e =
    let g = guard_ok (is_bad_source s) faults.Address (Some s) x e in
    let good = g.0 in
    (g.1, λ bad. let told = source_bad s bad in cc)

source_err : (s : Option Address) (f : NpduFault) → source_of s ≡ Err f → (f ≡ faults.Address) × IsSomeAnd s IsBadSource
source_err None f e = absurd cc
source_err (Some s) f e =
    let g = guard_err (is_bad_source s) faults.Address f (Some s) e in
    (sym g.1, bad_source s g.0)

-- ---- the fields

made_of : Fields → Option Destination → Option Address → Fields
made_of f d s = record f { destination = d; source = s }

same_made : (f : Fields) (d d' : Option Destination) (s s' : Option Address) → d ≡ d' → s ≡ s' → made_of f d s ≡ made_of f d' s'
same_made f d d' s s' same_d same_s = cc

pub fields_ok : (f g : Fields) → fields_of f ≡ Ok g → (f ≡ g) × (HasBadAddress f → ⊥)
unfolding made_of
fields_ok f g e =
    let a = bind_ok (destination_of f.destination) (λ d. source_of f.source >>= λ s. Ok (made_of f d s)) g e in
    let b = bind_ok (source_of f.source) (λ s. Ok (made_of f a.0 s)) g a.2 in
    let d = destination_ok f.destination a.0 a.1 in
    let s = source_ok f.source b.0 b.1 in
    let same : made_of f f.destination f.source ≡ made_of f a.0 b.0 = same_made f f.destination a.0 f.source b.0 d.0 s.0 in
    let made : made_of f a.0 b.0 ≡ g = ok_is (made_of f a.0 b.0) g b.2 in
    (same ∙ made, λ bad. elim bad [ inl x ↦ d.1 x | inr x ↦ s.1 x ])

pub fields_err : (f : Fields) (fault : NpduFault) → fields_of f ≡ Err fault → (fault ≡ faults.Address) × HasBadAddress f
unfolding made_of
fields_err f fault e =
    elim (bind_err (destination_of f.destination) (λ d. source_of f.source >>= λ s. Ok (made_of f d s)) fault e) [
      | inl first ↦ let d = destination_err f.destination fault first in (d.0, inl d.1)
      | inr later ↦ elim (bind_err (source_of f.source) (λ s. Ok (made_of f later.0 s)) fault later.2) [
        | inl second ↦ let s = source_err f.source fault second in (s.0, inr s.1)
        | inr last ↦ absurd (let never = last.2 in cc)
      ]
    ]

pub fields_again : (f : Fields) → (HasBadAddress f → ⊥) → fields_of f ≡ Ok f
fields_again f good =
    elim (either (fields_of f)) [
      | inl made ↦ let same = fields_ok f made.0 made.1 in made.1 ∙ ap (λ (g : Fields). Ok g) (sym same.0)
      | inr failed ↦ absurd (good (fields_err f failed.0 failed.1).1)
    ]

pub fields_bad : (f : Fields) → HasBadAddress f → fields_of f ≡ Err faults.Address
fields_bad f bad =
    elim (either (fields_of f)) [
      | inl made ↦ absurd ((fields_ok f made.0 made.1).1 bad)
      | inr failed ↦ let fault = fields_err f failed.0 failed.1 in failed.1 ∙ ap (λ (e : NpduFault). Err e) fault.0
    ]
