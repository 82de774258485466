-- How the octets of a station are kept: in front, with zeros after them.
use Rattle.std.specs.Prelude.{◌≡◌, ℕ, ◌-◌, ◌≤◌, List, ◌++◌, length, take, replicate}
use Rattle.std.proofs.Common.{sym, ap, refl, ◌∙◌}
use Rattle.gw_addr.specs.declared.station.Mac.TheInside.{Inside}

abbrev pub kept : List ℕ → Inside
kept octets = record { octets = octets ++ replicate (255 - length octets) 0; len = length octets }

pub record IsKept (m : Inside) : Type 0 where
  pub some : 1 ≤ m.len
  pub most : m.len ≤ 255
  pub front : length (take m.len m.octets) ≡ m.len
  pub zeros : m.octets ≡ take m.len m.octets ++ replicate (255 - m.len) 0

inside_of : List ℕ × ℕ → Inside
inside_of p = record { octets = p.0; len = p.1 }

inside_is : (octets : List ℕ) (len : ℕ) → inside_of (octets, len) ≡ record { octets = octets; len = len }
unfolding inside_of
inside_is octets len = refl

pub kept_again : (m : Inside) → IsKept m → kept (take m.len m.octets) ≡ m
unfolding inside_of
kept_again m h =
    let e : take m.len m.octets ++ replicate (255 - length (take m.len m.octets)) 0 ≡ m.octets =
    ap (λ (n : ℕ). take m.len m.octets ++ replicate (255 - n) 0) h.front ∙ sym h.zeros in
    ap (λ (p : List ℕ). inside_of (p, length (take m.len m.octets))) e ∙ ap (λ (n : ℕ). inside_of (m.octets, n)) h.front
