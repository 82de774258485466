-- Masks.
use Rattle.std.specs.Prelude.{◌≡◌, ℕ, List, length}
use Rattle.gw_addr.specs.Reading.{AreOctets}
use Rattle.gw_addr.specs.Text.{four_text}
use Rattle.gw_addr.specs.declared.mask.Mask.{Mask}

-- a mask of four octets, as each value of the type has
pub record IsMask (m : Mask) : Type 0 where
  pub four : length m.octets ≡ 4
  pub octets : AreOctets m.octets

-- `a.b.c.d`
abbrev pub mask_text : Mask → List ℕ
mask_text m = four_text m.octets
