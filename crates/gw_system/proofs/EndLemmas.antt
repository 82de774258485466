-- The end of a log without its first line.
use Rattle.std.proofs.Common.{◌≡◌, ℕ, List, [], ◌∷◌, ◌++◌, Bool, true, false, inl, inr, refl}
use Rattle.gw_addr.specs.Text.{Lacks}
use Rattle.gw_system.specs.LogEnd.{IsFromLine}

pub from_cut : (is_whole : Bool) (end cut lines : List ℕ) → is_whole ≡ false → end ≡ cut ++ 10 ∷ lines → Lacks 10 cut → IsFromLine is_whole end lines
from_cut false end cut lines is parts lacks = inl (cut, parts, lacks)
from_cut true end cut lines is parts lacks = absurd cc

pub from_none : (is_whole : Bool) (end : List ℕ) → is_whole ≡ false → Lacks 10 end → IsFromLine is_whole end []
from_none false end is lacks = inr (lacks, refl)
from_none true end is lacks = absurd cc
