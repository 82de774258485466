-- What contracts see of a Multi-state Value.
use Rattle.std.specs.Prelude.{ℕ, ◌&&◌, nat_le, if◌then◌else◌, List, length, Option, Some, None}

-- the texts of the states, and which of them is the default, counted from 1
pub record States : Type 0 where
  pub default : ℕ
  pub states : List (List ℕ)

-- these states with that default, which must be one of them, where there are at most 64
abbrev pub states_of : ℕ → List (List ℕ) → Option States
states_of default states =
    if nat_le 1 default && (nat_le default (length states) && nat_le (length states) 64)
    then Some (record { default = default; states = states }) else None
