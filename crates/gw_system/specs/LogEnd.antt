-- The end of a log.
use Rattle.std.specs.Prelude.{◌≡◌, ◌⊎◌, ℕ, Bool, true, false, List, [], ◌∷◌, ◌++◌}
use Rattle.gw_addr.specs.Text.{Lacks}

-- What of the end of a text begins with a whole line: all of it if the text is whole; else what comes after the first line feed,
-- since the first line may be cut, and nothing if there is none.
abbrev pub IsFromLine : (is_whole : Bool) → (end lines : List ℕ) → Type 0
IsFromLine true end lines = lines ≡ end
IsFromLine false end lines = ((cut : List ℕ) × (end ≡ cut ++ 10 ∷ lines) × Lacks 10 cut) ⊎ (Lacks 10 end × (lines ≡ []))
