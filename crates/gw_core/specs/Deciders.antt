-- By which rules asks were decided, one after the other.
use Rattle.std.specs.Prelude.{ℕ, List, Option, replicate}
use Rattle.std.specs.List.{flat_map}
use Rattle.gw_core.specs.declared.streak.Streak.{Streak}

-- those of a streak
abbrev pub decided_in : Streak → List (Option ℕ)
decided_in streak = replicate streak.count streak.by

-- and of streaks that follow one another
abbrev pub decided_along : List Streak → List (Option ℕ)
decided_along streaks = flat_map decided_in streaks
