-- How often a store is tried: after a try that failed it rests, longer each time; and between two ticks it is tried at few events.
use Rattle.std.specs.Prelude.{◌≡◌, ℕ, ◌+◌, ◌-◌, ◌*◌, ◌/◌, ◌^◌, ◌&&◌, Bool, true, false, if◌then◌else◌, nat_eq, nat_lt, [], ◌∷◌, map, zero}
use Rattle.std.specs.Prelude.{suc}
use Rattle.gw_turns.specs.declared.pace.Pace.{Pace}
use Rattle.gw_turns.specs.declared.pace.TheConstants.{LONGEST_PAUSE, MOST_REPLACES}

-- A count of 64 bits, which doesn't pass its end.
abbrev pub one_more : ℕ → ℕ
one_more n = if nat_lt n (2 ^ 64 - 1) then n + 1 else n

-- before the first try
abbrev pub fresh_pace : Pace
fresh_pace = record { pause = 0; left = 0; replaces = 0 }

-- it rests until some ticks have passed
abbrev pub is_resting : Pace → Bool
is_resting p = nat_lt 0 p.left

-- it may be tried at an event: it doesn't rest, and there were fewer than 64 tries since the last tick
abbrev pub may_try : Pace → Bool
may_try p = nat_eq p.left 0 && nat_lt p.replaces MOST_REPLACES

-- how long it rests after a try that failed, by how long it rested before
abbrev pub next_pause : ℕ → ℕ
next_pause pause = if nat_eq pause 0 then 1 else (if nat_lt (LONGEST_PAUSE / 2) pause then LONGEST_PAUSE else pause * 2)

-- after a try, by whether it succeeded
abbrev pub paced : Bool → Pace → Pace
paced true p = record { pause = 0; left = 0; replaces = one_more p.replaces }
paced false p = record { pause = next_pause p.pause; left = next_pause p.pause; replaces = one_more p.replaces }

-- after a tick at which it wasn't tried
abbrev pub rested : Pace → Pace
rested p = record p { left = p.left - 1 }

-- once what is due at a tick is done
abbrev pub ticked : Pace → Pace
ticked p = record p { replaces = 0 }

-- ---- the laws

-- how long it rests after so many tries in a row that failed
unfoldable pub pause_after : ℕ → ℕ
pause_after zero = 0
pause_after (suc tries) = next_pause (pause_after tries)

-- It rests 1, 2, 4, 8, 16, 32, and then 60 ticks.
abbrev pub PausesGrow : Type 0
PausesGrow =
    (map pause_after (1 ∷ 2 ∷ 3 ∷ 4 ∷ 5 ∷ 6 ∷ 7 ∷ 8 ∷ []) ≡ 1 ∷ 2 ∷ 4 ∷ 8 ∷ 16 ∷ 32 ∷ 60 ∷ 60 ∷ [])
