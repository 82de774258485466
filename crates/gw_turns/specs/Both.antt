-- Two guards, each of which passes every event.
use Rattle.std.specs.Prelude.{ℕ, Bool, List, Result}
use Rattle.gw_script.specs.Event.{Event}
use Rattle.gw_core.specs.State.{State}
use Rattle.gw_turns.specs.Serve.{Turn}
use Rattle.gw_turns.specs.Stretch.{EndsStretch, GoOn, Moment, moment}
use Rattle.gw_core.specs.Guard.{LetsAllGo, PassesBoth}
use Rattle.gw_core.specs.declared.guard.BothGuards.{BothGuards}
use Rattle.gw_turns.specs.declared.serving.ServeFault.{ServeFault}
use Rattle.gw_turns.specs.declared.stretch.StretchEnd.{StretchEnd}

-- what there is at a moment, with one guard of the two
abbrev pub first_moment : {G H : Type 0} → Moment (BothGuards G H) → Moment G
first_moment m = moment m.scene m.guard.first m.served m.tally

abbrev pub second_moment : {G H : Type 0} → Moment (BothGuards G H) → Moment H
second_moment m = moment m.scene m.guard.second m.served m.tally

-- If the second lets all go, a stretch under both is one under the first alone.
abbrev pub IsUnderFirst : {G H : Type 0} → (G → State → Event → G → Bool → Type 0) → (H → State → Event → H → Bool → Type 0) → Type 0
IsUnderFirst {G} {H} First Second = LetsAllGo Second → (count : ℕ) (before after : Moment (BothGuards G H))
    (answer : Result StretchEnd ServeFault) (unwritten : List ℕ)
    → EndsStretch (PassesBoth First Second) count before answer unwritten after
    → EndsStretch First count (first_moment before) answer unwritten (first_moment after)

-- If the first lets all go, a stretch under both is one under the second alone.
abbrev pub IsUnderSecond : {G H : Type 0} → (G → State → Event → G → Bool → Type 0) → (H → State → Event → H → Bool → Type 0) → Type 0
IsUnderSecond {G} {H} First Second = LetsAllGo First → (count : ℕ) (before after : Moment (BothGuards G H))
    (answer : Result StretchEnd ServeFault) (unwritten : List ℕ)
    → EndsStretch (PassesBoth First Second) count before answer unwritten after
    → EndsStretch Second count (second_moment before) answer unwritten (second_moment after)

-- And turns that both passed were passed by the first.
abbrev pub GoOnUnderFirst : {G H : Type 0} → (G → State → Event → G → Bool → Type 0) → (H → State → Event → H → Bool → Type 0) → Type 0
GoOnUnderFirst {G} {H} First Second = (before after : Moment (BothGuards G H)) (turns : List Turn) →
    GoOn (PassesBoth First Second) before turns after → GoOn First (first_moment before) turns (first_moment after)

-- And by the second.
abbrev pub GoOnUnderSecond : {G H : Type 0} → (G → State → Event → G → Bool → Type 0) → (H → State → Event → H → Bool → Type 0) → Type 0
GoOnUnderSecond {G} {H} First Second = (before after : Moment (BothGuards G H)) (turns : List Turn) →
    GoOn (PassesBoth First Second) before turns after → GoOn Second (second_moment before) turns (second_moment after)
