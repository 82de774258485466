-- A line that is written piece by piece, and the tally of a list of events after another one.
use Rattle.std.proofs.Common.{◌≡◌, ℕ, List, [], ◌∷◌, ◌++◌, Option, refl}
use Rattle.std.specs.Prelude.{Result, Ok, Err, OnOk}
use Rattle.std.specs.Io.KnownBytes.{Appends}
use Rattle.std.proofs.KnownBytes.{Appends-trans}
use Rattle.gw_script.specs.Event.{Event}
use Rattle.gw_turns.specs.declared.tally.DropTally.{DropTally}
use Rattle.gw_core.specs.History.{next, state_from}
use Rattle.gw_turns.specs.Tally.{tally_at, tally_from}
use Rattle.gw_core.specs.State.{State}

-- a text after another, if the last write succeeds
pub behind_one : {A E : Type 0} (r : Result A E) (first second third : Option (List ℕ)) (x y : List ℕ)
    → Appends first second x → OnOk r (Appends second third y) → OnOk r (Appends first third (x ++ y))
behind_one (Ok done) first second third x y p last = Appends-trans first second third x y p last
behind_one (Err e) first second third x y p last = tt

-- a list of events after another one
pub tally_along : (w : State) (k : DropTally) (first later : List Event)
    → tally_from w k (first ++ later) ≡ tally_from (state_from w first) (tally_from w k first) later
unfolding tally_from state_from
tally_along w k [] later = refl
tally_along w k (e ∷ first) later = tally_along (next w e) (tally_at w k e) first later
