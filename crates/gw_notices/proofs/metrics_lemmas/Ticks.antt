-- When a text was last tried.
use Rattle.std.proofs.Common.{◌≡◌, ℕ, ◌-◌, Bool, true, false, List, Option, Some, None, arith, refl, subst, sym}
use Rattle.std.proofs.lemmas.Bool.{leb-false}
use Rattle.gw_notices.specs.metrics.Writing.{IsRecent, Tries, TicksKeepRecent, Writing, WritesBy, is_due}

this_one : (ticks : ℕ) → IsRecent (Some ticks) ticks
this_one ticks = omega arith

not_due : (last : Option ℕ) (ticks : ℕ) → is_due last ticks ≡ false → IsRecent last ticks
not_due None ticks e = absurd cc
not_due (Some last) ticks e = let less = leb-false 10 (ticks - last) e in omega (arith, less)

tried : {S : Type 0} (held : S → Option (List ℕ)) (m after : Writing S) (ticks : ℕ) (text : List ℕ) (succeeds : Bool)
    → Tries held m ticks text after succeeds → IsRecent after.last ticks
tried held m after ticks text true is = subst (λ (last : Option ℕ). IsRecent last ticks) (sym is.last) (this_one ticks)
tried held m after ticks text false is = subst (λ (last : Option ℕ). IsRecent last ticks) (sym is.last) (this_one ticks)

by : {S : Type 0} (held : S → Option (List ℕ)) (m after : Writing S) (ticks : ℕ) (text : List ℕ) (due : Bool) → is_due m.last ticks ≡ due
    → WritesBy due held m ticks text after → IsRecent after.last ticks
by held m after ticks text true e is = tried held m after ticks text is.0 is.1
by {S} held m after ticks text false e is =
    subst (λ (w : Writing S). IsRecent w.last ticks) (sym is) (not_due m.last ticks e)

pub ticks_keep_recent : {S : Type 0} (held : S → Option (List ℕ)) → TicksKeepRecent held
ticks_keep_recent held m after ticks text is = by held m after ticks text (is_due m.last ticks) refl is
