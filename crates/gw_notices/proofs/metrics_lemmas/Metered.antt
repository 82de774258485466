-- What is known of tries without what is written.
use Rattle.std.proofs.Common.{◌≡◌, ◌∙◌, ℕ, Bool, true, false, List, Option, Some, None, ap}
use Rattle.gw_decisions.specs.tally.Tally.{one_more}
use Rattle.gw_notices.specs.metrics.Writing.{IsTriedAt, Metering, MetersBy, TicksAreMetered, Tries, TriesAreMetered, Writing, WritesBy, is_due, metering_of}
use Rattle.gw_wire.specs.declared.store.StoreFault.{StoreFault}

abbrev made : Option ℕ → ℕ → Option StoreFault → Metering
made last lost failing = record { last = last; lost = lost; failing = failing }

same : (a b : Option ℕ) (m n : ℕ) (f g : Option StoreFault) → a ≡ b → m ≡ n → f ≡ g → made a m f ≡ made b n g
same a b m n f g is_last is_lost is_failing =
    ap (λ (x : Option ℕ). made x m f) is_last ∙ ap (λ (x : ℕ). made b x f) is_lost ∙ ap (made b n) is_failing

tried : {S : Type 0} (held : S → Option (List ℕ)) (m after : Writing S) (ticks : ℕ) (text : List ℕ) (succeeds : Bool)
    → Tries held m ticks text after succeeds → IsTriedAt (metering_of m) ticks (metering_of after)
tried held m after ticks text true is = (None, same after.last (Some ticks) after.lost m.lost after.failing None is.last is.lost is.failing)
tried held m after ticks text false is =
    (Some is.fault, same after.last (Some ticks) after.lost (one_more m.lost) after.failing (Some is.fault) is.last is.lost is.failing)

pub tries_are_metered : {S : Type 0} (held : S → Option (List ℕ)) → TriesAreMetered held
tries_are_metered held m after ticks text is = tried held m after ticks text is.0 is.1

by : {S : Type 0} (held : S → Option (List ℕ)) (m after : Writing S) (ticks : ℕ) (text : List ℕ) (due : Bool)
    → WritesBy due held m ticks text after → MetersBy due (metering_of m) ticks (metering_of after)
by held m after ticks text true is = tried held m after ticks text is.0 is.1
by held m after ticks text false is = ap metering_of is

pub ticks_are_metered : {S : Type 0} (held : S → Option (List ℕ)) → TicksAreMetered held
ticks_are_metered held m after ticks text is = by held m after ticks text (is_due m.last ticks) is
