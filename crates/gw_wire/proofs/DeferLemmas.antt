-- What is due at a tick is done ten seconds after it was done last.
use Rattle.std.proofs.Common.{◌≡◌, ℕ, Bool, true, false, refl, sym, true≢false}
use Rattle.std.specs.Prelude.{if◌then◌else◌}
use Rattle.std.proofs.lemmas.Bool.{le-ltb}
use Rattle.gw_wire.specs.Timed.{DeferringCountsOn, IsDoneInTime, defers}

pub is_done_in_time : IsDoneInTime
is_done_in_time true since long = le-ltb since 10 long
is_done_in_time false since long = refl

chosen : (b : Bool) (n : ℕ) → b ≡ true → (if b then n else 0) ≡ n
chosen true n is = refl
chosen false n is = absurd (true≢false (sym is))

pub deferring_counts_on : DeferringCountsOn
deferring_counts_on due since deferred = chosen (defers due since) since deferred
