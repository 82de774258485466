-- The counts from which a gateway goes on: those of its state, or the greater ones of the last denial of its log.
use Rattle.std.specs.Prelude.{◌≡◌, ℕ, ◌+◌, ◌^◌, nat_le, if◌then◌else◌, List, Option, Some, None}
use Rattle.gw_audit.specs.Entry.{IsLineOf, IsShowable}
use Rattle.gw_audit.specs.declared.denial.Denial.{Denial}
use Rattle.gw_core.specs.declared.event.Counts.{Counts}
use Rattle.gw_state.specs.Saved.{Saved, with_denials}
use Rattle.gw_turns.specs.declared.ahead.TheConstants.{MOST_AHEAD}

-- the greater of two numbers, and the less
abbrev pub greater : ℕ → ℕ → ℕ
greater a b = if nat_le a b then b else a

abbrev pub less : ℕ → ℕ → ℕ
less a b = if nat_le a b then a else b

-- ---- the number of the last denial

-- The number from which a gateway goes on, by that of its state and that of the last denial which its log shows: the latter, since that
-- of the state is ahead of it. If it is more than 1,000 ahead, the log lacks denials, and it is that of the state.
abbrev pub number_by : (kept shown : ℕ) → ℕ
number_by kept shown = if nat_le kept (shown + MOST_AHEAD) then shown else kept

abbrev pub number_after : (kept shown : ℕ) → ℕ
number_after kept shown = number_by kept (less shown (2 ^ 63))

-- What was saved, with that number, by the line of the last denial of a log. A line that shows no denial leaves it as it is.
pub record IsNumberedAfter (saved : Saved) (line : List ℕ) (later : Saved) : Type 0 where
  pub denial : (d : Denial) → IsShowable d → IsLineOf line d → later ≡ with_denials saved (number_after saved.counts.denials d.number)
  pub other : ((d : Denial) → IsShowable d → ¬ (IsLineOf line d)) → later ≡ saved

-- so it is if the log shows one
abbrev pub IsNumbered : Option Saved → (line : Option (List ℕ)) → Option Saved → Type 0
IsNumbered None line later = later ≡ None
IsNumbered (Some saved) None later = later ≡ Some saved
IsNumbered (Some saved) (Some line) (Some later) = IsNumberedAfter saved line later
IsNumbered (Some saved) (Some line) None = ⊥

-- ---- the counts

-- The counts after a denial of this tick and number: none is less than it was, than the denial's number or than its tick, up to
-- 2^63, at which a gateway counts no more.
abbrev pub counts_with : Counts → (tick number : ℕ) → Counts
counts_with counts tick number = record {
  ticks = greater counts.ticks (less tick (2 ^ 63));
  denials = greater counts.denials (less number (2 ^ 63));
}

abbrev pub counts_after : Counts → Denial → Counts
counts_after counts d = counts_with counts d.tick d.number

-- The counts after a line of a log. One that shows no denial leaves them as they are.
pub record GoesOnAfter (counts : Counts) (line : List ℕ) (later : Counts) : Type 0 where
  pub denial : (d : Denial) → IsShowable d → IsLineOf line d → later ≡ counts_after counts d
  pub other : ((d : Denial) → IsShowable d → ¬ (IsLineOf line d)) → later ≡ counts

-- The counts from which a gateway goes on after the line of its log's last denial, if one is shown.
abbrev pub GoesOnFrom : Counts → Option (List ℕ) → Counts → Type 0
GoesOnFrom counts None later = later ≡ counts
GoesOnFrom counts (Some line) later = GoesOnAfter counts line later
