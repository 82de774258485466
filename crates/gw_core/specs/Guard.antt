-- What a guard does about an event that was taken, before anything of it is sent.
use Rattle.std.specs.Prelude.{◌≡◌, ⊤, ◌&&◌, Bool, true, false, Option, Some, None}
use Rattle.gw_script.specs.Event.{Event}
use Rattle.gw_core.specs.Asked.{asked_at}
use Rattle.gw_core.specs.Drops.{drop_at}
use Rattle.gw_core.specs.Effects.{NeedsNoMemory, effects_at, passes_end}
use Rattle.gw_core.specs.History.{next}
use Rattle.gw_core.specs.Lasting.{lasts}
use Rattle.gw_core.specs.State.{State}
use Rattle.gw_core.specs.Seen.{IsSeenOf, Seen}
use Rattle.gw_rules.specs.declared.verdict.Verdict.{Verdict}
use Rattle.gw_core.specs.declared.gateway.Taken.{Taken}
use Rattle.gw_core.specs.declared.guard.BothGuards.{BothGuards}

-- the event was taken in this state: what it does, why it is dropped, if it is, and whether it lasts; and the state then
pub record IsTaken (w : State) (event : Event) (after : State) (taken : Taken) : Type 0 where
  pub counts : passes_end w event ≡ false
  pub effects : taken.effects ≡ effects_at w event
  pub drop : taken.drop ≡ drop_at w event
  pub lasts : taken.lasts ≡ lasts w event
  pub gateway : after ≡ next w event

-- What of its asks is seen, if they are watched: what decided each, and whole those that are wanted whole; or nothing if memory was
-- wanted.
abbrev pub IsSeen : Bool → (Verdict → Bool) → State → Event → Option Seen → Type 0
IsSeen watched keeps w event (Some seen) = IsSeenOf keeps (asked_at w event) seen
IsSeen true keeps w event None = ¬ (NeedsNoMemory w event)
IsSeen false keeps w event None = ⊤

-- both pass an event, and its datagrams may go if both let them
abbrev pub PassesBoth : {G H : Type 0} → (G → State → Event → G → Bool → Type 0) → (H → State → Event → H → Bool → Type 0)
    → BothGuards G H → State → Event → BothGuards G H → Bool → Type 0
PassesBoth First Second both w event then passes =
    (one : Bool) × (two : Bool) × First both.first w event then.first one × Second both.second w event then.second two
    × (passes ≡ (one && two))

-- a guard never withholds anything
abbrev pub LetsAllGo : {G : Type 0} → (G → State → Event → G → Bool → Type 0) → Type 0
LetsAllGo {G} Passes = (g h : G) (w : State) (event : Event) → ¬ (Passes g w event h false)
