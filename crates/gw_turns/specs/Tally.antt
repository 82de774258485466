-- How many datagrams aren't passed on: they are dropped before any policy is asked, or a rule that isn't quiet, or none,
-- denies that their sender enters or speaks for another network.
use Rattle.std.specs.Prelude.{ℕ, ◌+◌, ◌≤◌, ◌==◌, Bool, true, false, if◌then◌else◌, List, [], ◌∷◌, Option, Some, None}
use Rattle.std.specs.List.{list_any}
use Rattle.std.specs.Option.{option_map_or}
use Rattle.gw_audit.specs.declared.denial.Denial.{Denial}
use Rattle.gw_rules.specs.Operation.{operation_number}
use Rattle.gw_rules.specs.declared.operation.Operation.{Operation}
use Rattle.gw_rules.specs.declared.operation.Operation.TheVariants as operations
use Rattle.gw_script.specs.Event.{Datagram, Event, Tick}
use Rattle.gw_core.specs.Drops.{drop_at}
use Rattle.gw_core.specs.declared.drops.DropReason.{DropReason}
use Rattle.gw_core.specs.declared.drops.DropReason.TheVariants.{Malformed, OwnNetwork, NoPeer}
use Rattle.gw_core.specs.Effects.{effects_at}
use Rattle.gw_core.specs.History.{next}
use Rattle.gw_core.specs.State.{State}
use Rattle.gw_turns.specs.Ports.{nothing_received, received_at}
use Rattle.gw_turns.specs.declared.tally.Culprit.{Culprit}
use Rattle.gw_turns.specs.declared.tally.Culprits.{Culprits}
use Rattle.gw_turns.specs.declared.tally.DropTally.{DropTally}

abbrev pub is_for : ℕ → Denial → Bool
is_for operation d = option_map_or (λ number. number == operation) d.ask.operation false

-- an ask for this operation is among those that are denied
abbrev pub denies : Operation → List Denial → Bool
denies operation denials = list_any (is_for (operation_number operation)) denials

abbrev pub is_malformed : Option DropReason → Bool
is_malformed (Some Malformed) = true
is_malformed _ = false

abbrev pub is_own_network : Option DropReason → Bool
is_own_network (Some OwnNetwork) = true
is_own_network _ = false

abbrev pub is_no_peer : Option DropReason → Bool
is_no_peer (Some NoPeer) = true
is_no_peer _ = false

abbrev pub number_if : Bool → ℕ
number_if is = if is then 1 else 0

-- when and where an event that is a datagram came, and from whom
abbrev pub culprit_of : (tick : ℕ) → Event → Option Culprit
culprit_of tick (Datagram port from octets) = Some (record { tick = tick; port = port; sender = from })
culprit_of tick Tick = None

-- for how many reasons an event that is dropped so, and of which this is denied, isn't passed on
abbrev pub drops_of : Option DropReason → List Denial → ℕ
drops_of drop denials =
    number_if (denies operations.Enter denials) + number_if (denies operations.Claim denials)
    + number_if (is_malformed drop) + number_if (is_own_network drop) + number_if (is_no_peer drop)

-- that one, if something is so
abbrev pub only_if : Bool → Option Culprit → Option Culprit
only_if is culprit = if is then culprit else None

-- the newer of two, if there is one
abbrev pub newer : (old new : Option Culprit) → Option Culprit
newer old None = old
newer old (Some culprit) = Some culprit

abbrev pub newer_of : (old new : Culprits) → Culprits
newer_of old new = record {
  malformed = newer old.malformed new.malformed;
  own_network = newer old.own_network new.own_network;
  no_peer = newer old.no_peer new.no_peer;
}

-- the one of an event, by why it is dropped
abbrev pub culprits_of : Option Culprit → Option DropReason → Culprits
culprits_of culprit drop = record {
  malformed = only_if (is_malformed drop) culprit;
  own_network = only_if (is_own_network drop) culprit;
  no_peer = only_if (is_no_peer drop) culprit;
}

abbrev pub no_culprits : Culprits
no_culprits = record { malformed = None; own_network = None; no_peer = None }

abbrev pub no_tally : DropTally
no_tally = record {
  enter = 0;
  claim = 0;
  malformed = 0;
  own_network = 0;
  no_peer = 0;
  last = no_culprits;
  ports = nothing_received;
}

-- a tally after one event more, by where it came from, why it is dropped and what is denied of it
abbrev pub tally_with : DropTally → Option Culprit → Option DropReason → List Denial → DropTally
tally_with t culprit drop denials = record {
  enter = t.enter + number_if (denies operations.Enter denials);
  claim = t.claim + number_if (denies operations.Claim denials);
  malformed = t.malformed + number_if (is_malformed drop);
  own_network = t.own_network + number_if (is_own_network drop);
  no_peer = t.no_peer + number_if (is_no_peer drop);
  last = newer_of t.last (culprits_of culprit drop);
  ports = received_at t.ports culprit (drops_of drop denials);
}

-- the tally after an event that is taken in this state
unfoldable pub tally_at : State → DropTally → Event → DropTally
tally_at w tally e = tally_with tally (culprit_of w.ticks e) (drop_at w e) (effects_at w e).denials

-- the tally after these events, which are taken from this state on
unfoldable pub tally_from : State → DropTally → List Event → DropTally
tally_from w tally [] = tally
tally_from w tally (e ∷ events) = tally_from (next w e) (tally_at w tally e) events

-- each count is at most so much
pub record IsBelow (most : ℕ) (tally : DropTally) : Type 0 where
  pub enter : tally.enter ≤ most
  pub claim : tally.claim ≤ most
  pub malformed : tally.malformed ≤ most
  pub own_network : tally.own_network ≤ most
  pub no_peer : tally.no_peer ≤ most
