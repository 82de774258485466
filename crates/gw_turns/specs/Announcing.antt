-- What a gateway announces beside its turns: at the start, once another configuration is in force, and again on a port of which a send
-- failed, each time after a longer rest.
use Rattle.std.specs.Prelude.{◌≡◌, ◌⊎◌, ℕ, zero, suc, ◌+◌, ◌-◌, ◌^◌, ◌≤◌, min, Bool, true, false, nat_lt, List, [], length, map, replicate}
use Rattle.std.specs.Prelude.{slice_index_or, slice_set, Option}
use Rattle.std.specs.List.{flat_map, range_with_len}
use Rattle.gw_addr.specs.declared.TheConstants.{MAX_PORTS}
use Rattle.gw_core.specs.State.{State}
use Rattle.gw_relay.specs.Announcement.{announcement_at, announcements}
use Rattle.gw_relay.specs.State.{Relay}
use Rattle.gw_turns.specs.Pace.{next_pause}
use Rattle.gw_turns.specs.Serve.{Try, failures, successes, try_call}
use Rattle.gw_turns.specs.declared.announcing.Announcing.{Announcing}
use Rattle.gw_wire.specs.Wire.{Call, Records}

-- ---- what is due

-- an announcement is due on each port
abbrev pub all_due : List Bool
all_due = replicate MAX_PORTS true

-- no port rests
abbrev pub none_rests : List ℕ
none_rests = replicate MAX_PORTS 0

-- so it is at the start, and none was tried
abbrev pub first_announcing : Announcing
first_announcing = record { due = all_due; pauses = none_rests; rests = none_rests; sends = 0; send_failures = 0; put_off = 0 }

-- the same, and one is due on each port, at once
abbrev pub with_due : Announcing → Announcing
with_due a = record a { due = all_due; pauses = none_rests; rests = none_rests }

-- whether one is due on the port at a place, from 0
abbrev pub is_due_at : Announcing → ℕ → Bool
is_due_at a place = slice_index_or a.due place false

-- at how many ticks more the port at a place isn't tried
abbrev pub rest_at : Announcing → ℕ → ℕ
rest_at a place = slice_index_or a.rests place 0

-- ---- on one port

-- the sum of two counts, which doesn't pass the end of 128 bits
abbrev pub counted_to : ℕ → ℕ → ℕ
counted_to count more = min (count + more) (2 ^ 128 - 1)

-- how many ticks after a try the next one comes, by whether a send failed and how many came before it: 1, 2, 4, 8, 16, 32, and then 60
abbrev pub pause_after_try : Bool → ℕ → ℕ
pause_after_try true pause = next_pause pause
pause_after_try false pause = 0

-- the same of what was tried on the port at a place
abbrev pub pause_of : Announcing → ℕ → List Try → ℕ
pause_of a place tries = pause_after_try (nat_lt 0 (failures tries)) (slice_index_or a.pauses place 0)

-- once these were tried on the port at a place: it is due again there exactly if one failed, so many ticks later, and each is counted
abbrev pub with_tries : Announcing → ℕ → List Try → Announcing
with_tries a place tries = record a {
  due = slice_set a.due place (nat_lt 0 (failures tries));
  pauses = slice_set a.pauses place (pause_of a place tries);
  rests = slice_set a.rests place (pause_of a place tries - 1);
  sends = counted_to a.sends (successes tries);
  send_failures = counted_to a.send_failures (failures tries);
}

-- once one that was due wasn't tried
abbrev pub put_off : Announcing → Announcing
put_off a = record a { put_off = counted_to a.put_off 1 }

-- What was due on the port at a place is announced: exactly the announcement of the gateway on that port was tried, once, and counted.
pub record IsAnnounced (place : ℕ) (a : Announcing) (w : State) (recorded : Option (List Call)) (b : Announcing)
    (records : Option (List Call)) : Type 0 where
  pub tries : List Try
  pub are : map (λ t. t.sending) tries ≡ announcement_at w.relay (place + 1)
  pub calls : Records recorded records (map try_call tries)
  pub counts : b ≡ with_tries a place tries

-- It isn't: there was no memory for it, or too many calls of the wire had failed. It stays due, and that is counted.
pub record IsPutOff (a : Announcing) (recorded : Option (List Call)) (b : Announcing) (records : Option (List Call)) : Type 0 where
  pub counts : b ≡ put_off a
  pub calls : records ≡ recorded

-- once the port at a place rested at a tick
abbrev pub with_rest : Announcing → ℕ → Announcing
with_rest a place = record a { rests = slice_set a.rests place (rest_at a place - 1) }

-- by whether one is due there, and whether the port rests; where none is due nothing is done, and where it rests only that is counted
abbrev pub AnnouncesBy : Bool → Bool → ℕ → Announcing → State → Option (List Call) → Announcing → Option (List Call) → Type 0
AnnouncesBy true true place a w recorded b records = (b ≡ with_rest a place) × (records ≡ recorded)
AnnouncesBy true false place a w recorded b records = IsAnnounced place a w recorded b records ⊎ IsPutOff a recorded b records
AnnouncesBy false resting place a w recorded b records = (b ≡ a) × (records ≡ recorded)

abbrev pub AnnouncesAt : ℕ → Announcing → State → Option (List Call) → Announcing → Option (List Call) → Type 0
AnnouncesAt place a w recorded b records = AnnouncesBy (is_due_at a place) (nat_lt 0 (rest_at a place)) place a w recorded b records

-- ---- on each port

-- on so many ports, one after the other
unfoldable pub AreAnnounced : ℕ → Announcing → State → Option (List Call) → Announcing → Option (List Call) → Type 0
AreAnnounced zero a w recorded b records = (b ≡ a) × (records ≡ recorded)
AreAnnounced (suc place) a w recorded b records =
    (so_far : Announcing) × (then : Option (List Call)) × AreAnnounced place a w recorded so_far then
    × AnnouncesAt place so_far w then b records

-- what comes of it: each port at which an announcement is due rests, or has it tried, or put off and counted
abbrev pub Announces : Announcing → State → Option (List Call) → Announcing → Option (List Call) → Type 0
Announces a w recorded b records = AreAnnounced MAX_PORTS a w recorded b records

-- ---- the laws

-- A gateway that doesn't announce calls the wire for no announcement.
abbrev pub UnannouncedIsSilent : Type 0
UnannouncedIsSilent =
    (a b : Announcing) (w : State) (recorded records : Option (List Call)) → w.relay.announce ≡ false
    → Announces a w recorded b records → Records recorded records []

-- Where none is due nothing is done.
abbrev pub NothingDueNothingDone : Type 0
NothingDueNothingDone =
    (a b : Announcing) (w : State) (recorded records : Option (List Call)) → ((place : ℕ) → is_due_at a place ≡ false)
    → Announces a w recorded b records → (b ≡ a) × (records ≡ recorded)

-- What is announced on all ports, one after the other, is what the gateway announces.
abbrev pub PortsAreAll : Type 0
PortsAreAll =
    (r : Relay) → length r.ports ≤ MAX_PORTS →
    flat_map (λ place. announcement_at r (place + 1)) (range_with_len 0 MAX_PORTS) ≡ announcements r
