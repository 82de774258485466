-- An announcement of a gateway that doesn't announce is no call; and where none is due nothing is done.
use Rattle.std.proofs.Common.{◌≡◌, ◌∙◌, ℕ, zero, suc, ◌+◌, ◌≤◌, length, arith, Bool, true, false, true≢false, List, [], ◌∷◌, Option, refl, ap, subst, sym, inl, inr}
use Rattle.std.specs.Prelude.{map, nat_lt, Some, None}
use Rattle.std.specs.Option.{option_map_or}
use Rattle.gw_core.specs.State.{State}
use Rattle.gw_relay.specs.Announcement.{announcement, announcement_at}
use Rattle.gw_relay.specs.Sends.{Sending}
use Rattle.gw_relay.specs.State.{Relay, at_port, port_at}
use Rattle.std.specs.List.{flat_map, range_with_len}
use Rattle.gw_relay.specs.declared.port.PortState.{PortState}
use Rattle.gw_addr.specs.declared.TheConstants.{MAX_PORTS}
use Rattle.gw_turns.specs.Announcing.{AnnouncesBy, AreAnnounced, NothingDueNothingDone, PortsAreAll, UnannouncedIsSilent, is_due_at, rest_at}
use Rattle.gw_turns.specs.Serve.{Try, try_call}
use Rattle.gw_turns.specs.declared.announcing.Announcing.{Announcing}
use Rattle.gw_turns.proofs.ServeLemmas.{tells_more, tells_none}
use Rattle.gw_wire.specs.Wire.{Call, Records}

-- nothing is tried where nothing is to be sent
none_tried : (tries : List Try) → map (λ (t : Try). t.sending) tries ≡ [] → tries ≡ []
none_tried [] is = refl
none_tried (t ∷ tries) is = absurd cc

-- nothing is announced on any port where networks aren't announced
none_given : (r : Relay) (found : Option PortState) → r.announce ≡ false → option_map_or (announcement r) found [] ≡ []
none_given r None e = refl
none_given r (Some state) e = rw e refl

none_at : (r : Relay) (number : ℕ) → r.announce ≡ false → announcement_at r number ≡ []
none_at r number e = none_given r (port_at r.ports number) e

silent_by : (due resting : Bool) (place : ℕ) (a b : Announcing) (w : State) (recorded records : Option (List Call)) → w.relay.announce ≡ false
    → AnnouncesBy due resting place a w recorded b records → Records recorded records []
silent_by true true place a b w recorded records quiet still =
    subst (λ (c : Option (List Call)). Records recorded c []) (sym still.1) (tells_none recorded)
silent_by true false place a b w recorded records quiet (inl announced) =
    let none = none_tried announced.tries (announced.are ∙ none_at w.relay (place + 1) quiet) in
    subst (λ (tries : List Try). Records recorded records (map try_call tries)) none announced.calls
silent_by true false place a b w recorded records quiet (inr still) =
    subst (λ (c : Option (List Call)). Records recorded c []) (sym still.calls) (tells_none recorded)
silent_by false resting place a b w recorded records quiet still =
    subst (λ (c : Option (List Call)). Records recorded c []) (sym still.1) (tells_none recorded)

are_silent : (count : ℕ) (a b : Announcing) (w : State) (recorded records : Option (List Call)) → w.relay.announce ≡ false
    → AreAnnounced count a w recorded b records → Records recorded records []
unfolding AreAnnounced
are_silent zero a b w recorded records quiet still =
    subst (λ (c : Option (List Call)). Records recorded c []) (sym still.1) (tells_none recorded)
are_silent (suc place) a b w recorded records quiet are =
    tells_more recorded are.1 records [] [] (are_silent place a are.0 w recorded are.1 quiet are.2)
    (silent_by (is_due_at are.0 place) (nat_lt 0 (rest_at are.0 place)) place are.0 b w are.1 records quiet are.3)

pub unannounced_is_silent : UnannouncedIsSilent
unannounced_is_silent a b w recorded records quiet are = are_silent MAX_PORTS a b w recorded records quiet are

still_by : (due resting : Bool) (place : ℕ) (a b : Announcing) (w : State) (recorded records : Option (List Call)) → due ≡ false
    → AnnouncesBy due resting place a w recorded b records → (b ≡ a) × (records ≡ recorded)
still_by true resting place a b w recorded records e by = absurd (true≢false e)
still_by false resting place a b w recorded records e by = by

are_still : (count : ℕ) (a b : Announcing) (w : State) (recorded records : Option (List Call)) → ((place : ℕ) → is_due_at a place ≡ false)
    → AreAnnounced count a w recorded b records → (b ≡ a) × (records ≡ recorded)
unfolding AreAnnounced
are_still zero a b w recorded records none are = are
are_still (suc place) a b w recorded records none are =
    let before = are_still place a are.0 w recorded are.1 none are.2 in
    let last = still_by (is_due_at are.0 place) (nat_lt 0 (rest_at are.0 place)) place are.0 b w are.1 records
    (ap (λ (c : Announcing). is_due_at c place) before.0 ∙ none place) are.3 in
    (last.0 ∙ before.0, last.1 ∙ before.1)

pub nothing_due_nothing_done : NothingDueNothingDone
nothing_due_nothing_done a b w recorded records none are = are_still MAX_PORTS a b w recorded records none are

-- what eight places of a list give is what all of it gives, if it has no more
eight : (give : PortState → List Sending) (ports : List PortState) → length ports ≤ MAX_PORTS
    → flat_map (λ (place : ℕ). at_port [] give ports (place + 1)) (range_with_len 0 MAX_PORTS) ≡ flat_map give ports
eight give [] few = refl
eight give (a ∷ []) few = refl
eight give (a ∷ b ∷ []) few = refl
eight give (a ∷ b ∷ c ∷ []) few = refl
eight give (a ∷ b ∷ c ∷ d ∷ []) few = refl
eight give (a ∷ b ∷ c ∷ d ∷ e ∷ []) few = refl
eight give (a ∷ b ∷ c ∷ d ∷ e ∷ f ∷ []) few = refl
eight give (a ∷ b ∷ c ∷ d ∷ e ∷ f ∷ g ∷ []) few = refl
eight give (a ∷ b ∷ c ∷ d ∷ e ∷ f ∷ g ∷ h ∷ []) few = refl
eight give (a ∷ b ∷ c ∷ d ∷ e ∷ f ∷ g ∷ h ∷ i ∷ more) few = absurd (omega (arith, few))

pub ports_are_all : PortsAreAll
ports_are_all r few = eight (announcement r) r.ports few
