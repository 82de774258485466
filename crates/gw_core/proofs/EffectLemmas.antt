-- What an event does to the counts, and what a tick does.
use Rattle.std.proofs.Common.{◌≡◌, ℕ, ◌+◌, ◌^◌, ◌<◌, ◌≤◌, Bool, true, false, nat_lt, ◌||◌, arith, length, List, [], Option, None, is_some, true≢false, refl, sym, ap, ap₂, ◌∙◌, inl, inr}
use Rattle.std.specs.Prelude.{IsTrue}
use Rattle.std.specs.Option.{option_map}
use Rattle.std.proofs.lemmas.Bool.{cases_lt}
use Rattle.std.proofs.lemmas.Bool.Decides.{nat_tests}
use Rattle.gw_addr.specs.declared.bip.BipAddr.{BipAddr}
use Rattle.gw_core.specs.declared.effects.Effects.{Effects}
use Rattle.gw_relay.specs.Sends.{Sending}
use Rattle.gw_objects.specs.Write.{Write}
use Rattle.gw_relay.specs.State.{Commit, Move}
use Rattle.gw_relay.specs.declared.change.Change.{Change}
use Rattle.gw_relay.specs.declared.port.PortState.{PortState}
use Rattle.gw_audit.specs.declared.denial.Denial.{Denial}
use Rattle.gw_script.specs.Event.{Event}
use Rattle.gw_script.specs.Event.{Datagram, Tick}
use Rattle.gw_core.specs.Denials.{denials_at}
use Rattle.gw_core.specs.Asks.{asks}
use Rattle.gw_core.specs.Drops.{drop_at, drop_on}
use Rattle.gw_core.specs.declared.drops.DropReason.{DropReason}
use Rattle.gw_core.specs.Effects.{NeedsNoMemory, change_at, change_for, effects_at, effects_for, move_at, move_for, nothing, passes_end, relay_change_for, sends, sends_for, ticks_of}
use Rattle.gw_core.specs.Lasting.{lasting_move, lasts}
use Rattle.gw_core.specs.Receive.{Received, admit, receive, receive_on}
use Rattle.gw_core.specs.State.{State, device_network}

-- a tick does nothing
pub effects_at-tick : (w : State) → effects_at w Tick ≡ nothing
unfolding effects_at receive
effects_at-tick w = refl

-- a tick isn't dropped
pub drop_at-tick : (w : State) → None ≡ drop_at w Tick
unfolding drop_at
drop_at-tick w = refl

-- a tick doesn't last
pub lasts-tick : (w : State) → false ≡ lasts w Tick
unfolding lasts move_at change_at receive
lasts-tick w = refl

-- a datagram lasts, by the changes that the code is granted
pub lasts_as : (w : State) (port : ℕ) (from : BipAddr) (octets : List ℕ) (change : Option Change) (write : Option Write) (is : Bool)
    → is ≡ (lasting_move (option_map Commit change) || is_some write)
    → option_map Commit change ≡ move_at w (Datagram port from octets) → write ≡ change_at w (Datagram port from octets)
    → is ≡ lasts w (Datagram port from octets)
unfolding lasts
lasts_as w port from octets change write is same moves writes =
    same ∙ ap₂ (λ (m : Option Move) (n : Option Write). lasting_move m || is_some n) moves writes

-- why a datagram is dropped, by the parts that the code reads
pub drop_as : (w : State) (ports : List PortState) (network port : ℕ) (from : BipAddr) (octets : List ℕ) (why : Option DropReason)
    → why ≡ drop_on ports network port from octets → ports ≡ w.relay.ports → network ≡ device_network w.device
    → why ≡ drop_at w (Datagram port from octets)
unfolding drop_at
drop_as w ports network port from octets why is same its =
    is ∙ ap (λ (l : List PortState). drop_on l network port from octets) same
    ∙ ap (λ (n : ℕ). drop_on w.relay.ports n port from octets) its

-- a tick needs no memory
pub tick_needs_none : (w : State) → NeedsNoMemory w Tick
unfolding asks sends receive
tick_needs_none w = (refl, refl)

-- a tick is denied nothing
pub no_denials_at_tick : (w : State) → 0 ≡ length (denials_at w Tick)
unfolding denials_at receive
no_denials_at_tick w = refl

differs : (b : Bool) → b ≡ false → IsTrue b → ⊥
differs b e h = absurd cc

or_true : (b : Bool) → (b || true) ≡ true
or_true true = refl
or_true false = refl

abbrev pub effects_with : List Sending → List Denial → Effects
effects_with sends denials = record { sends = sends; denials = denials }

-- effects with neither sends nor denials are nothing
pub nothing_is : (x : Effects) → x.sends ≡ [] → x.denials ≡ [] → x ≡ nothing
nothing_is x no_sends no_denials = ap (λ (s : List Sending). effects_with s x.denials) no_sends
    ∙ ap (λ (d : List Denial). effects_with [] d) no_denials

-- effects are their parts
pub effects_are : (sends other_sends : List Sending) (denials other_denials : List Denial) → sends ≡ other_sends → denials ≡ other_denials
    → effects_with sends denials ≡ effects_with other_sends other_denials
effects_are sends other_sends denials other_denials same_sends same_denials = ap (λ (s : List Sending). effects_with s denials) same_sends
    ∙ ap (λ (d : List Denial). effects_with other_sends d) same_denials

-- a count that an event leaves within its end
pub passes_end-within : (w : State) (e : Event) (n : ℕ) → n ≡ length (denials_at w e) → w.ticks + ticks_of e ≤ 2 ^ 63
    → w.denials + n ≤ 2 ^ 63 → passes_end w e ≡ false
unfolding passes_end
passes_end-within w e n counted ticks denials =
    let low : nat_lt (2 ^ 63) (w.ticks + ticks_of e) ≡ false = grind (arith, nat_tests) in
    let high : nat_lt (2 ^ 63) (w.denials + length (denials_at w e)) ≡ false = rw (← counted) (grind (arith, nat_tests)) in
    rw (low, high) refl

-- a number of a denial that an event would take past its end
pub passes_end-denials : (w : State) (e : Event) (n : ℕ) → n ≡ length (denials_at w e) → 2 ^ 63 < w.denials + n → passes_end w e ≡ true
unfolding passes_end
passes_end-denials w e n counted past =
    let high : nat_lt (2 ^ 63) (w.denials + length (denials_at w e)) ≡ true = rw (← counted) (grind (arith, nat_tests)) in
    rw high (or_true (nat_lt (2 ^ 63) (w.ticks + ticks_of e)))

-- a count of ticks that an event would take past its end
pub passes_end-ticks : (w : State) (e : Event) → 2 ^ 63 < w.ticks + ticks_of e → passes_end w e ≡ true
unfolding passes_end
passes_end-ticks w e past =
    let low : nat_lt (2 ^ 63) (w.ticks + ticks_of e) ≡ true = grind (arith, nat_tests) in
    rw low refl

-- what is done about what is received is what the event does
pub effects_received : (w : State) (e : Event) (received : Received) → received ≡ receive w e → effects_for w received ≡ effects_at w e
unfolding effects_at
effects_received w e received is = ap (effects_for w) is

-- what a datagram is received as on its port
pub receive_datagram : (w : State) (port : ℕ) (from : BipAddr) (octets : List ℕ) (received : Received)
    → received ≡ receive_on w.relay.ports (device_network w.device) port from octets
    → admit w.rules w.relay received ≡ receive w (Datagram port from octets)
unfolding receive
receive_datagram w port from octets received is = ap (admit w.rules w.relay) is

-- what isn't said to be past isn't past
pub not_past : (wording : Bool) (m n : ℕ) → wording ≡ false → (m < n → IsTrue wording) → n ≤ m
not_past wording m n e tells =
    elim (cases_lt m n) [
      | inl lt ↦ absurd (differs wording e (tells lt))
      | inr le ↦ le
    ]

-- where the ticks don't pass the end, the denials do
pub denials_past : (w : State) (e : Event) (n : ℕ) → n ≡ length (denials_at w e) → w.ticks + ticks_of e ≤ 2 ^ 63 → passes_end w e ≡ true
    → 2 ^ 63 < w.denials + n
denials_past w e n counted ticks past =
    elim (cases_lt (2 ^ 63) (w.denials + n)) [
      | inl lt ↦ lt
      | inr le ↦ absurd (true≢false (sym past ∙ passes_end-within w e n counted ticks le))
    ]

-- what is sent and changed of what is received is what the event sends and changes
pub sends_received : (w : State) (e : Event) (received : Received) → received ≡ receive w e
    → sends w e ≡ sends_for w.rules w.relay w.device received
unfolding sends
sends_received w e received is = ap (sends_for w.rules w.relay w.device) (sym is)

pub change_received : (w : State) (e : Event) (received : Received) → received ≡ receive w e
    → change_for w.rules w.relay.format w.device received ≡ change_at w e
unfolding change_at
change_received w e received is = ap (change_for w.rules w.relay.format w.device) is

pub move_received : (w : State) (port : ℕ) (from : BipAddr) (octets : List ℕ) (received : Received) (change : Option Change)
    → received ≡ receive w (Datagram port from octets)
    → change ≡ relay_change_for w.rules w.relay received → option_map Commit change ≡ move_at w (Datagram port from octets)
unfolding move_at
move_received w port from octets received change is granted =
    ap (option_map Commit) granted ∙ ap (move_for w.rules w.relay (Datagram port from octets)) is

-- what isn't at most a number is more
pub more_than : (m n : ℕ) → (n ≤ m → ⊥) → m < n
more_than m n not =
    elim (cases_lt m n) [
      | inl lt ↦ lt
      | inr le ↦ absurd (not le)
    ]

-- what the code receives a datagram as, where its ports and its network are those of the state
pub received_as : (w : State) (ports : List PortState) (network port : ℕ) (from : BipAddr) (octets : List ℕ) (received : Received)
    → received ≡ receive_on ports network port from octets → ports ≡ w.relay.ports → network ≡ device_network w.device
    → admit w.rules w.relay received ≡ receive w (Datagram port from octets)
received_as w ports network port from octets received is same its =
    receive_datagram w port from octets received
    (is ∙ ap (λ (l : List PortState). receive_on l network port from octets) same
    ∙ ap (λ (n : ℕ). receive_on w.relay.ports n port from octets) its)
