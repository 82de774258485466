-- Questions of one datagram, to which no station has to answer: who hears a Who-Is, and whether a foreign device may register.
use Rattle.std.specs.Prelude.{◌≡◌, ℕ, zero, suc, ◌+◌, ◌==◌, ◌&&◌, ◌||◌, Bool, true, false, List, [], ◌∷◌, ◌++◌, length, nat_eq, position}
use Rattle.std.specs.Prelude.{Option, Some, None, Result, Ok, Err, codes, if◌then◌else◌}
use Rattle.std.specs.Cmp.Lexicographic.{pointwise}
use Rattle.std.specs.List.{find, list_any}
use Rattle.std.specs.Option.{option_map, option_map_or}
use Rattle.gw_configuration.specs.Configuration.{Configuration}
use Rattle.gw_core.specs.Asked.{asked_at}
use Rattle.gw_core.specs.Effects.{effects_at}
use Rattle.gw_core.specs.History.{next, no_counts, state_after}
use Rattle.gw_core.specs.State.{State}
use Rattle.gw_core.specs.declared.asked.Asked.{Asked}
use Rattle.gw_frames.specs.bvll.Bvll.{original_broadcast, register, result_code}
use Rattle.gw_frames.specs.bvll.Bvll as frame
use Rattle.gw_frames.specs.npdu.Npdu.{Fields, apdu}
use Rattle.gw_frames.specs.npdu.Npdu as npdu
use Rattle.gw_relay.specs.Sends.{Batch, Sending}
use Rattle.gw_rules.specs.declared.rule.Rule.{Rule}
use Rattle.gw_script.specs.Event.{Event}
use Rattle.gw_verdicts.specs.declared.questions.answer.AnswerKind.{AnswerKind}
use Rattle.gw_verdicts.specs.declared.questions.call.Audience.{Audience}
use Rattle.gw_verdicts.specs.declared.questions.call.Audience.TheVariants as audience
use Rattle.gw_verdicts.specs.declared.questions.call.Call.{Call}
use Rattle.gw_verdicts.specs.declared.questions.call.Call.TheVariants as call
use Rattle.gw_verdicts.specs.declared.questions.fault.PlaceFault.{PlaceFault}
use Rattle.gw_verdicts.specs.declared.questions.fault.PlaceFault.TheVariants as fault
use Rattle.gw_verdicts.specs.declared.questions.fault.Unasked.{Unasked}
use Rattle.gw_verdicts.specs.declared.questions.fault.Unasked.TheVariants as unasked
use Rattle.gw_verdicts.specs.declared.questions.place.Station.{Station}
use Rattle.gw_verdicts.specs.questions.Answers.{is_to_some, no_line, outcome_of, reaches, step_text, way_line, yes_line}
use Rattle.gw_verdicts.specs.questions.Datagrams.{datagram_of, event_of, source_of}
use Rattle.gw_verdicts.specs.questions.Deeds.{result_of}
use Rattle.gw_verdicts.specs.questions.Read.{IsNetworkIn, IsStationOf, Text}

-- ---- the datagram

-- a Who-Is without limits, an unconfirmed request of the service 8 (clauses 16.10 and 20.1.3), to all stations of a network
-- with a whole count of hops, at normal priority
abbrev pub who_is_from : Station → (network : ℕ) → Fields
who_is_from asker network = record {
  destination = Some (record { address = record { network = network; mac = [] }; hops = 255 });
  source = source_of asker;
  reply_expected = false;
  priority = 0;
  payload = apdu (0x10 ∷ 8 ∷ []);
}

-- to each network, 65535, as an Original-Broadcast-NPDU (Annex J.2.12); to one as an Original-Unicast-NPDU to the gateway
abbrev pub who_is_octets : Station → Audience → List ℕ
who_is_octets asker (audience.All ports) = frame.encoding (original_broadcast (npdu.encoding (who_is_from asker 65535)))
who_is_octets asker (audience.Network network port) = datagram_of (who_is_from asker network)

-- a Register-Foreign-Device for 60 seconds (Annex J.2.6)
abbrev pub call_octets : Call → List ℕ
call_octets (call.WhoIs asker heard) = who_is_octets asker heard
call_octets (call.Registration asker) = frame.encoding (register 60)

abbrev pub asker_of : Call → Station
asker_of (call.WhoIs asker heard) = asker
asker_of (call.Registration asker) = asker

abbrev pub call_event : Call → Event
call_event q = event_of (asker_of q) (call_octets q)

-- ---- how it ends

-- a datagram is sent by a port
abbrev pub batch_hears : ℕ → Batch → Bool
batch_hears port batch = is_to_some batch.targets (batch.port == port)

abbrev pub hears : ℕ → List Sending → Bool
hears port sends = list_any (λ sent. sent.port == port) sends

-- by each port up to this one, but that of who asks
unfoldable pub all_hear : ℕ → (asker : ℕ) → List Sending → Bool
all_hear zero asker sends = true
all_hear (suc port) asker sends = (suc port == asker || hears (suc port) sends) && all_hear port asker sends

abbrev pub is_heard : Station → Audience → List Sending → Bool
is_heard asker (audience.All ports) sends = all_hear ports asker.port sends
is_heard asker (audience.Network network port) sends = hears port sends

-- a datagram that is sent says that a registration is done: a BVLC-Result of the code 0 (Annex J.2.1)
abbrev pub success : List ℕ
success = frame.encoding (result_code 0)

abbrev pub batch_accepts : Batch → Bool
batch_accepts batch = is_to_some batch.targets (pointwise nat_eq batch.octets success)

abbrev pub accepts : List Sending → Bool
accepts sends = list_any (λ sent. pointwise nat_eq sent.octets success) sends

-- those who are meant hear a Who-Is; a registration is answered, and done
abbrev pub is_done : Call → List Sending → Bool
is_done (call.WhoIs asker heard) sends = is_heard asker heard sends
is_done (call.Registration asker) sends = reaches asker sends && accepts sends

abbrev pub may_call : State → Call → Bool
may_call w q = is_done q (effects_at w (call_event q)).sends

-- ---- the text

abbrev pub why_of : Call → List ℕ
why_of (call.WhoIs asker heard) = codes "not all hear it"
why_of (call.Registration asker) = codes "the port refuses it"

-- what comes of a datagram that asked and sent this
abbrev pub end_text : List Rule → Call → List Asked → List Sending → List ℕ
end_text rules q asked sends = if is_done q sends then yes_line else no_line (codes "no: ") rules asked (why_of q)

-- the answer to a question in this state: the gateway's own walk over the datagram
abbrev pub call_text : State → Call → List ℕ
call_text w q =
    let e = call_event q in
    way_line (codes "the request comes from ") (asker_of q).link (asker_of q).port ++ step_text w e
    ++ end_text (next w e).rules q (asked_at w e) (effects_at w e).sends

-- by a gateway of a configuration that has taken nothing yet
pub record IsCallAnswer (c : Configuration) (q : Call) (text : List ℕ) (end : AnswerKind) : Type 0 where
  pub lines : text ≡ call_text (state_after c no_counts []) q
  pub outcome : end ≡ outcome_of (may_call (state_after c no_counts []) q)

-- ---- which question words ask

-- the port to whose network, or to whose router, what is for a network goes
abbrev pub port_of_network : Configuration → ℕ → Option ℕ
port_of_network c network =
    option_map_or
    (λ place. Some (place + 1))
    (position (λ port. port.network == network) c.ports)
    (option_map (λ route. route.port) (find (λ route. route.network == network) c.routes))

abbrev pub audience_at : Station → (network : ℕ) → (port : Option ℕ) → Result Audience Unasked
audience_at asker network (Some port) =
    if port == asker.port then Err unasked.OnePort else Ok (audience.Network network port)
audience_at asker network None = Err (unasked.To fault.NoWay)

-- the stations of a network; the gateway's own device answers by the port of who asks
abbrev pub audience_of : Configuration → Station → (network : Option ℕ) → Result Audience Unasked
audience_of c asker None = Err (unasked.To fault.NoNetwork)
audience_of c asker (Some network) =
    if network == c.device.network then Ok (audience.Network network asker.port)
    else audience_at asker network (port_of_network c network)

-- of the network that a text names, or of the networks of all ports
abbrev pub IsAudienceIn : Configuration → Station → (to : Option Text) → Result Audience Unasked → Type 0
IsAudienceIn c asker None heard = heard ≡ Ok (audience.All (length c.ports))
IsAudienceIn c asker (Some text) heard = (network : Option ℕ) × IsNetworkIn text network × (heard ≡ audience_of c asker network)

abbrev pub who_is_to : Station → Result Audience Unasked → Result Call Unasked
who_is_to asker heard = result_of (call.WhoIs asker) heard

abbrev pub IsWhoIsBy : Configuration → (to : Option Text) → Result Station PlaceFault → Result Call Unasked → Type 0
IsWhoIsBy c to (Ok asker) q = (heard : Result Audience Unasked) × IsAudienceIn c asker to heard × (q ≡ who_is_to asker heard)
IsWhoIsBy c to (Err f) q = q ≡ Err (unasked.From f)

-- the Who-Is that words mean, or why they mean none
abbrev pub IsWhoIsOf : Configuration → (from : Text) → (to : Option Text) → Result Call Unasked → Type 0
IsWhoIsOf c from to q = (asker : Result Station PlaceFault) × IsStationOf c from asker × IsWhoIsBy c to asker q

-- a foreign device has an address of BACnet/IP
abbrev pub registration_by : Result Station PlaceFault → Result Call Unasked
registration_by (Ok asker) = if asker.is_routed then Err unasked.Routed else Ok (call.Registration asker)
registration_by (Err f) = Err (unasked.From f)

-- the registration that words mean, or why they mean none
abbrev pub IsRegistrationOf : Configuration → (from : Text) → (to : Option Text) → Result Call Unasked → Type 0
IsRegistrationOf c from (Some to) q = q ≡ Err unasked.Registrar
IsRegistrationOf c from None q = (asker : Result Station PlaceFault) × IsStationOf c from asker × (q ≡ registration_by asker)
