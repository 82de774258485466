-- Worked examples of the built-in configuration, frame by frame: what a reader can hold against the
-- standard. Frames are written in hexadecimal. In each, a station at 192.168.1.5 on port 1 sends a
-- datagram to a fresh gateway.
use Rattle.std.specs.Prelude.{◌≡◌, Bool, ℕ, zero, suc, ◌+◌, ◌-◌, ◌*◌, ◌^◌, true, false, List, [], ◌∷◌, ◌++◌, take, map}
use Rattle.std.specs.Prelude.{replicate, codes, Some, None, nat_lt, if◌then◌else◌}
use Rattle.gw_addr.specs.declared.bip.BipAddr.{BipAddr}
use Rattle.gw_rules.specs.Ask.{Ask}
use Rattle.gw_rules.specs.Hides.{hides_from, hides_from_network}
use Rattle.gw_rules.specs.declared.rule.Rule.{Rule}
use Rattle.gw_core.specs.declared.effects.Effects.{Effects}
use Rattle.gw_script.specs.Event.{Event, Datagram, Tick}
use Rattle.gw_core.specs.State.{State}
use Rattle.gw_core.specs.Effects.{nothing, passes_end}
use Rattle.gw_core.specs.History.{effects, run, state_after}
use Rattle.gw_codecs.specs.tags.Object.{Object}
use Rattle.gw_core_laws.specs.NoLeak.{IsWriteOf, LeavesOut}
use Rattle.gw_core.specs.Marked.{kept}
use Rattle.gw_rules.specs.declared.field.FieldName.TheVariants.{Instance, ObjectType, Operation, SourceKey}
use Rattle.gw_rules.specs.declared.field.FieldName.TheVariants.{SourceNetwork}
use Rattle.gw_rules.specs.Rule.{rule_without_fields, with_range}
use Rattle.gw_configuration.specs.Configuration.{Configuration}
use Rattle.gw_relay.specs.Sends.{Sending}
use Rattle.gw_core_laws.specs.Setting.{node, only, setting}

-- the value of a hexadecimal digit
abbrev pub digit : ℕ → ℕ
digit code = if nat_lt code 58 then code - 48 else code - 55

-- the octets that hexadecimal digits write
abbrev pub hex : List ℕ → List ℕ
hex [] = []
hex (high ∷ []) = []
hex (high ∷ low ∷ rest) = (16 * digit high + digit low) ∷ hex rest

-- what a datagram from 192.168.1.5 does to a fresh gateway
abbrev pub gives : List ℕ → Effects
gives octets = effects setting (record { ticks = 0; denials = 0 }) [] (Datagram 1 (node 1 5) octets)

-- one answer to the station
abbrev pub answers : List ℕ → Effects
answers octets = record { sends = record { port = 1; to = node 1 5; octets = octets } ∷ []; denials = [] }

-- a read of Present_Value of a Binary Value: the ask that it raises
abbrev pub asks_for : ℕ → Ask
asks_for instance = record {
  operation = Some 9;
  port = Some 1;
  source_network = Some 1;
  source_key = Some 0xC0A80105BAC0;
  destination_network = Some 100;
  service = Some 12;
  object_type = Some 5;
  instance = Some instance;
  property = Some 85;
  priority = None;
  sender = None;
  station = None;
}

-- one answer to the station, and the denial of this number, tick and ask, by a rule of this name
abbrev pub denies : ℕ → ℕ → Ask → List ℕ → List ℕ → Effects
denies number tick ask rule octets = record {
  sends = record { port = 1; to = node 1 5; octets = octets } ∷ [];
  denials = record {
    number = number;
    tick = tick;
    port = 1;
    source = record { net = 1; mac = hex (codes "C0A80105BAC0") };
    ask = ask;
    rule = rule;
  } ∷ [];
}

-- the same for a read of an object that a rule hides
abbrev pub refuses_at : ℕ → ℕ → List ℕ → ℕ → Effects
refuses_at number tick octets instance = denies number tick (asks_for instance) (codes "hide") octets

-- the first denial, before any tick
abbrev pub refuses : List ℕ → ℕ → Effects
refuses octets instance = refuses_at 1 0 octets instance

-- the read of Binary Value 1
abbrev pub read_frame : List ℕ
read_frame = hex (codes "810A0016012400640101FF0005070C0C014000011955")

-- It answers that the value is inactive.
abbrev pub ReadIsAnswered : Type 0
ReadIsAnswered = gives read_frame ≡ answers (hex (codes "810A001801080064010130070C0C0140000119553E91003F"))

-- A read of hidden Binary Value 2 answers the access error, and is denied by the rule that hides it.
abbrev pub HiddenReadIsDenied : Type 0
HiddenReadIsDenied =
    gives (hex (codes "810A0016012400640101FF0005080C0C014000021955"))
    ≡ refuses (hex (codes "810A001101080064010150080C9102911B")) 2

-- A read that names no destination network isn't heard by the device.
abbrev pub LocalReadIsUnheard : Type 0
LocalReadIsUnheard = gives (hex (codes "810A001101040005070C0C014000011955")) ≡ nothing

-- A read of Binary Value 7, which isn't there but is hidden, doesn't show that it isn't there.
abbrev pub HiddenObjectIsUnnamed : Type 0
HiddenObjectIsUnnamed =
    gives (hex (codes "810A0016012400640101FF0005090C0C014000071955"))
    ≡ refuses (hex (codes "810A001101080064010150090C9102911B")) 7

-- A read of Binary Value 50, which is neither hidden nor there, shows that the object is unknown.
abbrev pub UnknownObjectIsNamed : Type 0
UnknownObjectIsNamed =
    gives (hex (codes "810A0016012400640101FF0005090C0C014000321955"))
    ≡ answers (hex (codes "810A001101080064010150090C9101911F"))

-- the numbers below a number
abbrev pub below : ℕ → List ℕ
below zero = []
below (suc n) = below n ++ n ∷ []

-- The read cut to each shorter length, from no octets to 21, does nothing.
abbrev pub EachCutIsDropped : Type 0
EachCutIsDropped = map (λ n. gives (take n read_frame)) (below 22) ≡ replicate 22 nothing

-- The read with a length field one less or one more than its datagram does nothing.
abbrev pub WrongLengthsAreDropped : Type 0
WrongLengthsAreDropped =
    (gives (hex (codes "810A0015012400640101FF0005070C0C014000011955")) ≡ nothing)
    × (gives (hex (codes "810A0017012400640101FF0005070C0C014000011955")) ≡ nothing)

-- A requester behind a router is answered by way of it.
abbrev pub RoutedReadIsAnswered : Type 0
RoutedReadIsAnswered = gives (hex (codes "810A001A012C0064010101F40107FE0005070C0C014000011955"))
    ≡ answers (hex (codes "810A001D012801F4010700640101FF30070C0C0140000119553E91003F"))

-- a gateway that goes on from these counts
abbrev pub going_on : ℕ → ℕ → State
going_on ticks denials = state_after setting (record { ticks = ticks; denials = denials }) []

-- At the end of the ticks a tick isn't taken. At the end of the denials a denied read isn't, and an allowed one is.
abbrev pub CountsEnd : Type 0
CountsEnd =
    (passes_end (going_on (2 ^ 63) 0) Tick ≡ true)
    × (passes_end (going_on 0 (2 ^ 63))
    (Datagram 1 (node 1 5) (hex (codes "810A0016012400640101FF0005080C0C014000021955"))) ≡ true)
    × (passes_end (going_on 0 (2 ^ 63)) (Datagram 1 (node 1 5) read_frame) ≡ false)

-- a read of hidden Binary Value 2, as an event, and the access error that answers it
abbrev pub hidden_read : Event
hidden_read = Datagram 1 (node 1 5) (hex (codes "810A0016012400640101FF0005080C0C014000021955"))

abbrev pub access_error : List ℕ
access_error = hex (codes "810A001101080064010150080C9102911B")

-- A tick, a denied read, a tick and a denied read: each denial has its number and the ticks of its moment.
abbrev pub DenialsAreCountedOn : Type 0
DenialsAreCountedOn =
    run setting (record { ticks = 0; denials = 0 }) (Tick ∷ hidden_read ∷ Tick ∷ hidden_read ∷ [])
    ≡ nothing ∷ refuses_at 1 1 access_error 2 ∷ nothing ∷ refuses_at 2 2 access_error 2 ∷ []

-- ---- what writes leave

-- a datagram from the station, as an event
abbrev pub sent : List ℕ → Event
sent octets = Datagram 1 (node 1 5) octets

-- what the events of a list do, one after the other, to a fresh gateway
abbrev pub runs : List Event → List Effects
runs events = run setting (record { ticks = 0; denials = 0 }) events

-- Multi-state Value 1: write 3 at priority 8, write 2 at 16, empty the slot of priority 8, and read
abbrev pub write_3_at_8 : Event
write_3_at_8 = sent (hex (codes "810A001C012400640101FF00050A0F0C04C0000119553E21033F4908"))

abbrev pub write_2_at_16 : Event
write_2_at_16 = sent (hex (codes "810A001C012400640101FF00050A0F0C04C0000119553E21023F4910"))

abbrev pub relinquish_at_8 : Event
relinquish_at_8 = sent (hex (codes "810A001B012400640101FF00050A0F0C04C0000119553E003F4908"))

abbrev pub read_state : Event
read_state = sent (hex (codes "810A0016012400640101FF00050B0C0C04C000011955"))

abbrev pub acknowledged : Effects
acknowledged = answers (hex (codes "810A000D010800640101200A0F"))

-- the answer to the read where the state is 1, 2 or 3
abbrev pub reads_as : ℕ → Effects
reads_as state = answers (hex (codes "810A0018010800640101300B0C0C04C0000119553E21") ++ state ∷ 0x3F ∷ [])

-- A read sees the write before it.
abbrev pub WriteIsSeen : Type 0
WriteIsSeen = runs (read_state ∷ write_3_at_8 ∷ read_state ∷ []) ≡ reads_as 1 ∷ acknowledged ∷ reads_as 3 ∷ []

-- The lower number of a priority wins, whichever write came last; once its slot is empty, the next one does.
abbrev pub RelinquishIsSeen : Type 0
RelinquishIsSeen =
    runs (write_3_at_8 ∷ write_2_at_16 ∷ read_state ∷ relinquish_at_8 ∷ read_state ∷ [])
    ≡ acknowledged ∷ acknowledged ∷ reads_as 3 ∷ acknowledged ∷ reads_as 2 ∷ []

-- the built-in configuration, where a first rule denies all writes
abbrev pub no_writes : Configuration
no_writes =
    record setting {
      rules = with_range Operation (only 10) (rule_without_fields (codes "no-writes") false) ∷ setting.rules;
    }

-- a write of Binary Value 1 without a priority, which is one at 16
abbrev pub write_ask : Ask
write_ask = record (asks_for 1) { operation = Some 10; service = Some 15; priority = Some 16 }

-- A denied write answers the access error and is logged; the read after it doesn't see it.
abbrev pub DeniedWriteIsUnseen : Type 0
DeniedWriteIsUnseen =
    run no_writes (record { ticks = 0; denials = 0 })
    (sent (hex (codes "810A001A012400640101FF0005100F0C0140000119553E91013F")) ∷ sent read_frame ∷ [])
    ≡ denies 1 0 write_ask (codes "no-writes") (hex (codes "810A001101080064010150100F91029128"))
    ∷ answers (hex (codes "810A001801080064010130070C0C0140000119553E91003F")) ∷ []

-- ---- other services

-- ReadPropertyMultiple of ALL of Binary Value 1: each property has its place, and the denied one its error.
abbrev pub AllArePlaced : Type 0
AllArePlaced = gives (hex (codes "810A0018012400640101FF00050D0E0C014000011E09081F"))
    ≡ denies 1 0 (record (asks_for 1) { service = Some 14; property = Some 28 }) (codes "no-desc")
    (hex (codes "810A0082010800640101300D0E0C014000011E294B4EC4014000014F294D4E740066616E4F294F4E"
    ++ codes "91054F29554E91004F296F4E8204004F29244E91004F29514E104F291C5E9102911B5F29574E0000"
    ++ codes "00000000000000000000000000004F29684E91004F29044E7507006163746976654F292E4E750900"
    ++ codes "696E6163746976654F1F"))

-- ReadPropertyMultiple of ALL of hidden Binary Value 2: the set is denied, and its error is in its place.
abbrev pub DeniedSetIsRefused : Type 0
DeniedSetIsRefused = gives (hex (codes "810A0018012400640101FF00050E0E0C014000021E09081F"))
    ≡ denies 1 0 (record (asks_for 2) { service = Some 14; property = Some 8 }) (codes "hide")
    (hex (codes "810A001C010800640101300E0E0C014000021E29085E9102911B5F1F"))

-- Where nothing is allowed, a Read-Broadcast-Distribution-Table gets its negative code.
abbrev pub DeniedTableIsRefused : Type 0
DeniedTableIsRefused =
    effects (record setting { rules = [] }) (record { ticks = 0; denials = 0 }) []
    (Datagram 1 (node 1 5) (hex (codes "81020004")))
    ≡ denies 1 0 (record (asks_for 0) {
      operation = Some 5;
      destination_network = None;
      service = Some 770;
      object_type = None;
      instance = None;
      property = None;
    }) (codes "default") (hex (codes "810000060020"))

-- A Who-Is to everyone on the device's network is answered to everyone on the network of the requester.
abbrev pub WhoIsIsAnswered : Type 0
WhoIsIsAnswered = gives (hex (codes "810B000C0120006400FF1008"))
    ≡ record {
      sends = record {
        port = 1;
        to = node 1 255;
        octets = hex (codes "810B00190108006401011000C4020004D22205C491032203E7");
      } ∷ [];
      denials = [];
    }

-- ---- what is passed on

-- a gateway that nothing came to does this at an event, after the events of a history, newest first
abbrev pub after_all : List Event → Event → Effects
after_all h e = effects setting (record { ticks = 0; denials = 0 }) h e

-- one datagram on a port
abbrev pub sends_to : ℕ → BipAddr → List ℕ → Sending
sends_to port to octets = record { port = port; to = to; octets = octets }

-- these datagrams, and no denial
abbrev pub sends_all : List Sending → Effects
sends_all sends = record { sends = sends; denials = [] }

-- a datagram on port 1 from a workstation that isn't on its subnet, 192.168.3.9
abbrev pub from_afar : List ℕ → Event
from_afar octets = Datagram 1 (node 3 9) octets

-- it registers for 60 seconds, and later asks who is registered
abbrev pub registers : Event
registers = from_afar (hex (codes "81050006003C"))

abbrev pub asks_registered : Event
asks_registered = from_afar (hex (codes "81060004"))

-- A registration for 60 seconds is answered as a success, is shown 89 ticks later with one second left,
-- and is gone with the 90th tick.
abbrev pub RegistrationEnds : Type 0
RegistrationEnds =
    (after_all [] registers ≡ sends_all (sends_to 1 (node 3 9) (hex (codes "810000060000")) ∷ []))
    × (after_all (replicate 89 Tick ++ registers ∷ []) asks_registered
    ≡ sends_all (sends_to 1 (node 3 9) (hex (codes "8107000EC0A80309BAC0003C0001")) ∷ []))
    × (after_all (replicate 90 Tick ++ registers ∷ []) asks_registered
    ≡ sends_all (sends_to 1 (node 3 9) (hex (codes "81070004")) ∷ []))

-- A table of the port itself and of the manager 192.168.4.1 is written; then a broadcast on the
-- subnet goes to that manager, and to nobody else.
abbrev pub BroadcastIsDistributed : Type 0
BroadcastIsDistributed =
    runs (sent (hex (codes "81010018C0A8010ABAC0FFFFFFFFC0A80401BAC0FFFFFFFF"))
    ∷ sent (hex (codes "810B000801001008")) ∷ [])
    ≡ answers (hex (codes "810000060000"))
    ∷ sends_all (sends_to 1 (node 4 1) (hex (codes "8104000EC0A80105BAC001001008")) ∷ []) ∷ []

-- a message for station 07 of network 400, with a whole hop count
abbrev pub to_400 : Event
to_400 = sent (hex (codes "810A000D012001900107FF1008"))

-- A router on port 2 names networks 400 and 300. A message for network 400 then goes to it, with
-- its source added and one hop less. Network 300 has a configured route, and keeps it.
abbrev pub LearnedRouteIsTaken : Type 0
LearnedRouteIsTaken =
    runs (Datagram 2 (node 2 21) (hex (codes "810B000B0180010190012C")) ∷ to_400
    ∷ sent (hex (codes "810A000D0120012C0107FF1008")) ∷ [])
    ≡ nothing
    ∷ sends_all (sends_to 2 (node 2 21) (hex (codes "810A0016012801900107000106C0A80105BAC0FE1008")) ∷ [])
    ∷ sends_all (sends_to 2 (node 2 20) (hex (codes "810A00160128012C0107000106C0A80105BAC0FE1008")) ∷ []) ∷ []

-- A message for a network that no router is known for: its sender gets a reject; the other port's routers are asked.
abbrev pub UnknownNetworkIsSought : Type 0
UnknownNetworkIsSought =
    after_all [] to_400
    ≡ sends_all (sends_to 1 (node 1 5) (hex (codes "810A000A018003010190"))
    ∷ sends_to 2 (node 2 255) (hex (codes "810B00090180000190")) ∷ [])

-- A Who-Is to every network goes on to the other port, with one hop less, and the device answers it
-- on the port that it came on.
abbrev pub GlobalWhoIsGoesOn : Type 0
GlobalWhoIsGoesOn =
    after_all [] (sent (hex (codes "810B000C0120FFFF00FF1008")))
    ≡ sends_all (sends_to 2 (node 2 255) (hex (codes "810B00150128FFFF00000106C0A80105BAC0FE1008"))
    ∷ sends_to 1 (node 1 255) (hex (codes "810B00190108006401011000C4020004D22205C491032203E7")) ∷ [])

-- ---- what others don't learn of a write

-- the built-in configuration, where a first rule denies the station all reads of Multi-state Value 1
abbrev pub blinded : Configuration
blinded = record setting {
  rules = with_range Instance (only 1) (with_range ObjectType (only 19) (with_range SourceKey (only 0xC0A80105BAC0)
      (with_range SourceNetwork (only 1) (with_range Operation (only 9) (rule_without_fields (codes "blind") false)))))
      ∷ setting.rules;
}

abbrev pub multi_state : Object
multi_state = record { kind = 19; instance = 1 }

-- another station writes Multi-state Value 1, then this one reads it, and Binary Value 1
abbrev pub acknowledged_to_6 : Effects
acknowledged_to_6 = record {
  sends = record { port = 1; to = node 1 6; octets = hex (codes "810A000D010800640101200A0F") } ∷ [];
  denials = [];
}

abbrev pub write_unseen : List Event
write_unseen =
    Datagram 1 (node 1 6) (hex (codes "810A001C012400640101FF00050A0F0C04C0000119553E21033F4908"))
    ∷ read_state ∷ sent read_frame ∷ []

-- what a read of Multi-state Value 1 is then: denied, and logged
abbrev pub blind_read : Effects
blind_read =
    denies 1 0 (record (asks_for 1) { object_type = Some 19 }) (codes "blind")
    (hex (codes "810A0011010800640101500B0C9102911B"))

abbrev pub other_read : Effects
other_read = answers (hex (codes "810A001801080064010130070C0C0140000119553E91003F"))

-- The write is one that may be left out; with it and without it both reads do the same: the one is denied, the other
-- answered.
abbrev pub HiddenWriteIsUnseen : Type 0
HiddenWriteIsUnseen =
    LeavesOut (IsWriteOf multi_state) blinded (record { ticks = 0; denials = 0 }) [] (true ∷ []) write_unseen
    × (run blinded (record { ticks = 0; denials = 0 }) (kept (true ∷ []) write_unseen) ≡ blind_read ∷ other_read ∷ [])
    × (run blinded (record { ticks = 0; denials = 0 }) write_unseen ≡ acknowledged_to_6 ∷ blind_read ∷ other_read ∷ [])

-- whether a rule list hides an object of that type and instance from the station, and from one without a key
abbrev pub hides_both : List Rule → ℕ → ℕ → Bool × Bool
hides_both rules kind instance =
    (hides_from rules 1 (Some 0xC0A80105BAC0) kind instance, hides_from rules 1 None kind instance)

-- A rule for all sources hides from both, and from the whole network; one that names a source hides not from who has no
-- key, nor from the network. A denial that names a property hides nothing. No rules hide all.
abbrev pub HidingIsSeen : Type 0
HidingIsSeen =
    (hides_both setting.rules 5 2 ≡ (true, true)) × (hides_both setting.rules 5 1 ≡ (false, false))
    × (hides_both blinded.rules 19 1 ≡ (true, false)) × (hides_both [] 19 1 ≡ (true, true))
    × (hides_from_network setting.rules 1 5 2 ≡ true) × (hides_from_network blinded.rules 1 19 1 ≡ false)
    × (hides_from_network blinded.rules 1 5 2 ≡ true) × (hides_from_network [] 1 19 1 ≡ true)
