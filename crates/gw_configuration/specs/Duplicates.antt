-- What may appear only once in a configuration.
use Rattle.std.specs.Prelude.{◌≡◌, is_some, ℕ, ◌+◌, ◌-◌, ◌*◌, ◌/◌, ◌%◌, ◌^◌, ◌++◌, ◌==◌, Bool, false, ◌||◌, nat_eq}
use Rattle.std.specs.Prelude.{nat_lt, List, [], ◌∷◌, length, map, codes, if◌then◌else◌, Option, Some, None, unwrap_or, Ok, slice_get}
use Rattle.std.specs.Cmp.Lexicographic.{pointwise}
use Rattle.std.specs.List.{flat_map, list_any}
use Rattle.std.specs.Option.{option_map}
use Rattle.gw_addr.specs.Address.{big_endian, octets_of}
use Rattle.gw_addr.specs.declared.bip.BipAddr.{BipAddr}
use Rattle.gw_addr.specs.declared.entry.BdtEntry.{BdtEntry}
use Rattle.gw_rules.specs.declared.rule.Rule.{Rule as RuleEntry}
use Rattle.gw_configuration.specs.declared.assertion.Assertion.{Assertion as AssertionEntry}
use Rattle.gw_configuration.specs.declared.device.Device.{Device as DeviceEntry}
use Rattle.gw_configuration.specs.declared.fault.ConfigFault.TheVariants.{Duplicate}
use Rattle.gw_configuration.specs.declared.object.Object.{Object as ObjectEntry}
use Rattle.gw_configuration.specs.declared.located.Place.{Place}
use Rattle.gw_configuration.specs.declared.located.Place.TheVariants.{Port, Peer, Device, Route, Object, Set, Rule}
use Rattle.gw_configuration.specs.declared.located.Place.TheVariants.{Assertion}
use Rattle.gw_configuration.specs.declared.port.Port.{Port as PortEntry}
use Rattle.gw_configuration.specs.declared.set.Set.{Set as SetEntry}
use Rattle.gw_configuration.specs.Configuration.{Configuration}
use Rattle.gw_configuration.specs.Kinds.{type_number}
use Rattle.gw_configuration.specs.Located.{Find, Located, at_key, unless}

-- an element that appears twice
abbrev pub has_twice : {A : Type 0} → (A → A → Bool) → List A → Bool
has_twice same [] = false
has_twice same (x ∷ xs) = list_any (same x) xs || has_twice same xs

-- an address as one number of 48 bits
abbrev pub key : BipAddr → ℕ
key address = big_endian (octets_of address)

-- the networks of ports, device and routes
abbrev pub networks : Configuration → List ℕ
networks c = map (λ port. port.network) c.ports ++ c.device.network ∷ map (λ route. route.network) c.routes

-- the own and the broadcast addresses of all ports
abbrev pub port_addresses : List PortEntry → List ℕ
port_addresses ports = flat_map (λ port. key port.address ∷ key port.broadcast ∷ []) ports

-- the peers of a port
abbrev pub peer_addresses : List BdtEntry → List ℕ
peer_addresses peers = map (λ peer. key peer.address) peers

-- type and instance as one number of 32 bits (clause 20.2.14)
abbrev pub identifier : ObjectEntry → ℕ
identifier object = type_number object.value * 2 ^ 22 + object.instance

abbrev pub identifiers : List ObjectEntry → List ℕ
identifiers objects = map identifier objects

-- the names of device and objects
abbrev pub names : DeviceEntry → List ObjectEntry → List (List ℕ)
names device objects = device.name ∷ map (λ object. object.name) objects

abbrev pub set_names : List SetEntry → List (List ℕ)
set_names sets = map (λ set. set.name) sets

abbrev pub rule_names : List RuleEntry → List (List ℕ)
rule_names rules = map (λ rule. rule.name) rules

abbrev pub assertion_names : List AssertionEntry → List (List ℕ)
assertion_names assertions = map (λ assertion. assertion.name) assertions

-- something appears twice that may appear only once
unfoldable pub has_duplicates : Configuration → Bool
has_duplicates c =
    has_twice nat_eq (networks c)
    || (has_twice nat_eq (port_addresses c.ports)
    || (list_any (λ port. has_twice nat_eq (peer_addresses port.peers)) c.ports
    || (has_twice nat_eq (identifiers c.objects)
    || (has_twice (pointwise nat_eq) (names c.device c.objects)
    || (has_twice (pointwise nat_eq) (set_names c.sets)
    || (has_twice (pointwise nat_eq) (rule_names c.rules)
    || has_twice (pointwise nat_eq) (assertion_names c.assertions)))))))

-- where it appears for the second time

-- the position of the first element that is the same as one before it
abbrev pub second_behind : {A : Type 0} → (A → A → Bool) → List A → ℕ → List A → Option ℕ
second_behind same before place [] = None
second_behind same before place (x ∷ xs) =
    if list_any (same x) before then Some place else second_behind same (before ++ x ∷ []) (place + 1) xs

abbrev pub second : {A : Type 0} → (A → A → Bool) → List A → Option ℕ
second same xs = second_behind same [] 0 xs

abbrev pub twice : Place → List ℕ → Located
twice place key = at_key place Duplicate (Some key)

-- of networks the ports come first, so many, then the device, then the routes
abbrev pub network_twice : ℕ → ℕ → Located
network_twice ports index =
    twice (if nat_lt index ports then Port index else if index == ports then Device else Route (index - (ports + 1)))
    (codes "network")

-- each port has its own address and then its broadcast address
abbrev pub address_twice : ℕ → Located
address_twice index = twice (Port (index / 2)) (if index % 2 == 0 then codes "address" else codes "broadcast")

abbrev pub peer_twice : ℕ → ℕ → Located
peer_twice port peer = twice (Peer port peer) (codes "address")

abbrev pub identifier_twice : ℕ → Located
identifier_twice index = twice (Object index) (codes "instance")

-- the name of the device comes before those of the objects
abbrev pub name_twice : ℕ → Located
name_twice index = twice (if index == 0 then Device else Object (index - 1)) (codes "name")

abbrev pub set_twice : ℕ → Located
set_twice index = twice (Set index) (codes "name")

-- at the table that the rule of the list comes from
abbrev pub rule_twice : List ℕ → ℕ → Located
rule_twice tables index = twice (Rule (unwrap_or (slice_get tables index) 0)) (codes "name")

abbrev pub assertion_twice : ℕ → Located
assertion_twice index = twice (Assertion index) (codes "name")

-- one after the other
abbrev pub or_else : {A : Type 0} → Option A → Option A → Option A
or_else (Some x) later = Some x
or_else None later = later

abbrev pub peers_twice : ℕ → List PortEntry → Option Located
peers_twice place [] = None
peers_twice place (port ∷ ports) =
    or_else (option_map (peer_twice place) (second nat_eq (peer_addresses port.peers))) (peers_twice (place + 1) ports)

-- where something appears for the second time that may appear only once
unfoldable pub repetition : Configuration → Option Located
repetition c =
    or_else (option_map (network_twice (length c.ports)) (second nat_eq (networks c)))
    (or_else (option_map address_twice (second nat_eq (port_addresses c.ports)))
    (or_else (peers_twice 0 c.ports)
    (or_else (option_map identifier_twice (second nat_eq (identifiers c.objects)))
    (or_else (option_map name_twice (second (pointwise nat_eq) (names c.device c.objects)))
    (or_else (option_map set_twice (second (pointwise nat_eq) (set_names c.sets)))
    (or_else (option_map (rule_twice c.tables) (second (pointwise nat_eq) (rule_names c.rules)))
    (option_map assertion_twice (second (pointwise nat_eq) (assertion_names c.assertions)))))))))

-- law: such a place is found exactly if something appears twice
abbrev pub RepetitionsAreNamed : Type 0
RepetitionsAreNamed = (c : Configuration) → is_some (repetition c) ≡ has_duplicates c

-- a configuration in which nothing does
abbrev pub unique : Configuration → Find Configuration
unique c = unless (repetition c) (Ok c)
