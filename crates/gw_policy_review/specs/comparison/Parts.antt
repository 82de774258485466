-- The parts of two configurations beside what their rules decide, and which of them differ.
use Rattle.std.specs.Prelude.{◌≡◌, ◌↔◌, ℕ, ◌+◌, Bool, false, ◌&&◌, ◌==◌, IsFalse, IsTrue, if◌then◌else◌, List, [], ◌∷◌, ◌++◌, length, map}
use Rattle.std.specs.Prelude.{min, slice_get, codes, decimal, Some}
use Rattle.std.specs.List.{list_any}
use Rattle.gw_configuration.specs.Configuration.{Configuration}
use Rattle.gw_configuration.specs.Subnet.{Subnet, keys_of}
use Rattle.gw_configuration.specs.declared.port.Port.{Port}
use Rattle.gw_rules.specs.Range.{holds}
use Rattle.gw_rules.specs.RuleList.{has_no_quiet}
use Rattle.gw_rules.specs.declared.rule.Rule.{Rule}
use Rattle.gw_policy_review.specs.comparison.Details.{audit_lines, note_lines}
use Rattle.gw_policy_review.specs.declared.comparison.parts.Part.{Part}
use Rattle.gw_policy_review.specs.declared.comparison.parts.Part.TheVariants as parts
use Rattle.gw_policy_review.specs.declared.comparison.parts.PortPart.{PortPart}
use Rattle.gw_policy_review.specs.declared.comparison.parts.PortPart.TheVariants as of_port
use Rattle.gw_policy_review.specs.declared.comparison.parts.PortSameness.{PortSameness}
use Rattle.gw_policy_review.specs.declared.comparison.parts.Sameness.{Sameness}

-- ---- what is the same

-- one of the subnets has the address of this key
abbrev pub has_key : List Subnet → ℕ → Bool
has_key stations key = list_any (λ s. holds key (keys_of s)) stations

-- two ports have the same stations: both name some or neither does, and they have the same addresses
pub record HaveSameStations (stations others : List Subnet) : Type 0 where
  pub named : (length stations == 0) ≡ (length others == 0)
  pub addresses : (key : ℕ) → has_key stations key ≡ has_key others key

-- the rules of two policies have the same names, in the same order
abbrev pub HaveSameNames : List Rule → List Rule → Type 0
HaveSameNames rules others = map (λ rule. rule.name) rules ≡ map (λ rule. rule.name) others

-- the logs of two policies lack the same denials: no rule of either is quiet, or their rules are the same
abbrev pub HaveSameQuiets : List Rule → List Rule → Type 0
HaveSameQuiets rules others = (has_no_quiet rules && has_no_quiet others) ≡ false → rules ≡ others

-- two ports are the same in all that has an effect
pub record AreLikePorts (old new : Port) : Type 0 where
  pub network : old.network ≡ new.network
  pub address : old.address ≡ new.address
  pub broadcast : old.broadcast ≡ new.broadcast
  pub stations : HaveSameStations old.stations new.stations
  pub manager : old.bbmd ≡ new.bbmd
  pub peers : old.peers ≡ new.peers

-- two configurations are the same in all that has an effect, but for what their rules decide
pub record AreLike (old new : Configuration) : Type 0 where
  pub format : old.format ≡ new.format
  pub announce : old.announce ≡ new.announce
  pub device : old.device ≡ new.device
  pub count : length old.ports ≡ length new.ports
  pub ports : (place : ℕ) (a b : Port) → slice_get old.ports place ≡ Some a → slice_get new.ports place ≡ Some b → AreLikePorts a b
  pub routes : old.routes ≡ new.routes
  pub objects : old.objects ≡ new.objects
  pub audits : old.audits ≡ new.audits
  pub notes : old.notes ≡ new.notes
  pub names : HaveSameNames old.rules new.rules
  pub quiets : HaveSameQuiets old.rules new.rules

-- ---- what is said to be the same

-- exactly what is the same of two ports is said to be the same
pub record IsPortSameness (old new : Port) (same : PortSameness) : Type 0 where
  pub network : IsTrue same.network ↔ (old.network ≡ new.network)
  pub address : IsTrue same.address ↔ (old.address ≡ new.address)
  pub broadcast : IsTrue same.broadcast ↔ (old.broadcast ≡ new.broadcast)
  pub stations : IsTrue same.stations ↔ HaveSameStations old.stations new.stations
  pub manager : IsTrue same.manager ↔ (old.bbmd ≡ new.bbmd)
  pub peers : IsTrue same.peers ↔ (old.peers ≡ new.peers)

-- the same of two configurations: with other names of rules, audits and notes have no line
pub record IsSameness (old new : Configuration) (same : Sameness) : Type 0 where
  pub format : IsTrue same.format ↔ (old.format ≡ new.format)
  pub announce : IsTrue same.announce ↔ (old.announce ≡ new.announce)
  pub device : IsTrue same.device ↔ (old.device ≡ new.device)
  pub count : IsTrue same.count ↔ (length old.ports ≡ length new.ports)
  pub routes : IsTrue same.routes ↔ (old.routes ≡ new.routes)
  pub objects : IsTrue same.objects ↔ (old.objects ≡ new.objects)
  pub audits : IsTrue same.names → IsTrue same.audits ↔ (old.audits ≡ new.audits)
  pub audits_named : IsFalse same.names → IsTrue same.audits ↔ (audit_lines old new ≡ [])
  pub notes : IsTrue same.names → IsTrue same.notes ↔ (old.notes ≡ new.notes)
  pub notes_named : IsFalse same.names → IsTrue same.notes ↔ (note_lines old new ≡ [])
  pub names : IsTrue same.names ↔ HaveSameNames old.rules new.rules
  pub quiets : IsTrue same.quiets ↔ HaveSameQuiets old.rules new.rules

-- ---- the parts that differ

-- a part, unless it is said to be the same
abbrev pub unless : Bool → Part → List Part
unless same part = if same then [] else part ∷ []

abbrev pub frame_parts : Sameness → List Part
frame_parts same =
    unless same.format parts.Format
    ++ (unless same.announce parts.Announce ++ (unless same.device parts.Device ++ unless same.count parts.Ports))

abbrev pub rest_parts : Sameness → List Part
rest_parts same =
    unless same.routes parts.Routes
    ++ (unless same.objects parts.Objects
    ++ (unless same.audits parts.Audits
    ++ (unless same.notes parts.Notes ++ (unless same.names parts.RuleNames ++ unless same.quiets parts.Quiets))))

abbrev pub link_parts : ℕ → PortSameness → List Part
link_parts number same =
    unless same.network (parts.OfPort number of_port.Network)
    ++ (unless same.address (parts.OfPort number of_port.Address)
    ++ unless same.broadcast (parts.OfPort number of_port.Broadcast))

abbrev pub neighbour_parts : ℕ → PortSameness → List Part
neighbour_parts number same =
    unless same.stations (parts.OfPort number of_port.Stations)
    ++ (unless same.manager (parts.OfPort number of_port.Manager)
    ++ unless same.peers (parts.OfPort number of_port.Peers))

abbrev pub parts_of_port : ℕ → PortSameness → List Part
parts_of_port number same = link_parts number same ++ neighbour_parts number same

-- of the ports in order, counted on from a number
abbrev pub port_parts : ℕ → List PortSameness → List Part
port_parts number [] = []
port_parts number (same ∷ sames) = parts_of_port number same ++ port_parts (number + 1) sames

-- of the ports that both have, what differs is among the parts after those before
pub record ArePortParts (old new : List Port) (before after : List Part) : Type 0 where
  pub sames : List PortSameness
  pub count : length sames ≡ min (length old) (length new)
  pub each : (place : ℕ) (a b : Port) (same : PortSameness) → slice_get old place ≡ Some a → slice_get new place ≡ Some b
      → slice_get sames place ≡ Some same → IsPortSameness a b same
  pub listed : after ≡ before ++ port_parts 1 sames

-- the parts in which two configurations differ, and no other: what isn't among them is the same
pub record AreDifferences (old new : Configuration) (differ : List Part) : Type 0 where
  pub same : Sameness
  pub is_so : IsSameness old new same
  pub ahead : List Part
  pub ports : ArePortParts old.ports new.ports (frame_parts same) ahead
  pub listed : differ ≡ ahead ++ rest_parts same

-- ---- their names

abbrev pub part_word : Part → List ℕ
part_word parts.Format = codes "format"
part_word parts.Announce = codes "announce"
part_word parts.Device = codes "device"
part_word parts.Ports = codes "number of ports"
part_word (parts.OfPort number part) = []
part_word parts.Routes = codes "routes"
part_word parts.Objects = codes "objects"
part_word parts.Audits = codes "audits"
part_word parts.Notes = codes "notes"
part_word parts.RuleNames = codes "names of rules"
part_word parts.Quiets = codes "quiet rules"

abbrev pub port_word : PortPart → List ℕ
port_word of_port.Network = codes "network"
port_word of_port.Address = codes "address"
port_word of_port.Broadcast = codes "broadcast address"
port_word of_port.Stations = codes "stations"
port_word of_port.Manager = codes "broadcast manager"
port_word of_port.Peers = codes "peers"

-- `stations of port 1`
abbrev pub port_name : ℕ → PortPart → List ℕ
port_name number part = port_word part ++ (codes " of port " ++ decimal number)

abbrev pub part_name : Part → List ℕ
part_name (parts.OfPort number part) = port_name number part
part_name part = part_word part

abbrev pub name_line : Part → List ℕ
name_line part = part_name part ++ 10 ∷ []
