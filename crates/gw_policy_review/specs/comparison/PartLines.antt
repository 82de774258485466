-- The lines of each part in which two configurations differ.
use Rattle.std.specs.Prelude.{ℕ, ◌-◌, List, [], length, slice_get, codes, decimal, Option, Some}
use Rattle.std.specs.List.{flat_map}
use Rattle.gw_configuration.specs.Configuration.{Configuration}
use Rattle.gw_configuration.specs.declared.port.Port.{Port}
use Rattle.gw_policy_review.specs.comparison.Details.{audit_lines, device_lines, format_text, manager_line, names_lines, note_lines}
use Rattle.gw_policy_review.specs.comparison.Details.{objects_lines, peers_lines, port_head, quiet_lines, routes_lines, said}
use Rattle.gw_policy_review.specs.comparison.Details.{stations_lines, truth}
use Rattle.gw_addr.specs.Address.{text_of}
use Rattle.gw_policy_review.specs.declared.comparison.parts.Part.{Part}
use Rattle.gw_policy_review.specs.declared.comparison.parts.Part.TheVariants as parts
use Rattle.gw_policy_review.specs.declared.comparison.parts.PortPart.{PortPart}
use Rattle.gw_policy_review.specs.declared.comparison.parts.PortPart.TheVariants as of_port

-- of a part of a port
abbrev pub port_part_lines : List ℕ → PortPart → Port → Port → List ℕ
port_part_lines head of_port.Network now was = said head (codes "network ") (decimal now.network) (decimal was.network)
port_part_lines head of_port.Address now was = said head (codes "address ") (text_of now.address) (text_of was.address)
port_part_lines head of_port.Broadcast now was =
    said head (codes "broadcast address ") (text_of now.broadcast) (text_of was.broadcast)
port_part_lines head of_port.Stations now was = stations_lines head now.stations was.stations
port_part_lines head of_port.Manager now was = manager_line head now.bbmd was.bbmd
port_part_lines head of_port.Peers now was = peers_lines head now.peers was.peers

-- of two ports, if both are there
abbrev pub of_both : (List ℕ → Port → Port → List ℕ) → List ℕ → Option Port → Option Port → List ℕ
of_both lines head (Some now) (Some was) = lines head now was
of_both lines head _ _ = []

-- the lines of a part, from an old configuration and a new one
abbrev pub part_lines : Configuration → Configuration → Part → List ℕ
part_lines old new parts.Format =
    said [] (codes "format: ") (format_text new.format) (format_text old.format)
part_lines old new parts.Announce = said [] (codes "announce: ") (truth new.announce) (truth old.announce)
part_lines old new parts.Device = device_lines new.device old.device
part_lines old new parts.Ports =
    said [] (codes "number of ports: ") (decimal (length new.ports)) (decimal (length old.ports))
part_lines old new (parts.OfPort number part) =
    of_both (λ head. port_part_lines head part) (port_head number) (slice_get new.ports (number - 1)) (slice_get old.ports (number - 1))
part_lines old new parts.Routes = routes_lines new.routes old.routes
part_lines old new parts.Objects = objects_lines new.objects old.objects
part_lines old new parts.Audits = audit_lines old new
part_lines old new parts.Notes = note_lines old new
part_lines old new parts.RuleNames = names_lines new.rules old.rules
part_lines old new parts.Quiets = quiet_lines new.rules old.rules

-- the lines of these parts, in their order
abbrev pub details : Configuration → Configuration → List Part → List ℕ
details old new differ = flat_map (part_lines old new) differ
