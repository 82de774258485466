-- Whether the configuration that is read again is taken over, and by what a gateway then goes on.
use Rattle.std.specs.Prelude.{◌≡◌, ◌≢◌, ⊤, ℕ, ◌&&◌, Bool, true, false, nat_eq, List, ◌++◌, Option, Some, None, Result, Ok, Err}
use Rattle.std.specs.Cmp.Lexicographic.{pointwise}
use Rattle.gw_tables.specs.bdt_fdt.Registrations.{same as same_address}
use Rattle.gw_configuration.specs.Configuration.{Configuration}
use Rattle.gw_configuration.specs.declared.fault.ConfigFault.TheVariants as config
use Rattle.gw_configuration.specs.declared.port.Port.{Port as ConfiguredPort}
use Rattle.gw_configuration.specs.Subnet.{Subnet, keys_of}
use Rattle.gw_addr.specs.declared.bip.BipAddr.{BipAddr}
use Rattle.gw_core.specs.Resumed.{carried, saved_of}
use Rattle.gw_core.specs.State.{State}
use Rattle.gw_policy_text.specs.Document.{configuration}
use Rattle.gw_relay.specs.declared.port.PortState.{PortState}
use Rattle.gw_state.specs.Carried.{same_entry}
use Rattle.gw_state.specs.Saved.{Origin, Saved, origin_of}
use Rattle.gw_state.specs.declared.port.SavedPort.{SavedPort}
use Rattle.gw_system.specs.declared.obstacle.Obstacle.TheVariants as obstacle
use Rattle.gw_system.specs.declared.reading.ReadFailure.{ReadFailure}
use Rattle.gw_system.specs.declared.reading.ReadFailure.TheVariants as reading
use Rattle.gw_service.specs.Edition.{IsEdition}
use Rattle.gw_service.specs.Keeping.{IsSuccessor}
use Rattle.gw_service.specs.declared.edition.Edition.{Edition}
use Rattle.gw_service.specs.declared.reload.Adopted.{Adopted}
use Rattle.gw_notices.specs.Parts.{unless}
use Rattle.gw_notices.specs.Reload.{reload_line}
use Rattle.gw_notices.specs.declared.parts.ConfigurationPart.{ConfigurationPart}
use Rattle.gw_notices.specs.declared.parts.ConfigurationPart.TheVariants as part
use Rattle.gw_notices.specs.rule_changes.Changes.{same_range, same_truth}
use Rattle.gw_watchers.specs.files.Trial.{is_same_format}
use Rattle.gw_notices.specs.declared.reload.ReloadFault.{ReloadFault}
use Rattle.gw_notices.specs.declared.reload.ReloadFault.TheVariants as fault

-- ---- the ports

-- a port has the network, the own address and the broadcast address that another one is configured with
abbrev pub same_port : PortState → ConfiguredPort → Bool
same_port state p =
    nat_eq state.port.network p.network
    && (same_address state.port.address p.address && same_address state.port.broadcast p.broadcast)

-- the same ports in the same order
abbrev pub have_same_ports : List PortState → List ConfiguredPort → Bool
have_same_ports states ports = pointwise same_port states ports

-- ---- why it isn't taken over

-- Why a gateway in this state doesn't take over what was read: there is no file, or it can't be read, and why; the text is no
-- configuration; or its ports are others. Memory runs out only at a text, or at reading it.
abbrev pub IsRefused : State → Result (Option (List ℕ)) ReadFailure → ReloadFault → Type 0
IsRefused w (Err reading.Memory) fault.Memory = ⊤
IsRefused w (Ok (Some text)) fault.Memory = ⊤
IsRefused w (Ok None) (fault.Unreadable why) = why ≡ obstacle.Absent
IsRefused w (Err (reading.Unreadable found)) (fault.Unreadable why) = why ≡ found
IsRefused w (Ok (Some text)) (fault.Configuration f) = (configuration text ≡ Err f) × (f ≢ config.Memory)
IsRefused w (Ok (Some text)) fault.Ports =
    (c : Configuration) × (configuration text ≡ Ok c) × (have_same_ports w.relay.ports c.ports ≡ false)
IsRefused w text f = ⊥

-- of a text that is a configuration only its ports or memory can be why
abbrev pub IsPortsOrMemory : State → Configuration → ReloadFault → Type 0
IsPortsOrMemory w c fault.Memory = ⊤
IsPortsOrMemory w c fault.Ports = have_same_ports w.relay.ports c.ports ≡ false
IsPortsOrMemory w c f = ⊥

-- ---- which parts differ

-- two subnets have the same addresses
abbrev pub same_subnet : Subnet → Subnet → Bool
same_subnet a b = same_range (keys_of a) (keys_of b)

-- neither port has another broadcast manager beside it, or both have the same
abbrev pub same_manager : Option BipAddr → Option BipAddr → Bool
same_manager None None = true
same_manager (Some a) (Some b) = same_address a b
same_manager _ _ = false

-- a port has the stations and the broadcast manager beside it that another one is configured with
abbrev pub same_neighbours : PortState → ConfiguredPort → Bool
same_neighbours state p = pointwise same_subnet state.stations p.stations && same_manager state.port.bbmd p.bbmd

-- the peers that are configured of a port that was saved are those of another one
abbrev pub same_peers : SavedPort → ConfiguredPort → Bool
same_peers saved p = pointwise same_entry saved.peers p.peers

-- The parts in which a configuration differs from that of a gateway in this state, of which this is saved: the format, whether it
-- announces networks, and the ports' stations, peers and broadcast managers.
abbrev pub differing : State → Saved → Configuration → List ConfigurationPart
differing w s c =
    unless (is_same_format w.relay.format c.format) part.Format
    ++ (unless (same_truth w.relay.announce c.announce) part.Announce
    ++ unless (pointwise same_neighbours w.relay.ports c.ports && pointwise same_peers s.ports c.ports) part.Ports)

-- the line of a configuration that a gateway in this state, of which this is saved, takes over
abbrev pub taken_over_line : State → Configuration → Saved → List ℕ
taken_over_line w c s = reload_line w.rules c s (differing w s c)

-- ---- what a gateway goes on by

-- By what a gateway in this state, of which this is configured, goes on as one of another configuration: it takes over what
-- is saved.
pub record IsAdopted (w : State) (o : Origin) (e : Edition) (made : Adopted) : Type 0 where
  pub gateway : made.gateway ≡ carried e.config (saved_of o w)
  pub origin : made.origin ≡ origin_of e.config
  pub checksum : made.checksum ≡ e.checksum
  pub successor : IsSuccessor e.config made.successor
  pub line : made.line.items ≡ taken_over_line w e.config (saved_of o w)

-- the configuration and the checksum are those of this text, and it has the ports that are served
pub record IsReloadedBy (w : State) (o : Origin) (text : List ℕ) (made : Adopted) : Type 0 where
  pub edition : Edition
  pub reads : IsEdition text edition
  pub ports : have_same_ports w.relay.ports edition.config.ports ≡ true
  pub adopted : IsAdopted w o edition made

abbrev pub IsReloaded : State → Origin → Result (Option (List ℕ)) ReadFailure → Adopted → Type 0
IsReloaded w o (Ok (Some text)) made = IsReloadedBy w o text made
IsReloaded w o (Ok None) made = ⊥
IsReloaded w o (Err failure) made = ⊥
