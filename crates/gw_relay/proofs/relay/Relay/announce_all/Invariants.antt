use Rattle.std.proofs.Common.{◌≡◌, take}
use Rattle.std.specs.List.{flat_map}
use Rattle.gw_relay.specs.Announcement.{announcement}
use Rattle.gw_relay.proofs.relay.Relay.announce_all.Given as goal

-- what is announced on the ports so far
abbrev pub invariant-loop-state : goal.invariant-loop-state
invariant-loop-state l = l.sends ≡ flat_map (announcement l.self) (take l.state-index l.self.ports)
