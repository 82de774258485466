-- What is announced without being asked.
use Rattle.std.proofs.Common.{◌≡◌, refl, false, List, [], ◌∷◌}
use Rattle.std.specs.List.{flat_map}
use Rattle.gw_relay.specs.Announcement.{announcement, announcements}
use Rattle.gw_relay.specs.State.{Relay}
use Rattle.gw_relay.specs.declared.port.PortState.{PortState}

none_on : (r : Relay) → r.announce ≡ false → (ports : List PortState) → flat_map (announcement r) ports ≡ []
none_on r e [] = refl
none_on r e (state ∷ ports) = rw e (none_on r e ports)

-- nothing, where networks aren't announced
pub no_announcements : (r : Relay) → r.announce ≡ false → announcements r ≡ []
no_announcements r e = none_on r e r.ports
