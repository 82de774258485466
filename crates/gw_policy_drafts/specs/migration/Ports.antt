-- The tables of the ports in a text of format 3, each with the stations that a comment proposes.
use Rattle.std.specs.Prelude.{◌≡◌, ℕ, List, [], ◌∷◌, ◌++◌, codes, decimal, find}
use Rattle.std.specs.Int.{from_be_bytes, w32}
use Rattle.std.specs.List.{flat_map}
use Rattle.std.specs.Option.{option_map_or}
use Rattle.gw_addr.specs.Address.{text_of}
use Rattle.gw_addr.specs.Text.{four_text}
use Rattle.gw_addr.specs.declared.bip.BipAddr.{BipAddr}
use Rattle.gw_addr.specs.declared.entry.BdtEntry.{BdtEntry}
use Rattle.gw_configuration.specs.Configuration.{Configuration}
use Rattle.gw_configuration.specs.declared.port.Port.{Port}
use Rattle.gw_policy_drafts.specs.migration.Items.{is_ended, prefixes, subnet_text}

-- the number of an IPv4 address
abbrev pub host_of : BipAddr → ℕ
host_of address = from_be_bytes w32 address.ip

-- The stations that are proposed for a port: the smallest subnet that has its address, and that ends with the one to which
-- its broadcasts go (Annex J.1.2).
unfoldable pub subnet_line : ℕ → ℕ → List ℕ
subnet_line host prefix = codes "# stations = [\"" ++ (subnet_text host prefix ++ codes "\"]\n")

unfoldable pub no_subnet_line : List ℕ
no_subnet_line = codes "# No subnet ends with that broadcast address.\n"

abbrev pub stations_of : (host broadcast : ℕ) → List ℕ
stations_of host broadcast =
    option_map_or (subnet_line host) (find (is_ended host broadcast) prefixes) no_subnet_line

abbrev pub stations_line : Port → List ℕ
stations_line port = stations_of (host_of port.address) (host_of port.broadcast)

-- the line of a key with an address
unfoldable pub address_line : List ℕ → BipAddr → List ℕ
address_line key address = (key ++ codes " = ") ++ (34 ∷ (text_of address ++ 34 ∷ 10 ∷ []))

-- the table of a peer
unfoldable pub peer_table : BdtEntry → List ℕ
peer_table peer =
    codes "[[port.peer]]\n" ++ (address_line (codes "address") peer.address ++ (codes "mask = \"" ++ (four_text peer.mask ++ codes "\"\n")))

-- the head of the table of a port
unfoldable pub port_head : Port → List ℕ
port_head port =
    codes "\n[[port]]\n" ++ (((codes "network" ++ codes " = ") ++ (decimal port.network ++ 10 ∷ []))
    ++ (address_line (codes "address") port.address ++ address_line (codes "broadcast") port.broadcast))

-- the table of a port, with the comment and with its peers
abbrev pub port_table : Port → List ℕ
port_table port = port_head port ++ (stations_line port ++ flat_map peer_table port.peers)

-- A text has the tables of the ports, one after the other, with what comes before and after them.
pub record Proposes (c : Configuration) (text : List ℕ) : Type 0 where
  pub front : List ℕ
  pub rest : List ℕ
  pub parts : text ≡ front ++ (flat_map port_table c.ports ++ rest)
