-- What iterators over the two tables still give.
use Rattle.std.specs.Prelude.{◌++◌, List}
use Rattle.gw_addr.specs.declared.bip.BipAddr.{BipAddr}
use Rattle.gw_addr.specs.declared.entry.BdtEntry.{BdtEntry}
use Rattle.gw_tables.specs.declared.bdt_fdt.bdt.Peers.{Peers}
use Rattle.gw_tables.specs.declared.bdt_fdt.fdt.Addresses.{Addresses}

-- the entries of peers
abbrev pub peers_left : Peers → List BdtEntry
peers_left p = p.before.now ++ p.behind.now

-- the addresses of foreign devices
abbrev pub addresses_left : Addresses → List BipAddr
addresses_left a = a.keys
