-- A line and what comes after it, word by word.
use Rattle.std.specs.Prelude.{ℕ, List, ◌∷◌, ◌++◌, codes}
use Rattle.std.specs.Fmt.{decimal}
use Rattle.gw_addr.specs.declared.bip.BipAddr.{BipAddr}
use Rattle.gw_addr.specs.declared.entry.BdtEntry.{BdtEntry}
use Rattle.gw_addr.specs.Address.{text_of}
use Rattle.gw_addr.specs.Text.{four_text}
use Rattle.gw_tables.specs.declared.bdt_fdt.kept.KeptDevice.{KeptDevice}
use Rattle.gw_tables.specs.declared.routes.route.Route.{Route}
use Rattle.gw_state.specs.declared.counts.SavedCounts.{SavedCounts}

abbrev pub counts_on : SavedCounts → List ℕ → List ℕ
counts_on counts rest =
    codes "counts " ++ (decimal counts.since ++ 32 ∷ (decimal counts.ticks ++ 32 ∷ (decimal counts.denials ++ 10 ∷ rest)))

abbrev pub port_on : ℕ → BipAddr → List ℕ → List ℕ
port_on network address rest = codes "port " ++ (decimal network ++ 32 ∷ (text_of address ++ 10 ∷ rest))

abbrev pub entry_on : List ℕ → BdtEntry → List ℕ → List ℕ
entry_on word entry rest = word ++ (text_of entry.address ++ 32 ∷ (four_text entry.mask ++ 10 ∷ rest))

abbrev pub device_on : KeptDevice → List ℕ → List ℕ
device_on device rest =
    codes "device " ++ (text_of device.address ++ 32 ∷ (decimal device.time_to_live ++ 32 ∷ (decimal device.left ++ 10 ∷ rest)))

abbrev pub route_on : ℕ × Route → List ℕ → List ℕ
route_on route rest =
    codes "route " ++ (decimal route.0 ++ 32 ∷ (decimal route.1.port ++ 32 ∷ (text_of route.1.next ++ 10 ∷ rest)))
