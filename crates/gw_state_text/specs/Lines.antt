-- Lines without a value, as they are read from the front of a text.
use Rattle.std.specs.Prelude.{ℕ, ◌^◌, List, codes, Option, Some}
use Rattle.gw_addr.specs.declared.bip.BipAddr.{BipAddr}
use Rattle.gw_addr.specs.declared.entry.BdtEntry.{BdtEntry}
use Rattle.gw_tables.specs.declared.bdt_fdt.kept.KeptDevice.{KeptDevice}
use Rattle.gw_tables.specs.declared.routes.route.Route.{Route}
use Rattle.gw_state.specs.declared.counts.SavedCounts.{SavedCounts}
use Rattle.gw_state_text.specs.Words.{◌>>=◌, after_word, address_to, mask_to, network_to, number_to, small_to}

-- `counts <since> <ticks> <denials>`
unfoldable pub counts_at : List ℕ → Option (SavedCounts × List ℕ)
counts_at text = do
  words ← after_word (codes "counts ") text
  since ← number_to 32 words
  ticks ← number_to 32 since.1
  denials ← number_to 10 ticks.1
  Some (record { since = since.0; ticks = ticks.0; denials = denials.0 }, denials.1)

-- `port <network> <address>`
unfoldable pub port_at : List ℕ → Option (ℕ × BipAddr × List ℕ)
port_at text = do
  words ← after_word (codes "port ") text
  network ← network_to words
  address ← address_to 10 network.1
  Some (network.0, address.0, address.1)

-- this word, `<address> <mask>`
unfoldable pub entry_at : List ℕ → List ℕ → Option (BdtEntry × List ℕ)
entry_at word text = do
  words ← after_word word text
  address ← address_to 32 words
  mask ← mask_to address.1
  Some (record { address = address.0; mask = mask.0.octets }, mask.1)

-- `device <address> <time to live> <ticks left>`
unfoldable pub device_at : List ℕ → Option (KeptDevice × List ℕ)
device_at text = do
  words ← after_word (codes "device ") text
  address ← address_to 32 words
  time ← small_to (2 ^ 16) 32 address.1
  left ← number_to 10 time.1
  Some (record { address = address.0; time_to_live = time.0; left = left.0 }, left.1)

-- `route <network> <port> <next router>`
unfoldable pub route_at : List ℕ → Option (ℕ × Route × List ℕ)
route_at text = do
  words ← after_word (codes "route ") text
  network ← network_to words
  port ← small_to (2 ^ 8) 32 network.1
  next ← address_to 10 port.1
  Some (network.0, record { port = port.0; next = next.0 }, next.1)

-- `slot <priority> `
unfoldable pub priority_at : List ℕ → Option (ℕ × List ℕ)
priority_at text = do
  words ← after_word (codes "slot ") text
  small_to (2 ^ 8) 32 words
