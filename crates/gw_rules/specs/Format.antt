-- The formats of a policy.
use Rattle.std.specs.Prelude.{ℕ, Bool, true, false, if◌then◌else◌, List, Option}
use Rattle.gw_addr.specs.Station.{key48, key_of}
use Rattle.gw_rules.specs.declared.format.Format.{Format}
use Rattle.gw_rules.specs.declared.format.Format.TheVariants.{Three}

-- asks of format 3 say which station sent the datagram, and which one it names
abbrev pub names_stations : Format → Bool
names_stations Three = true
names_stations _ = false

-- the key that an ask says for a station, in each format: in format 3 that of one to seven octets, else that of six
abbrev pub key_in : Format → List ℕ → Option ℕ
key_in format octets = if names_stations format then key_of octets else key48 octets
