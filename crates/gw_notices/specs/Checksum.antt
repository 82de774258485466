-- The checksum of a text.
use Rattle.std.specs.Prelude.{ℕ, List}
use Rattle.sha2.specs.Sha256.{sha256}
use Rattle.gw_notices.specs.declared.checksum.Checksum.{Checksum}

-- its SHA-256
abbrev pub checksum_of : (text : List ℕ) → Checksum
checksum_of text = record { octets = sha256 text }
