-- The bits of an APDU's first octet (ISO 16484-5, clause 20.1.2) by their names.
use Rattle.std.specs.Prelude.{ℕ}

-- bit 3: the message is one segment of several
abbrev pub segmented_bit : ℕ
segmented_bit = 0x08

-- bit 2: more segments follow
abbrev pub more_bit : ℕ
more_bit = 0x04

-- bit 1: the client takes a segmented response
abbrev pub accepted_bit : ℕ
accepted_bit = 0x02
