-- The numbers of the network layer (ISO 16484-5, clause 6.2) by their names.
use Rattle.std.specs.Prelude.{ℕ}

-- the version of the protocol (6.2.1)
abbrev pub protocol_version : ℕ
protocol_version = 1

-- bit 7 of the control octet (6.2.2): a network layer message in place of an APDU
abbrev pub message_bit : ℕ
message_bit = 0x80

-- bit 6, reserved
abbrev pub bit_six : ℕ
bit_six = 0x40

-- bit 5: DNET, DLEN, DADR and the hop count are in the message
abbrev pub destination_bit : ℕ
destination_bit = 0x20

-- bit 4, reserved
abbrev pub bit_four : ℕ
bit_four = 0x10

-- bit 3: SNET, SLEN and SADR are in the message
abbrev pub source_bit : ℕ
source_bit = 0x08

-- bit 2: the sender waits for an answer
abbrev pub reply_bit : ℕ
reply_bit = 0x04

-- bits 1 and 0: the priority
abbrev pub priority_bits : ℕ
priority_bits = 0x03

-- the number that represents every network (6.2.2)
abbrev pub every_network : ℕ
every_network = 65535

-- the first message type that a vendor numbers (6.2.4)
abbrev pub first_vendor_kind : ℕ
first_vendor_kind = 0x80

-- the most octets that a message has on BACnet/IP (Annex J)
abbrev pub max_len : ℕ
max_len = 1497
