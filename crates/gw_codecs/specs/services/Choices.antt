-- The services that the gateway knows, by their choices (ISO 16484-5, clause 21).
use Rattle.std.specs.Prelude.{ℕ}

-- ---- confirmed

abbrev pub read_property : ℕ
read_property = 12

abbrev pub read_property_multiple : ℕ
read_property_multiple = 14

abbrev pub write_property : ℕ
write_property = 15

-- ---- unconfirmed

abbrev pub i_am : ℕ
i_am = 0

abbrev pub i_have : ℕ
i_have = 1

abbrev pub who_has : ℕ
who_has = 7

abbrev pub who_is : ℕ
who_is = 8
