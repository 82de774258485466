-- The key of a node of a port's network is the number of its address, in each format.
use Rattle.std.proofs.Common.{◌≡◌, ◌∙◌, ap, ℕ, ◌+◌, length, Option, Some, None, arith, length-append}
use Rattle.std.specs.Int.{w16, to_be_bytes}
use Rattle.std.specs.Prelude.{◌==◌, ◌*◌, ◌&&◌, nat_le, if◌then◌else◌}
use Rattle.gw_addr.specs.declared.bip.BipAddr.{BipAddr}
use Rattle.gw_addr.specs.Address.{big_endian, octets_of}
use Rattle.gw_rules.specs.Format.{key_in}
use Rattle.gw_rules.specs.declared.format.Format.{Format}
use Rattle.gw_rules.specs.declared.format.Format.TheVariants.{One, Two, Three}

-- what the key of so many octets of this number is
abbrev key48_of : ℕ → ℕ → Option ℕ
key48_of count number = if count == 6 then Some number else None

abbrev key_of_count : ℕ → ℕ → Option ℕ
key_of_count count number =
    if nat_le 1 count && nat_le count 7 then Some ((if count == 6 then 0 else count * 72057594037927936) + number) else None

six : (a : BipAddr) → length a.ip ≡ 4 → length (octets_of a) ≡ 6
six a four = omega (arith, length-append a.ip (to_be_bytes w16 a.udp), four)

pub node_key : (format : Format) (a : BipAddr) → length a.ip ≡ 4 → key_in format (octets_of a) ≡ Some (big_endian (octets_of a))
node_key One a four = ap (λ (count : ℕ). key48_of count (big_endian (octets_of a))) (six a four)
node_key Two a four = ap (λ (count : ℕ). key48_of count (big_endian (octets_of a))) (six a four)
node_key Three a four =
    ap (λ (count : ℕ). key_of_count count (big_endian (octets_of a))) (six a four) ∙ ap Some (none_added (big_endian (octets_of a)))
  where
    none_added : (n : ℕ) → 0 + n ≡ n
    none_added n = omega arith
