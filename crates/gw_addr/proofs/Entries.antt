-- The entries of tables and their ten octets.
use Rattle.std.proofs.Common.{◌≡◌, ℕ, List, ◌++◌, length, take, drop, sym, ap, ap₂, ◌∙◌, arith}
use Rattle.std.proofs.lemmas.List.{take_at, drop_at, drop-drop, take-append-drop, length-append, length-take, length-drop}
use Rattle.std.specs.Int.{w16, from_be_bytes, to_be_bytes}
use Rattle.gw_addr.specs.declared.bip.BipAddr.{BipAddr}
use Rattle.gw_addr.specs.declared.entry.BdtEntry.{BdtEntry}
use Rattle.gw_addr.specs.declared.entry.FdtEntry.{FdtEntry}
use Rattle.gw_addr.specs.Address.{octets_of}
use Rattle.gw_addr.specs.Entry.{bdt_octets, fdt_octets, bdt_entry, fdt_entry, IsBdtEntry, IsFdtEntry}
use Rattle.gw_addr.specs.Reading.{AreOctets}
use Rattle.gw_addr.proofs.Reading.{AreOctets-take, AreOctets-drop, wide16}
use Rattle.gw_addr.proofs.Addresses.{length-address, address_in-fits, address_in-back, address_in-again, drop_address}

-- ---- a broadcast distribution table's

abbrev bdt_made : BipAddr → List ℕ → BdtEntry
bdt_made address mask = record { address = address; mask = mask }

pub bdt-fits : (ten : List ℕ) → length ten ≡ 10 → AreOctets ten → IsBdtEntry (bdt_entry ten)
bdt-fits ten len fits = record {
  address = address_in-fits ten (omega arith) fits;
  four = omega (arith, length-drop 6 ten);
  octets = AreOctets-drop 6 ten fits;
}

pub bdt-back : (ten : List ℕ) → length ten ≡ 10 → AreOctets ten → bdt_octets (bdt_entry ten) ≡ ten
bdt-back ten len fits =
    ap (λ (t : List ℕ). t ++ drop 6 ten) (address_in-back ten (omega arith) fits) ∙ take-append-drop 6 ten

pub bdt-again : (entry : BdtEntry) → IsBdtEntry entry → bdt_entry (bdt_octets entry) ≡ entry
bdt-again entry is =
    ap₂ bdt_made (address_in-again entry.address entry.mask is.address) (drop_address entry.address entry.mask is.address)

pub length-bdt : (entry : BdtEntry) → IsBdtEntry entry → length (bdt_octets entry) ≡ 10
length-bdt entry is = omega (arith, length-append (octets_of entry.address) entry.mask, length-address entry.address is.address, is.four)

-- ---- a foreign device table's

abbrev fdt_made : BipAddr → ℕ → ℕ → FdtEntry
fdt_made address time_to_live remaining = record { address = address; time_to_live = time_to_live; remaining = remaining }

pub fdt-fits : (ten : List ℕ) → length ten ≡ 10 → AreOctets ten → IsFdtEntry (fdt_entry ten)
fdt-fits ten len fits = record {
  address = address_in-fits ten (omega arith) fits;
  time_to_live = wide16.below (take 2 (drop 6 ten)) (AreOctets-take 2 (drop 6 ten) (AreOctets-drop 6 ten fits));
  remaining = wide16.below (drop 8 ten) (AreOctets-drop 8 ten fits);
}

pub fdt-back : (ten : List ℕ) → length ten ≡ 10 → AreOctets ten → fdt_octets (fdt_entry ten) ≡ ten
fdt-back ten len fits =
    let behind = drop 6 ten in
    let two : length (take 2 behind) ≡ 2 = omega (arith, length-take 2 behind, length-drop 6 ten) in
    let last : length (drop 8 ten) ≡ 2 = omega (arith, length-drop 8 ten) in
    let live : to_be_bytes w16 (from_be_bytes w16 (take 2 behind)) ≡ take 2 behind = wide16.back (take 2 behind) two (AreOctets-take 2 behind (AreOctets-drop 6 ten fits)) in
    let left : to_be_bytes w16 (from_be_bytes w16 (drop 8 ten)) ≡ drop 8 ten = wide16.back (drop 8 ten) last (AreOctets-drop 8 ten fits) in
    let joined : take 2 behind ++ drop 8 ten ≡ behind = ap (λ (t : List ℕ). take 2 behind ++ t) (sym (drop-drop 2 6 ten)) ∙ take-append-drop 2 behind in
    ap₂ ◌++◌ (address_in-back ten (omega arith) fits) (ap₂ ◌++◌ live left ∙ joined) ∙ take-append-drop 6 ten

pub fdt-again : (entry : FdtEntry) → IsFdtEntry entry → fdt_entry (fdt_octets entry) ≡ entry
fdt-again entry is =
    let live = to_be_bytes w16 entry.time_to_live in
    let left = to_be_bytes w16 entry.remaining in
    let octets = fdt_octets entry in
    let behind : drop 6 octets ≡ live ++ left = drop_address entry.address (live ++ left) is.address in
    let first : take 2 (drop 6 octets) ≡ live = ap (take 2) behind ∙ take_at live left 2 (wide16.len entry.time_to_live) in
    let second : drop 8 octets ≡ left = sym (drop-drop 2 6 octets) ∙ ap (drop 2) behind ∙ drop_at live left 2 (wide16.len entry.time_to_live) in
    let time : from_be_bytes w16 (take 2 (drop 6 octets)) ≡ entry.time_to_live = ap (from_be_bytes w16) first ∙ wide16.again entry.time_to_live is.time_to_live in
    let seconds : from_be_bytes w16 (drop 8 octets) ≡ entry.remaining = ap (from_be_bytes w16) second ∙ wide16.again entry.remaining is.remaining in
    ap (λ (a : BipAddr). fdt_made a (from_be_bytes w16 (take 2 (drop 6 octets))) (from_be_bytes w16 (drop 8 octets))) (address_in-again entry.address (live ++ left) is.address)
    ∙ ap₂ (fdt_made entry.address) time seconds

pub length-fdt : (entry : FdtEntry) → IsFdtEntry entry → length (fdt_octets entry) ≡ 10
length-fdt entry is =
    let live = to_be_bytes w16 entry.time_to_live in
    let left = to_be_bytes w16 entry.remaining in
    omega (arith, length-append (octets_of entry.address) (live ++ left), length-append live left, length-address entry.address is.address, wide16.len entry.time_to_live, wide16.len entry.remaining)
