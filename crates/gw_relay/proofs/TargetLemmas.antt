-- Who is left out of a distribution, and whom a mask of all ones reaches.
use lib.Bits.{or_zero_r}
use Rattle.std.proofs.Common.{◌≡◌, ◌∙◌, ap, refl, ℕ, Bool, true, false, not, List, [], ◌∷◌, length, arith}
use Rattle.std.specs.Prelude.{slice_index}
use Rattle.std.specs.Int.RustNames.{bit_or}
use Rattle.std.proofs.lemmas.Map.Views.{any-filter_same}
use Rattle.gw_addr.specs.declared.bip.BipAddr.{BipAddr}
use Rattle.gw_addr.specs.declared.entry.BdtEntry.{BdtEntry}
use Rattle.gw_tables.specs.bdt_fdt.Peers.{is_of}
use Rattle.gw_tables.specs.bdt_fdt.Registrations.{same}
use Rattle.gw_relay.specs.Cast.{devices, directed}
use Rattle.gw_relay.specs.Laws.{AllOnesReachTheManager, OwnEntryIsLeftOut, SenderIsLeftOut}

flipped : (b : Bool) → b ≡ true → not b ≡ false
flipped true e = refl
flipped false e = cc

pub sender_left_out : SenderIsLeftOut
sender_left_out from state =
    any-filter_same (same from) (λ device. not (same from device)) false (λ device e. flipped (same from device) e) (devices state)

pub own_left_out : OwnEntryIsLeftOut
own_left_out own entries =
    any-filter_same (is_of own) (λ entry. not (is_of own entry)) false (λ entry e. flipped (is_of own entry) e) entries

-- four octets, none of whose bits is set further
four_kept : (ip : List ℕ) → length ip ≡ 4
    → bit_or (slice_index ip 0) 0 ∷ bit_or (slice_index ip 1) 0 ∷ bit_or (slice_index ip 2) 0 ∷ bit_or (slice_index ip 3) 0 ∷ [] ≡ ip
four_kept [] e = absurd (omega arith)
four_kept (a ∷ []) e = absurd (omega arith)
four_kept (a ∷ b ∷ []) e = absurd (omega arith)
four_kept (a ∷ b ∷ c ∷ []) e = absurd (omega arith)
four_kept (a ∷ b ∷ c ∷ d ∷ []) e = simp or_zero_r
four_kept (a ∷ b ∷ c ∷ d ∷ f ∷ more) e = absurd (omega arith)

with_mask : BdtEntry → List ℕ → BipAddr
with_mask entry mask = directed (record { address = entry.address; mask = mask })

with_ip : BdtEntry → List ℕ → BipAddr
with_ip entry ip = record { ip = ip; udp = entry.address.udp }

pub all_ones_reach : AllOnesReachTheManager
unfolding with_mask with_ip
all_ones_reach entry fits ones = ap (with_mask entry) ones ∙ ap (with_ip entry) (four_kept entry.address.ip fits.address.four)
