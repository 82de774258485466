-- No address comes twice in tables whose items fit one another.
use Rattle.std.proofs.Common.{◌≡◌, ◌∙◌, ℕ, ◌<◌, ◌≤◌, Bool, true, false, ◌||◌, ◌&&◌, not, List, [], ◌∷◌, ◌++◌, length, refl, sym, ap, subst, arith, append_assoc}
use Rattle.std.specs.Prelude.{nat_le, nat_lt}
use Rattle.std.specs.List.{list_all, list_any}
use Rattle.std.proofs.lemmas.Bool.{or_parts, le-leb, le-ltb}
use Rattle.gw_addr.specs.declared.bip.BipAddr.{BipAddr}
use Rattle.gw_addr.specs.declared.entry.BdtEntry.{BdtEntry}
use Rattle.gw_tables.specs.declared.bdt_fdt.kept.KeptDevice.{KeptDevice}
use Rattle.gw_tables.specs.bdt_fdt.Kept.{are_restorable, is_due, is_of_device, repeat_address}
use Rattle.gw_tables.specs.bdt_fdt.Peers.{are_too_many, has_twice, is_of}
use Rattle.gw_tables.proofs.bdt_fdt_lemmas.Same.{flipped}
use Rattle.gw_state_text.specs.Fit.{FitsDevices, FitsEntries}
use Rattle.gw_state_text.specs.Items.{AllFit, AreItems}

-- one of the items
among : {A : Type 0} (p : A → Bool) (before : List A) (item : A) (after : List A) → list_any p (before ++ item ∷ after) ≡ false → p item ≡ false
among p [] item after none = (or_parts (p item) (list_any p after) none).0
among p (x ∷ before) item after none = among p before item after (or_parts (p x) (list_any p (before ++ item ∷ after)) none).1

-- the items after one have other addresses
entries_apart : (e : BdtEntry) (before after items : List BdtEntry) → AllFit FitsEntries (before ++ e ∷ after) items
    → list_any (is_of e.address) items ≡ false
unfolding AllFit
entries_apart e before after [] fit = refl
entries_apart e before after (x ∷ items) fit =
    let apart : is_of e.address x ≡ false = flipped e.address x.address ∙ among (is_of x.address) before e after fit.0.once in
    let later = entries_apart e before (after ++ x ∷ []) items
    (subst (λ (xs : List BdtEntry). AllFit FitsEntries xs items) (append_assoc before (e ∷ after) (x ∷ [])) fit.1) in
    rw (apart, later) refl

no_entry_twice : (before items : List BdtEntry) → AllFit FitsEntries before items → has_twice items ≡ false
unfolding AllFit
no_entry_twice before [] fit = refl
no_entry_twice before (x ∷ items) fit =
    rw (entries_apart x before [] items fit.1, no_entry_twice (before ++ x ∷ []) items fit.1) refl

pub entries_once : (items : List BdtEntry) → AreItems FitsEntries 64 items → (are_too_many items || has_twice items) ≡ false
entries_once items are =
    let few : are_too_many items ≡ false = le-ltb 64 (length items) are.few in
    rw (few, no_entry_twice [] items are.fit) refl

devices_apart : (d : KeptDevice) (before after items : List KeptDevice) → AllFit FitsDevices (before ++ d ∷ after) items
    → list_any (is_of_device d.address) items ≡ false
unfolding AllFit
devices_apart d before after [] fit = refl
devices_apart d before after (x ∷ items) fit =
    let apart : is_of_device d.address x ≡ false = flipped d.address x.address ∙ among (is_of_device x.address) before d after fit.0.once in
    let later = devices_apart d before (after ++ x ∷ []) items
    (subst (λ (xs : List KeptDevice). AllFit FitsDevices xs items) (append_assoc before (d ∷ after) (x ∷ [])) fit.1) in
    rw (apart, later) refl

no_device_twice : (before items : List KeptDevice) → AllFit FitsDevices before items → repeat_address items ≡ false
unfolding AllFit
no_device_twice before [] fit = refl
no_device_twice before (x ∷ items) fit =
    rw (devices_apart x before [] items fit.1, no_device_twice (before ++ x ∷ []) items fit.1) refl

all_due : (before items : List KeptDevice) → AllFit FitsDevices before items → list_all is_due items ≡ true
unfolding AllFit
all_due before [] fit = refl
all_due before (x ∷ items) fit = rw (fit.0.due, all_due (before ++ x ∷ []) items fit.1) refl

pub devices_once : (items : List KeptDevice) → AreItems FitsDevices 128 items → are_restorable items ≡ true
devices_once items are =
    let few : nat_le (length items) 128 ≡ true = le-leb (length items) 128 are.few in
    rw (few, all_due [] items are.fit, no_device_twice [] items are.fit) refl
