-- What a store of a file reports after a text was put there.
use Rattle.std.proofs.Common.{◌≡◌, ◌⊎◌, inl, inr, ap, refl, sym, subst, ℕ, List, Option, Some, None, Result, Ok, Err, OnOk, OnErr}
use Rattle.gw_system.specs.Disk.{Change, Changes, FileState, Leads, shown, state_of, text_of}
use Rattle.gw_system.specs.Replacing.{IsReplacing, IsShowing}
use Rattle.gw_system.specs.Store.{IsPut, held_at}
use Rattle.gw_system.specs.declared.store.StoreKind.{StoreKind}
use Rattle.gw_system.specs.declared.store.StoreKind.TheVariants as kind
use Rattle.gw_system.proofs.ReplacingLemmas.{at_end, old_same}
use Rattle.gw_wire.specs.Store.{Holds}
use Rattle.gw_wire.specs.declared.store.StoreFault.{StoreFault}
use Rattle.std.specs.Prelude.{option_map}

holds : (held : Option (List ℕ)) (text : List ℕ) → held ≡ Some text → Holds held text
holds held text e = subst (λ (o : Option (List ℕ)). Holds o text) (sym e) refl

done : (kind : StoreKind) (name beside text : List ℕ) (v : Unit {0}) (a b : List Change) → IsPut kind name beside text (Ok v) a b
    → shown (state_of b name) ≡ Some text
done kind.Kept name beside text v a b x = ap (λ (f : Option FileState). option_map text_of f) x.done.file
done kind.Shown name beside text v a b x = ap (λ (f : Option FileState). option_map text_of f) x.done

held_done : (kind : StoreKind) (name beside text : List ℕ) (v : Unit {0}) (p q : Changes) → Leads (IsPut kind name beside text (Ok v)) p q
    → Holds (held_at q name) text
held_done kind name beside text v None q x = subst (λ (o : Changes). Holds (held_at o name) text) (sym x) tt
held_done kind name beside text v (Some a) None x = tt
held_done kind name beside text v (Some a) (Some b) x = holds (shown (state_of b name)) text (done kind name beside text v a b x)

whole : (kind : StoreKind) (name beside text : List ℕ) (fault : StoreFault) (a b : List Change)
    → IsPut kind name beside text (Err fault) a b
    → (shown (state_of b name) ≡ shown (state_of a name)) ⊎ (shown (state_of b name) ≡ Some text)
whole kind.Kept name beside text fault a b x =
    (at_end (IsReplacing name beside text a) a b
    (record { whole = old_same text (state_of a name); others = λ other differs differ. refl }) x.moments).whole.shows
whole kind.Shown name beside text fault a b x =
    (at_end (IsShowing name beside text a) a b (record { shows = inl refl; others = λ other differs differ. refl }) x.moments).shows

either : (old now : Option (List ℕ)) (text : List ℕ) → (now ≡ old) ⊎ (now ≡ Some text) → (now ≡ old) ⊎ Holds now text
either old now text (inl e) = inl e
either old now text (inr e) = inr (holds now text e)

held_failed : (kind : StoreKind) (name beside text : List ℕ) (fault : StoreFault) (p q : Changes)
    → Leads (IsPut kind name beside text (Err fault)) p q
    → (held_at q name ≡ held_at p name) ⊎ Holds (held_at q name) text
held_failed kind name beside text fault None q x = inl (ap (λ (o : Changes). held_at o name) x)
held_failed kind name beside text fault (Some a) None x = inr tt
held_failed kind name beside text fault (Some a) (Some b) x =
    either (shown (state_of a name)) (shown (state_of b name)) text (whole kind name beside text fault a b x)

pub put_ok : (kind : StoreKind) (name later beside text : List ℕ) (result : Result (Unit {0}) StoreFault) (p q : Changes) → later ≡ name
    → Leads (IsPut kind name beside text result) p q → OnOk result (Holds (held_at q later) text)
put_ok kind name later beside text (Ok v) p q same x =
    subst (λ (n : List ℕ). Holds (held_at q n) text) (sym same) (held_done kind name beside text v p q x)
put_ok kind name later beside text (Err fault) p q same x = tt

pub put_err : (kind : StoreKind) (name later beside text : List ℕ) (result : Result (Unit {0}) StoreFault) (p q : Changes) → later ≡ name
    → Leads (IsPut kind name beside text result) p q → OnErr result ((held_at q later ≡ held_at p name) ⊎ Holds (held_at q later) text)
put_err kind name later beside text (Ok v) p q same x = tt
put_err kind name later beside text (Err fault) p q same x =
    subst (λ (n : List ℕ). (held_at q n ≡ held_at p name) ⊎ Holds (held_at q n) text) (sym same)
    (held_failed kind name beside text fault p q x)
