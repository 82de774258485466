-- What is appended for a property.
use Rattle.std.proofs.Common.{◌≡◌, ◌≢◌, ◌≤◌, ℕ, List, ◌++◌, Option, Result, Ok, Err, ap, refl, ◌∙◌, append_assoc, arith, length, take, rules}
use Rattle.std.proofs.lemmas.List.{length-append, take_at}
use Rattle.std.specs.Prelude.{OnErr, OnOk, vec_items, vec_len}
use Rattle.std.specs.Global.{Vec}
use Rattle.gw_codecs.specs.declared.apdu.writing.ServiceError.{ServiceError}
use Rattle.gw_objects.specs.declared.fault.ReadFault.{ReadFault}
use Rattle.gw_objects.specs.declared.fault.ReadFault.TheVariants.{Memory}
use Rattle.gw_objects.specs.Answer.{Answers}
use Rattle.gw_codecs.specs.services.Reply.{error_item, value_item_head, value_item_tail}
use Rattle.gw_device.specs.Errors.{read_error}
use Rattle.gw_device.specs.Multi.{item}
use Rattle.gw_device.specs.Read.{or_error}

-- the item of a property that has a value
pub item_value : {X : Type 0} (x : X) (p : ℕ) (index : Option ℕ) (due : Result (List ℕ) ReadFault) (old head value new : List ℕ) → head ≡ old ++ value_item_head p index → Answers (Ok x) due head value → new ≡ value ++ value_item_tail → new ≡ old ++ item p index (or_error due)
item_value x p index (Ok octets) old head value new a b c =
    c ∙ ap (λ front. front ++ value_item_tail) (b ∙ ap (λ front. front ++ octets) a)
    ∙ search (rules, append_assoc)
item_value x p index (Err fault) old head value new a b c = absurd b

-- the item of a property that has none: what was begun is taken off again, and the error takes its place
pub item_fault : (fault : ReadFault) (why : ServiceError) (p : ℕ) (index : Option ℕ) (due : Result (List ℕ) ReadFault) (old begun head value cut new : List ℕ) → value ≡ old ++ begun → Answers {X = Unit {0}} (Err fault) due head value → fault ≢ Memory → why ≡ read_error fault
    → cut ≡ take (length old) value → new ≡ cut ++ error_item p index why → new ≡ old ++ item p index (or_error due)
item_fault fault why p index (Ok octets) old begun head value cut new a b other is front e = absurd (other b)
item_fault fault why p index (Err found) old begun head value cut new a b other is front e =
    e ∙ ap (λ text. text ++ error_item p index why) (front ∙ ap (take (length old)) a ∙ take_at old begun (length old) refl)
    ∙ ap (λ announcement_of. old ++ error_item p index announcement_of) (is ∙ ap read_error b)

-- what was begun is taken off again; what is then appended, if anything, makes it no shorter
pub longer_after : {T F : Type 0} (result : Result T F) (begun text : List ℕ) (old value cut new : Vec ℕ) → vec_items value ≡ vec_items old ++ begun
    → vec_items cut ≡ take (length (vec_items old)) (vec_items value) → OnOk result (vec_items new ≡ vec_items cut ++ text)
    → OnErr result (vec_items new ≡ vec_items cut) → vec_len old ≤ vec_len new
longer_after (Ok x) begun text old value cut new begin take_off added same =
    omega (
      arith,
      old.ok.0,
      new.ok.0,
      ap length added,
      length-append (vec_items cut) text,
      ap length (take_off ∙ ap (take (length (vec_items old))) begin ∙ take_at (vec_items old) begun (length (vec_items old)) refl),
    )
longer_after (Err f) begun text old value cut new begin take_off added same =
    omega (
      arith,
      old.ok.0,
      new.ok.0,
      ap length same,
      ap length (take_off ∙ ap (take (length (vec_items old))) begin ∙ take_at (vec_items old) begun (length (vec_items old)) refl),
    )
