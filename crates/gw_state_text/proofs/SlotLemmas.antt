-- Slots, one after the other.
use Rattle.std.proofs.Common.{◌≡◌, ◌∙◌, ℕ, suc, ◌+◌, ◌<◌, List, [], ◌∷◌, ◌++◌, length, take, get_or, Option, Some, None, refl, sym, ap, subst, arith, append-nil, append_assoc}
use Rattle.std.proofs.lemmas.List.{length-set, length-take-le, take_more, take_more_set}
use Rattle.std.proofs.Math.ListN.{set}
use Rattle.gw_configuration.specs.declared.object.ObjectKind.{ObjectKind}
use Rattle.gw_objects.specs.declared.value.PropertyValue.{PropertyValue}
use Rattle.gw_state_text.specs.Fit.{AreOfKind, FitsKind}
use Rattle.gw_state_text.specs.Text.{slot_text, slots_text}

-- one slot more
more : (n : ℕ) (slots : List (Option PropertyValue)) (slot : Option PropertyValue)
    → slots_text n (slots ++ slot ∷ []) ≡ slots_text n slots ++ slot_text (n + length slots) slot
unfolding slots_text
more n [] slot =
    let same : n ≡ n + 0 = omega arith in
    append-nil (slot_text n slot) ∙ ap (λ (k : ℕ). slot_text k slot) same
more n (x ∷ slots) slot =
    let same : n + 1 + length slots ≡ n + suc (length slots) = omega arith in
    ap (λ (t : List ℕ). slot_text n x ++ t) (more (n + 1) slots slot ∙ ap (λ (k : ℕ). slots_text (n + 1) slots ++ slot_text k slot) same)
    ∙ sym (append_assoc (slot_text n x) (slots_text (n + 1) slots) (slot_text (n + suc (length slots)) slot))

-- one slot more in a text, whose place this is
pub slot_more : (slots : List (Option PropertyValue)) (place : ℕ) (slot : Option PropertyValue) → length slots ≡ place
    → slots_text 1 (slots ++ slot ∷ []) ≡ slots_text 1 slots ++ slot_text (place + 1) slot
slot_more slots place slot len =
    let same : 1 + length slots ≡ place + 1 = omega (arith, len) in
    more 1 slots slot ∙ ap (λ (k : ℕ). slots_text 1 slots ++ slot_text k slot) same

-- what is read up to a slot, and the slot
pub read_more : (slots : List (Option PropertyValue)) (place : ℕ) (slot : Option PropertyValue) (text rest remaining : List ℕ)
    → length slots ≡ place → text ≡ slots_text 1 slots ++ rest → rest ≡ slot_text (place + 1) slot ++ remaining
    → text ≡ slots_text 1 (slots ++ slot ∷ []) ++ remaining
read_more slots place slot text rest remaining len so_far then =
    so_far ∙ ap (λ (t : List ℕ). slots_text 1 slots ++ t) then
    ∙ sym (append_assoc (slots_text 1 slots) (slot_text (place + 1) slot) remaining)
    ∙ ap (λ (t : List ℕ). t ++ remaining) (sym (slot_more slots place slot len))

-- what is written up to a slot, and the slot
pub written_more : (slots : List (Option PropertyValue)) (place : ℕ) (slot : Option PropertyValue) (old now new : List ℕ)
    → place < length slots → slot ≡ get_or slots place slot → now ≡ old ++ slots_text 1 (take place slots)
    → new ≡ now ++ slot_text (place + 1) slot → new ≡ old ++ slots_text 1 (take (place + 1) slots)
written_more slots place slot old now new lt is so_far then =
    let next : take (place + 1) slots ≡ take place slots ++ slot ∷ [] =
    take_more slots place slot lt ∙ ap (λ (s : Option PropertyValue). take place slots ++ s ∷ []) (sym is) in
    then ∙ ap (λ (t : List ℕ). t ++ slot_text (place + 1) slot) so_far
    ∙ append_assoc old (slots_text 1 (take place slots)) (slot_text (place + 1) slot)
    ∙ ap (λ (t : List ℕ). old ++ t) (sym (slot_more (take place slots) place slot (length-take-le place slots (omega (arith, lt)))))
    ∙ ap (λ (xs : List (Option PropertyValue)). old ++ slots_text 1 xs) (sym next)

-- before the first slot nothing is written
pub none_written : (old : List ℕ) → old ≡ old ++ slots_text 1 []
unfolding slots_text
none_written old = sym (append-nil old)

pub kind_more : (kind : ObjectKind) (slots : List (Option PropertyValue)) (slot : Option PropertyValue) → AreOfKind kind slots
    → AreOfKind kind (slot ∷ []) → AreOfKind kind (slots ++ slot ∷ [])
unfolding AreOfKind
kind_more kind [] slot are one = one
kind_more kind (None ∷ slots) slot are one = kind_more kind slots slot are one
kind_more kind (Some value ∷ slots) slot are one = (are.0, kind_more kind slots slot are.1 one)

pub none_of_kind : (kind : ObjectKind) → AreOfKind kind []
unfolding AreOfKind
none_of_kind kind = tt

-- one slot: empty, or with a value of the type
pub none_one : (kind : ObjectKind) → AreOfKind kind (None ∷ [])
unfolding AreOfKind
none_one kind = tt

pub one_of_kind : (kind : ObjectKind) (value : PropertyValue) → FitsKind kind value → AreOfKind kind (Some value ∷ [])
unfolding AreOfKind
one_of_kind kind value fits = (fits, tt)

-- ---- slots that are read into an array

-- what is read up to a slot
pub record Slots (kind : ObjectKind) (text : List ℕ) (place : ℕ) (slots : List (Option PropertyValue)) (rest : List ℕ) : Type 0 where
  pub parts : text ≡ slots_text 1 (take place slots) ++ rest
  pub are : AreOfKind kind (take place slots)
  pub sixth : get_or (take place slots) 5 None ≡ None
  pub sixteen : length slots ≡ 16

pub slots_start : (kind : ObjectKind) (text : List ℕ) (slots : List (Option PropertyValue)) → length slots ≡ 16 → Slots kind text 0 slots text
unfolding slots_text
slots_start kind text slots len = record { parts = refl; are = none_of_kind kind; sixth = refl; sixteen = len }

-- one slot more leaves the sixth as it is, or is an empty one
sixth_more : (slots : List (Option PropertyValue)) (slot : Option PropertyValue) → get_or slots 5 None ≡ None → (length slots + 1 ≡ 6 → slot ≡ None)
    → get_or (slots ++ slot ∷ []) 5 None ≡ None
sixth_more [] slot e is = refl
sixth_more (a ∷ []) slot e is = refl
sixth_more (a ∷ b ∷ []) slot e is = refl
sixth_more (a ∷ b ∷ d ∷ []) slot e is = refl
sixth_more (a ∷ b ∷ d ∷ f ∷ []) slot e is = refl
sixth_more (a ∷ b ∷ d ∷ f ∷ g ∷ []) slot e is = is refl
sixth_more (a ∷ b ∷ d ∷ f ∷ g ∷ h ∷ slots) slot e is = e

pub slots_next : (kind : ObjectKind) (text rest remaining : List ℕ) (place : ℕ) (slots : List (Option PropertyValue)) (slot : Option PropertyValue)
    → place < 16 → Slots kind text place slots rest → rest ≡ slot_text (place + 1) slot ++ remaining → AreOfKind kind (slot ∷ [])
    → (place + 1 ≡ 6 → slot ≡ None) → Slots kind text (place + 1) (set slots place slot) remaining
slots_next kind text rest remaining place slots slot lt so_far then one free =
    let within : place < length slots = omega (arith, lt, so_far.sixteen) in
    let next : take (place + 1) (set slots place slot) ≡ take place slots ++ slot ∷ [] = take_more_set slots place slot within in
    let len : length (take place slots) ≡ place = length-take-le place slots (omega (arith, within)) in
    record {
      parts =
          read_more (take place slots) place slot text rest remaining len so_far.parts then
          ∙ ap (λ (xs : List (Option PropertyValue)). slots_text 1 xs ++ remaining) (sym next);
      are = subst (AreOfKind kind) (sym next) (kind_more kind (take place slots) slot so_far.are one);
      sixth =
          ap (λ (xs : List (Option PropertyValue)). get_or xs 5 None) next
          ∙ sixth_more (take place slots) slot so_far.sixth (λ e. free (ap (λ (k : ℕ). k + 1) (sym len) ∙ e));
      sixteen = length-set slots place slot ∙ so_far.sixteen;
    }
