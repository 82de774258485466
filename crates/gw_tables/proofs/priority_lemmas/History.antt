-- What one act more in a history changes in the slots.
use Rattle.std.proofs.Common.{◌≡◌, ◌≢◌, ◌⊎◌, inl, inr, ℕ, ◌+◌, ◌-◌, ◌<◌, true, false, cond, List, ◌∷◌, map, length, get_or, set, replicate, Option, Some, None, arith, refl, sym, ap, ◌∙◌}
use Rattle.std.specs.Prelude.{find}
use Rattle.std.specs.List.{range_with_len}
use Rattle.std.specs.Option.{option_and_then}
use Rattle.std.proofs.lemmas.Bool.{cases_eq, eq-eqb, ne_eqb}
use Rattle.std.proofs.lemmas.List.{ext_get_or, length-set, get_or-set_same, get_or-set_other, get_or-replicate}
use Rattle.std.proofs.lemmas.List.FromFn.{length-map-range_with_len, get_or-map-range_with_len}
use Rattle.gw_tables.specs.priority.Commandable.{Commandable, IsPriority, slot, with_slot}
use Rattle.gw_tables.specs.priority.History.{Act, Command, Relinquish, is_at, value_of, slot_after, state_after, IsStateAfter}

module _ {A : Type 0} (f g : ℕ → A) (d : A) (n place : ℕ) (within : place < n) (others : (other : ℕ) → other ≢ place + 1 → g other ≡ f other) where
  long : (h : ℕ → A) → length (map h (range_with_len 1 n)) ≡ n
  long h = length-map-range_with_len h 1 n

  at_each : (k : ℕ) → k < n → (k ≡ place) ⊎ (k ≢ place) → get_or (set (map f (range_with_len 1 n)) place (g (place + 1))) k d ≡ g (k + 1)
  at_each k lt (inl same) =
      ap (λ i. get_or (set (map f (range_with_len 1 n)) place (g (place + 1))) i d) same
      ∙ get_or-set_same (map f (range_with_len 1 n)) place (g (place + 1)) d (omega (arith, long f))
      ∙ ap (λ i. g (i + 1)) (sym same)
  at_each k lt (inr other) =
      get_or-set_other (map f (range_with_len 1 n)) place k (g (place + 1)) d other
      ∙ get_or-map-range_with_len f 1 n k (k + 1) d lt (omega arith)
      ∙ sym (others (k + 1) (λ e. other (omega arith)))

  -- a write into the list of a function's values, if the function changes at that place alone
  pub written : set (map f (range_with_len 1 n)) place (g (place + 1)) ≡ map g (range_with_len 1 n)
  written =
      ext_get_or d _ _ (length-set (map f (range_with_len 1 n)) place (g (place + 1)) ∙ long f ∙ sym (long g)) (λ k lt.
      let below : k < n = omega (arith, length-set (map f (range_with_len 1 n)) place (g (place + 1)), long f) in
      at_each k below (cases_eq k place) ∙ sym (get_or-map-range_with_len g 1 n k (k + 1) d below (omega arith)))

-- a command or a relinquish is the last act at its priority
pub after_same : {A : Type 0} (act : Act A) (history : List (Act A)) (priority : ℕ) → is_at priority act ≡ true → slot_after (act ∷ history) priority ≡ value_of act
after_same act history priority e = ap (λ b. option_and_then value_of (cond b (Some act) (find (is_at priority) history))) e

-- an act that isn't at a priority leaves its slot as it was
pub after_other : {A : Type 0} (act : Act A) (history : List (Act A)) (priority : ℕ) → is_at priority act ≡ false → slot_after (act ∷ history) priority ≡ slot_after history priority
after_other act history priority e = ap (λ b. option_and_then value_of (cond b (Some act) (find (is_at priority) history))) e

-- the slots after an act at a priority
slots_next : {A : Type 0} (act : Act A) (history : List (Act A)) (priority : ℕ) → IsPriority priority → is_at priority act ≡ true → ((other : ℕ) → other ≢ priority → is_at other act ≡ false) → set (map (slot_after history) (range_with_len 1 16)) (priority - 1) (value_of act) ≡ map (slot_after (act ∷ history)) (range_with_len 1 16)
slots_next act history priority is there elsewhere =
    let at : priority - 1 + 1 ≡ priority = omega (arith, is.0) in
    ap (set (map (slot_after history) (range_with_len 1 16)) (priority - 1)) (sym (after_same act history priority there) ∙ ap (slot_after (act ∷ history)) (sym at))
    ∙ written (slot_after history) (slot_after (act ∷ history)) None 16 (priority - 1) (omega (arith, is.0, is.1)) (λ other ne. after_other act history other (elsewhere other (λ e. ne (e ∙ sym at))))

-- a command after a history
pub command_next : {A : Type 0} (start : A) (history : List (Act A)) (property : Commandable A) (priority : ℕ) (value : A) → IsPriority priority → IsStateAfter start history property → IsStateAfter start (Command priority value ∷ history) (with_slot priority (Some value) property)
command_next start history property priority value is after =
    ap (with_slot priority (Some value)) after
    ∙ ap (λ slots. record { slots = slots; default = (state_after start history).default })
    (slots_next (Command priority value) history priority is (eq-eqb priority priority refl) (λ other ne. ne_eqb priority other (λ e. ne (sym e))))

-- a relinquish after a history
pub relinquish_next : {A : Type 0} (start : A) (history : List (Act A)) (property : Commandable A) (priority : ℕ) → IsPriority priority → IsStateAfter start history property → IsStateAfter start (Relinquish priority ∷ history) (with_slot priority None property)
relinquish_next start history property priority is after =
    ap (with_slot priority None) after
    ∙ ap (λ slots. record { slots = slots; default = (state_after start history).default })
    (slots_next (Relinquish priority) history priority is (eq-eqb priority priority refl) (λ other ne. ne_eqb priority other (λ e. ne (sym e))))

-- sixteen empty slots are those after no act
pub all_empty : {A : Type 0} (slots : List (Option A)) → length slots ≡ 16 → ((place : ℕ) → place < 16 → get_or slots place None ≡ None) → slots ≡ replicate 16 None
all_empty slots long each =
    ext_get_or None slots (replicate 16 None) (long ∙ refl) (λ place lt.
    let below : place < 16 = omega (arith, long) in
    each place below ∙ sym (get_or-replicate 16 place None None below))

-- the slot of a priority after a history
pub slot_at : {A : Type 0} (start : A) (history : List (Act A)) (priority : ℕ) → IsPriority priority → slot priority (state_after start history) ≡ slot_after history priority
slot_at start history priority is = get_or-map-range_with_len (slot_after history) 1 16 (priority - 1) priority None (omega (arith, is.0, is.1)) (omega (arith, is.0))
