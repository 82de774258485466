-- What one write more in a history changes in the slots and the defaults.
use Rattle.std.proofs.Common.{◌≡◌, ◌≢◌, ◌⊎◌, inl, inr, ℕ, ◌<◌, true≢false, if◌then◌else◌, List, [], ◌∷◌, length, map, set, Option, Some, None, is_some, option_map, arith, refl, sym, ap, subst, ◌∙◌, zero, suc}
use Rattle.std.specs.Prelude.{slice_get, unwrap_or}
use Rattle.std.specs.List.{cons_option}
use Rattle.std.proofs.lemmas.Bool.{cases_eq, eq-eqb, ne_eqb}
use Rattle.std.proofs.lemmas.List.{length-set, length-map, get_or-set_same}
use Rattle.std.proofs.lemmas.Option.{slice_get-get_or, slice_get_within, slice_get-map}
use Rattle.gw_tables.specs.priority.Commandable.{no_command, with_default}
use Rattle.gw_tables.specs.priority.History.{Act, Command, Relinquish, SetDefault, state_after}
use Rattle.gw_tables.proofs.priority_lemmas.History.{command_next, relinquish_next}
use Rattle.gw_objects.specs.declared.value.PropertyValue.{PropertyValue}
use Rattle.gw_objects.specs.History.{IsStateAfter, acted, acts_at, put_at}
use Rattle.gw_objects.specs.Objects.{Slots}
use Rattle.gw_objects.specs.Write.{CanAct, Write}

-- an act on what a history left
pub act_next : (start : PropertyValue) (acts : List (Act PropertyValue)) (slots : Slots) (act : Act PropertyValue) → CanAct act → slots ≡ state_after start acts → acted act slots ≡ state_after start (act ∷ acts)
act_next start acts slots (Command priority value) can after = command_next start acts slots priority value can.0 after
act_next start acts slots (Relinquish priority) can after = relinquish_next start acts slots priority can.0 after
act_next start acts slots (SetDefault value) can after = ap (with_default value) after

-- an element after a store
set_same : {A : Type 0} (xs : List A) (i : ℕ) (x : A) → i < length xs → slice_get (set xs i x) i ≡ Some x
set_same xs i x lt =
    slice_get-get_or (set xs i x) i x (omega (arith, length-set xs i x)) ∙ ap (λ (y : _). Some y) (get_or-set_same xs i x x lt)

set_other : {A : Type 0} (xs : List A) (i j : ℕ) (x : A) → j ≢ i → slice_get (set xs i x) j ≡ slice_get xs j
set_other [] i j x ne = refl
set_other (y ∷ ys) zero zero x ne = absurd (ne refl)
set_other (y ∷ ys) zero (suc j) x ne = refl
set_other (y ∷ ys) (suc i) zero x ne = refl
set_other (y ∷ ys) (suc i) (suc j) x ne = set_other ys i j x (λ e. ne (ap suc e))

-- what belongs to the same start
same_start : {A B : Type 0} (f g : A → B) (o : Option A) (s x : B) → Some s ≡ option_map f o → ((start : A) → s ≡ f start → x ≡ g start) → Some x ≡ option_map g o
same_start f g None s x e next = absurd (true≢false (ap is_some e))
same_start f g (Some start) s x e next = ap (λ y. Some y) (next start (ap (λ o. unwrap_or o s) e))

no_start : {A B : Type 0} (f g : A → B) (o : Option A) → None ≡ option_map f o → None ≡ option_map g o
no_start f g None e = refl
no_start f g (Some start) e = absurd (true≢false (sym (ap is_some e)))

module _ (starts : List PropertyValue) (history : List Write) (w : Write) (states : List Slots) (can : CanAct w.act) (stand : IsStateAfter starts history states) where
  acts_here : acts_at w.place (w ∷ history) ≡ w.act ∷ acts_at w.place history
  acts_here = ap (λ b. cons_option (if b then Some w.act else None) (acts_at w.place history)) (eq-eqb w.place w.place refl)

  acts_there : (place : ℕ) → place ≢ w.place → acts_at place (w ∷ history) ≡ acts_at place history
  acts_there place ne = ap (λ b. cons_option (if b then Some w.act else None) (acts_at place history)) (ne_eqb w.place place (λ e. ne (sym e)))

  elsewhere : (place : ℕ) → place ≢ w.place → slice_get states place ≡ option_map (λ start. state_after start (acts_at place (w ∷ history))) (slice_get starts place)
  elsewhere place ne = subst (λ acts. slice_get states place ≡ option_map (λ start. state_after start acts) (slice_get starts place)) (sym (acts_there place ne)) (stand.each place)

  here : (s : Slots) → slice_get states w.place ≡ Some s → Some (acted w.act s) ≡ option_map (λ start. state_after start (acts_at w.place (w ∷ history))) (slice_get starts w.place)
  here s is =
      same_start (λ start. state_after start (acts_at w.place history)) (λ start. state_after start (acts_at w.place (w ∷ history))) (slice_get starts w.place) s (acted w.act s) (sym is ∙ stand.each w.place) (λ start after.
      act_next start (acts_at w.place history) s w.act can after ∙ ap (state_after start) (sym acts_here))

  each_set : (s : Slots) → slice_get states w.place ≡ Some s → (place : ℕ) → (place ≡ w.place) ⊎ (place ≢ w.place) → slice_get (set states w.place (acted w.act s)) place ≡ option_map (λ start. state_after start (acts_at place (w ∷ history))) (slice_get starts place)
  each_set s is place (inl same) =
      subst (λ p. slice_get (set states w.place (acted w.act s)) p ≡ option_map (λ start. state_after start (acts_at p (w ∷ history))) (slice_get starts p)) (sym same)
      (set_same states w.place (acted w.act s) (slice_get_within states w.place s is) ∙ here s is)
  each_set s is place (inr other) = set_other states w.place place (acted w.act s) other ∙ elsewhere place other

  each_same : slice_get states w.place ≡ None → (place : ℕ) → (place ≡ w.place) ⊎ (place ≢ w.place) → slice_get states place ≡ option_map (λ start. state_after start (acts_at place (w ∷ history))) (slice_get starts place)
  each_same is place (inl same) =
      subst (λ p. slice_get states p ≡ option_map (λ start. state_after start (acts_at p (w ∷ history))) (slice_get starts p)) (sym same)
      (is ∙ no_start (λ start. state_after start (acts_at w.place history)) (λ start. state_after start (acts_at w.place (w ∷ history))) (slice_get starts w.place) (sym is ∙ stand.each w.place))
  each_same is place (inr other) = elsewhere place other

  -- the slots and the defaults after one write more
  pub put_next : (at : Option Slots) → slice_get states w.place ≡ at → IsStateAfter starts (w ∷ history) (put_at w.place (option_map (acted w.act) at) states)
  put_next None is = record { count = stand.count; each = λ place. each_same is place (cases_eq place w.place) }
  put_next (Some s) is = record { count = length-set states w.place (acted w.act s) ∙ stand.count; each = λ place. each_set s is place (cases_eq place w.place) }

-- without any write, each value object has its default and empty slots
pub start_states : {A : Type 0} (default : A → PropertyValue) (objects : List A) → IsStateAfter (map default objects) [] (map (λ object. no_command (default object)) objects)
start_states {A = A} default objects = record {
  count = length-map objects (λ object. no_command (default object)) ∙ sym (length-map objects default);
  each = λ place. slice_get-map (λ object. no_command (default object)) objects place ∙ composed (slice_get objects place) ∙ ap (option_map (λ start. state_after start [])) (sym (slice_get-map default objects place));
}
  where
    composed : (o : Option A) → option_map (λ object. no_command (default object)) o ≡ option_map (λ start. state_after start []) (option_map default o)
    composed None = refl
    composed (Some object) = refl
