-- The act that the slot of a priority follows is the last at it.
use Rattle.std.proofs.Common.{◌≡◌, ◌⊎◌, inl, inr, ◌↔◌, ℕ, zero, suc, true, false, cond, List, [], ◌∷◌, Option, Some, None, arith, refl, sym, ap, subst, ◌∙◌}
use Rattle.std.specs.Prelude.{find}
use Rattle.std.specs.Option.{option_and_then, option_or}
use Rattle.std.proofs.lemmas.List.Folds.{find-append}
use Rattle.std.proofs.lemmas.Bool.{cases_Bool, eqb-true}
use Rattle.gw_tables.specs.priority.History.{Act, Command, Relinquish, SetDefault, is_at, value_of, slot_after, HasNoneAt, IsLastAt}

-- what a search gives whose test fails at the first act
passed : {A : Type 0} (act : Act A) (history : List (Act A)) (priority : ℕ) → is_at priority act ≡ false → find (is_at priority) (act ∷ history) ≡ find (is_at priority) history
passed act history priority fails = ap (λ b. cond b (Some act) (find (is_at priority) history)) fails

-- what a search gives whose test holds there
stopped : {A : Type 0} (act : Act A) (history : List (Act A)) (priority : ℕ) → is_at priority act ≡ true → find (is_at priority) (act ∷ history) ≡ Some act
stopped act history priority holds = ap (λ b. cond b (Some act) (find (is_at priority) history)) holds

none_more : {A : Type 0} (act : Act A) (history : List (Act A)) (priority : ℕ) → is_at priority act ≡ false → HasNoneAt priority history → HasNoneAt priority (act ∷ history)
none_more act history priority fails none zero d lt = fails
none_more act history priority fails none (suc k) d lt = none k d (omega arith)

none_found : {A : Type 0} (priority : ℕ) (history : List (Act A)) → HasNoneAt priority history → find (is_at priority) history ≡ None
none_found priority [] none = refl
none_found priority (act ∷ history) none =
    passed act history priority (none 0 act (omega arith)) ∙ none_found priority history (λ k d lt. none (suc k) d (omega arith))

-- what a search says of the history
abbrev Says : {A : Type 0} → ℕ → List (Act A) → Option (Act A) → Type 0
Says priority history None = HasNoneAt priority history
Says priority history (Some act) = IsLastAt priority history act

one_more : {A : Type 0} (act : Act A) (history : List (Act A)) (priority : ℕ) → is_at priority act ≡ false → (found : Option (Act A)) → Says priority history found → Says priority (act ∷ history) found
one_more act history priority fails None none = none_more act history priority fails none
one_more act history priority fails (Some last) is =
    record {
      newer = act ∷ is.newer;
      older = is.older;
      whole = ap (λ acts. act ∷ acts) is.whole;
      there = is.there;
      since = none_more act is.newer priority fails is.since;
    }

says_of : {A : Type 0} (priority : ℕ) (act : Act A) (history : List (Act A)) → Says priority history (find (is_at priority) history) → (is_at priority act ≡ true) ⊎ (is_at priority act ≡ false) → Says priority (act ∷ history) (find (is_at priority) (act ∷ history))
says_of {A = A} priority act history older (inl holds) =
    let P : Option (Act A) → Type 0 = Says priority (act ∷ history) in
    subst P (sym (stopped act history priority holds)) (record { newer = []; older = history; whole = refl; there = holds; since = λ k d lt. absurd (omega arith) })
says_of {A = A} priority act history older (inr fails) =
    let P : Option (Act A) → Type 0 = Says priority (act ∷ history) in
    subst P (sym (passed act history priority fails)) (one_more act history priority fails (find (is_at priority) history) older)

says : {A : Type 0} (priority : ℕ) (history : List (Act A)) → Says priority history (find (is_at priority) history)
says priority [] = λ k d lt. absurd (omega arith)
says priority (act ∷ history) = says_of priority act history (says priority history) (cases_Bool (is_at priority act))

found : {A : Type 0} (priority : ℕ) (history : List (Act A)) (act : Act A) → IsLastAt priority history act → find (is_at priority) history ≡ Some act
found priority history act is =
    ap (find (is_at priority)) is.whole
    ∙ find-append (is_at priority) is.newer (act ∷ is.older)
    ∙ ap (λ newest. option_or newest (find (is_at priority) (act ∷ is.older))) (none_found priority is.newer is.since)
    ∙ stopped act is.older priority is.there

of_value : {A : Type 0} (priority : ℕ) (history : List (Act A)) (value : A) (found : Option (Act A)) → Says priority history found → option_and_then value_of found ≡ Some value → IsLastAt priority history (Command priority value)
of_value priority history value None none e = absurd (cc)
of_value {A = A} priority history value (Some (Command at other)) is e =
    let P : Act A → Type 0 = IsLastAt priority history in
    let same : at ≡ priority = eqb-true at priority is.there in
    let held : other ≡ value = cc in
    subst P (ap (λ i. Command i other) same ∙ ap (Command priority) held) is
of_value priority history value (Some (Relinquish at)) is e = absurd (cc)
of_value priority history value (Some (SetDefault default)) is e = absurd (cc)

of_none : {A : Type 0} (priority : ℕ) (history : List (Act A)) (found : Option (Act A)) → Says priority history found → option_and_then value_of found ≡ None → IsLastAt priority history (Relinquish priority) ⊎ HasNoneAt priority history
of_none priority history None none e = inr none
of_none priority history (Some (Command at other)) is e = absurd (cc)
of_none {A = A} priority history (Some (Relinquish at)) is e =
    let P : Act A → Type 0 = IsLastAt priority history in
    let same : at ≡ priority = eqb-true at priority is.there in
    inl (subst P (ap Relinquish same) is)
of_none priority history (Some (SetDefault default)) is e = let never : false ≡ true = is.there in absurd (cc)

-- a slot holds the value of the last act at its priority, if that was a command
pub command_iff : {A : Type 0} (history : List (Act A)) (priority : ℕ) (value : A) → (slot_after history priority ≡ Some value) ↔ IsLastAt priority history (Command priority value)
command_iff history priority value =
    (λ e. of_value priority history value (find (is_at priority) history) (says priority history) e, λ is. ap (option_and_then value_of) (found priority history (Command priority value) is))

-- it is empty if that was a relinquish or there was none
pub empty_iff : {A : Type 0} (history : List (Act A)) (priority : ℕ) → (slot_after history priority ≡ None) ↔ (IsLastAt priority history (Relinquish priority) ⊎ HasNoneAt priority history)
empty_iff {A = A} history priority =
    (λ e. of_none priority history (find (is_at priority) history) (says priority history) e, back)
  where
    back : IsLastAt priority history (Relinquish priority) ⊎ HasNoneAt priority history → slot_after history priority ≡ None
    back (inl is) = ap (option_and_then value_of) (found priority history (Relinquish priority) is)
    back (inr none) = ap (option_and_then value_of) (none_found priority history none)
