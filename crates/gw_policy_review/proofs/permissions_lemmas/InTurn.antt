-- How the texts of items come one after the other, each made with steps of those that are left.
use Rattle.std.proofs.Common.{◌≡◌, ◌∙◌, ℕ, ◌+◌, ◌<◌, List, [], ◌∷◌, ◌++◌, add-one, ap, append_assoc, drop, drop-cons, get_or, length, refl, subst, sym}
use Rattle.std.proofs.lemmas.List.{append-nil}
use Rattle.gw_policy_review.specs.permissions.Texts.{Appends, AreInTurn}

-- So far the texts of the items before a place were appended, and so many steps are left: with those of the others they are the
-- texts of all.
pub record Turned {A : Type 0} (Is : ℕ → A → (left rest : ℕ) → List ℕ → Type 0) (items : List A) (place left now : ℕ) (old new : List ℕ) : Type 0 where
  pub text : List ℕ
  pub appended : new ≡ old ++ text
  pub all : (rest : ℕ) (others : List ℕ) → AreInTurn Is (place + 1) (drop place items) now rest others → AreInTurn Is 1 items left rest (text ++ others)

pub turned_none : {A : Type 0} (Is : ℕ → A → (left rest : ℕ) → List ℕ → Type 0) (items : List A) (left : ℕ) (out : List ℕ) → Turned Is items 0 left left out out
turned_none Is items left out = record {
  text = [];
  appended = sym (append-nil out);
  all = λ rest others are. are;
}

-- the item at a place, and the others
at_place : {A : Type 0} (items : List A) (place : ℕ) (d : A) → place < length items
    → drop place items ≡ get_or items place d ∷ drop (place + 1) items
at_place items place d within =
    drop-cons items place d within ∙ ap (λ (n : ℕ). get_or items place d ∷ drop n items) (sym (add-one place))

pub turned_more : {A : Type 0} (Is : ℕ → A → (left rest : ℕ) → List ℕ → Type 0) (items : List A) (place : ℕ) (d : A) (left now after : ℕ)
    (old mid new : List ℕ) → place < length items → Turned Is items place left now old mid
    → Appends (Is (place + 1) (get_or items place d) now after) mid new → Turned Is items (place + 1) left after old new
turned_more {A = A} Is items place d left now after old mid new within so_far one = record {
  text = so_far.text ++ one.0;
  appended = one.2 ∙ ap (λ (t : List ℕ). t ++ one.0) so_far.appended ∙ append_assoc old so_far.text one.0;
  all = λ rest others are.
      subst (λ (t : List ℕ). AreInTurn Is 1 items left rest t) (sym (append_assoc so_far.text one.0 others))
      (so_far.all rest (one.0 ++ others)
      (subst (λ (xs : List A). AreInTurn Is (place + 1) xs now rest (one.0 ++ others)) (sym (at_place items place d within))
      (after, one.0, others, one.1, are, refl)));
}

pub turned_all : {A : Type 0} (Is : ℕ → A → (left rest : ℕ) → List ℕ → Type 0) (items : List A) (place left now : ℕ) (old new : List ℕ)
    → drop place items ≡ [] → Turned Is items place left now old new → Appends (AreInTurn Is 1 items left now) old new
turned_all {A = A} Is items place left now old new ends so_far = (
  so_far.text,
  subst (λ (t : List ℕ). AreInTurn Is 1 items left now t) (append-nil so_far.text)
      (so_far.all now [] (subst (λ (xs : List A). AreInTurn Is (place + 1) xs now now []) (sym ends) (refl, refl))),
  so_far.appended,
)
