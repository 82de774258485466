-- How the lines of assertions come one after the other.
use Rattle.std.proofs.Common.{◌≡◌, ◌∙◌, ℕ, ◌+◌, ◌<◌, List, [], ◌∷◌, ◌++◌, add-one, ap, append_assoc, drop, drop-cons, get_or, length, refl, subst, sym}
use Rattle.std.proofs.lemmas.List.{append-nil}
use Rattle.gw_configuration.specs.declared.assertion.Assertion.{Assertion}
use Rattle.gw_tools.specs.Asserting.{AreFateTexts, IsFateText, TellsFates}

-- So far lines were appended of the assertions before a place: with those of the others they are the lines of all.
pub record Tells (old new : List Assertion) (place : ℕ) (before now : List ℕ) : Type 0 where
  pub text : List ℕ
  pub appended : now ≡ before ++ text
  pub all : (rest : List ℕ) → AreFateTexts old (drop place new) rest → AreFateTexts old new (text ++ rest)

pub tells_none : (old new : List Assertion) (out : List ℕ) → Tells old new 0 out out
tells_none old new out = record {
  text = [];
  appended = sym (append-nil out);
  all = λ rest are. are;
}

-- the assertion at a place, and the others
at_place : (new : List Assertion) (place : ℕ) (d : Assertion) → place < length new
    → drop place new ≡ get_or new place d ∷ drop (place + 1) new
at_place new place d within =
    drop-cons new place d within ∙ ap (λ (n : ℕ). get_or new place d ∷ drop n new) (sym (add-one place))

pub tells_more : (old new : List Assertion) (place : ℕ) (d : Assertion) (before mid now : List ℕ) → place < length new
    → Tells old new place before mid → TellsFates (IsFateText old (get_or new place d)) mid now → Tells old new (place + 1) before now
tells_more old new place d before mid now within tells one = record {
  text = tells.text ++ one.0;
  appended = one.2 ∙ ap (λ (t : List ℕ). t ++ one.0) tells.appended ∙ append_assoc before tells.text one.0;
  all = λ rest are.
      subst (λ (t : List ℕ). AreFateTexts old new t) (sym (append_assoc tells.text one.0 rest))
      (tells.all (one.0 ++ rest) (subst (λ (xs : List Assertion). AreFateTexts old xs (one.0 ++ rest)) (sym (at_place new place d within))
      (one.0, rest, one.1, are, refl)));
}

pub tells_all : (old new : List Assertion) (place : ℕ) (before now : List ℕ) → drop place new ≡ [] → Tells old new place before now
    → TellsFates (AreFateTexts old new) before now
tells_all old new place before now ends tells = (
  tells.text,
  subst (λ (t : List ℕ). AreFateTexts old new t) (append-nil tells.text)
      (tells.all [] (subst (λ (xs : List Assertion). AreFateTexts old xs []) (sym ends) refl)),
  tells.appended,
)

-- what was appended to nothing is the whole text
pub told_alone : (Is : List ℕ → Type 0) (before text : List ℕ) → before ≡ [] → TellsFates Is before text → Is text
told_alone Is before text empty tells = subst Is (sym (tells.2 ∙ ap (λ (t : List ℕ). t ++ tells.0) empty)) tells.1
