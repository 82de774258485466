-- What is known of the text that is left and of what was written.
use Rattle.std.proofs.Common.{◌≡◌, ℕ, List, [], ◌++◌, Option, Some, None, refl, sym, ap, subst, ◌∙◌}
use Rattle.std.specs.Prelude.{IfSome, IsSomeAnd}
use Rattle.std.specs.Io.KnownBytes.{Appends, Keeps, prepend_known}

-- text that is known stays known: what the reader has left follows what is held
pub record Left (held text : List ℕ) (known : Option (List ℕ)) : Type 0 where
  pub rest : List ℕ
  pub is : known ≡ Some rest
  pub text_is : text ≡ held ++ rest

pub left_known : (old new : Option (List ℕ)) (before held text : List ℕ) → Keeps (prepend_known before old) (prepend_known held new)
    → prepend_known before old ≡ Some text → Left held text new
left_known None new before held text keeps e = absurd cc
left_known (Some xs) None before held text keeps e = absurd keeps
left_known (Some xs) (Some ys) before held text keeps e =
    let whole : before ++ xs ≡ text = cc in
    record { rest = ys; is = refl; text_is = sym whole ∙ sym keeps }

pub if_known : (P : List ℕ → Type 0) (known : Option (List ℕ)) (rest : List ℕ) → known ≡ Some rest → IfSome known P → P rest
if_known P None rest e h = absurd cc
if_known P (Some xs) rest e h =
    let same : xs ≡ rest = cc in
    subst P same h

pub appended : (a b : Option (List ℕ)) (before more : List ℕ) → a ≡ Some before → Appends a b more → b ≡ Some (before ++ more)
appended None b before more e h = absurd cc
appended (Some xs) None before more e h = absurd h
appended (Some xs) (Some ys) before more e h =
    let same : xs ≡ before = cc in
    ap Some (h ∙ ap (λ (t : List ℕ). t ++ more) same)

pub nothing_held : (held : List ℕ) (known : Option (List ℕ)) (script : List ℕ) → held ≡ [] → known ≡ Some script
    → prepend_known held known ≡ Some script
nothing_held held known script none e = ap (λ (h : List ℕ). prepend_known h known) none ∙ ap (prepend_known []) e

-- what holds of octets holds where they are known
pub holds_known : (P : List ℕ → Type 0) (known : Option (List ℕ)) (text : List ℕ) → known ≡ Some text → P text → IsSomeAnd known P
holds_known P None text e h = absurd cc
holds_known P (Some xs) text e h =
    let same : text ≡ xs = cc in
    subst P same h
