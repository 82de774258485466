-- Operations by their names and their numbers.
use Rattle.std.proofs.Common.{◌≡◌, ℕ, ◌-◌, ◌==◌, Bool, true, false, cond, List, [], ◌∷◌, Option, Some, ◌↔◌, refl, sym, ◌∙◌, ap, nat_eq}
use Rattle.std.specs.List.{find, slice_get}
use Rattle.std.specs.Cmp.Lexicographic.{pointwise, same_text}
use Rattle.std.proofs.lemmas.Bool.{eqb-true}
use Rattle.gw_rules.specs.declared.operation.Operation.{Operation}
use Rattle.gw_rules.specs.declared.operation.Operation.TheVariants.{Cast, Route, Register, Delete, ReadTable, WriteTable, Learn, Network, Read, Write, List as Listing, Enter, Claim}
use Rattle.gw_rules.specs.declared.operation.TheConstants.Operation.{ALL}
use Rattle.gw_rules.specs.Operation.{operation_name, operation_number}

-- what a search finds passes its test
found_head : {X : Type 0} (test : X → Bool) (y x : X) (rest : Option X) → (rest ≡ Some x → test x ≡ true) → (b : Bool) → test y ≡ b → cond b (Some y) rest ≡ Some x → test x ≡ true
found_head test y x rest later true t e = let same : y ≡ x = cc in ap test (sym same) ∙ t
found_head test y x rest later false t e = later e

found_passes : {X : Type 0} (test : X → Bool) (xs : List X) (x : X) → find test xs ≡ Some x → test x ≡ true
found_passes test [] x e = absurd (cc)
found_passes test (y ∷ ys) x e = found_head test y x (find test ys) (found_passes test ys x) (test y) refl e

-- the operation of a name
abbrev pub by_name : List ℕ → Option Operation
by_name text = find (λ o. pointwise nat_eq (operation_name o) text) ALL

-- the operation of a number
abbrev pub by_number : ℕ → Option Operation
by_number number = find (λ o. operation_number o == number) ALL

name_is_found : (o : Operation) → by_name (operation_name o) ≡ Some o
name_is_found o = elim o as (λ o. by_name (operation_name o) ≡ Some o) [ Cast ↦ refl | Route ↦ refl | Register ↦ refl | Delete ↦ refl | ReadTable ↦ refl | WriteTable ↦ refl | Learn ↦ refl | Network ↦ refl | Read ↦ refl | Write ↦ refl | Listing ↦ refl | Enter ↦ refl | Claim ↦ refl ]

number_is_found : (o : Operation) → by_number (operation_number o) ≡ Some o
number_is_found o = elim o as (λ o. by_number (operation_number o) ≡ Some o) [ Cast ↦ refl | Route ↦ refl | Register ↦ refl | Delete ↦ refl | ReadTable ↦ refl | WriteTable ↦ refl | Learn ↦ refl | Network ↦ refl | Read ↦ refl | Write ↦ refl | Listing ↦ refl | Enter ↦ refl | Claim ↦ refl ]

-- a name is found exactly if it is an operation's
pub name_found : (found : Option Operation) (text : List ℕ) → found ≡ by_name text → (o : Operation) → (found ≡ Some o) ↔ (text ≡ operation_name o)
name_found found text is o = (
  λ e. sym (same_text (operation_name o) text (sym (found_passes (λ p. pointwise nat_eq (operation_name p) text) ALL o (sym is ∙ e)))),
  λ e. is ∙ ap by_name e ∙ name_is_found o,
)

-- and a number
pub number_found : (found : Option Operation) (number : ℕ) → found ≡ by_number number → (o : Operation) → (found ≡ Some o) ↔ (number ≡ operation_number o)
number_found found number is o = (
  λ e. sym (eqb-true (operation_number o) number (found_passes (λ p. operation_number p == number) ALL o (sym is ∙ e))),
  λ e. is ∙ ap by_number e ∙ number_is_found o,
)

-- no two operations share a name
pub one_name : (a b : Operation) → operation_name a ≡ operation_name b → a ≡ b
one_name a b e = let same : Some a ≡ Some b = sym (name_is_found a) ∙ ap by_name e ∙ name_is_found b in cc

-- nor a number
pub one_number : (a b : Operation) → operation_number a ≡ operation_number b → a ≡ b
one_number a b e = let same : Some a ≡ Some b = sym (number_is_found a) ∙ ap by_number e ∙ number_is_found b in cc

-- each is at its place in the list of all
pub operation_places : (o : Operation) → slice_get ALL (operation_number o - 1) ≡ Some o
operation_places o = elim o as (λ o. slice_get ALL (operation_number o - 1) ≡ Some o) [ Cast ↦ refl | Route ↦ refl | Register ↦ refl | Delete ↦ refl | ReadTable ↦ refl | WriteTable ↦ refl | Learn ↦ refl | Network ↦ refl | Read ↦ refl | Write ↦ refl | Listing ↦ refl | Enter ↦ refl | Claim ↦ refl ]
