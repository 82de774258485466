-- Operations by their names.
use Rattle.std.proofs.Common.{◌≡◌, ◌≢◌, ℕ, Bool, Bor, eqb, true, false, cond, List, [], ◌∷◌, Option, Some, None, ◌↔◌, refl, sym, ap, ◌∙◌, nat_eq}
use Rattle.std.specs.Prelude.{MatchOption}
use Rattle.std.specs.List.{find}
use Rattle.std.specs.Option.{option_map}
use Rattle.std.proofs.lemmas.Bool.{eq-eqb, eqb-true}
use Rattle.std.specs.Cmp.Lexicographic.{pointwise, same_text}
use Rattle.gw_rules.specs.declared.operation.Operation.{Operation}
use Rattle.gw_rules.specs.declared.operation.Operation.TheVariants.{Cast, Route, Register, Delete, ReadTable, WriteTable, Learn, Network, Read, Write, List as Listing, Enter, Claim}
use Rattle.gw_rules.specs.declared.operation.TheConstants.Operation.{ALL}
use Rattle.gw_rules.specs.Operation.{operation_name}
use Rattle.gw_policy_text.specs.keys.Items.{name_after_at}
use Rattle.gw_policy_text.specs.keys.Value.{operation_named}

-- what a search finds passes its test
found_passes : {X : Type 0} (test : X → Bool) (xs : List X) (x : X) → find test xs ≡ Some x → test x ≡ true
found_passes test [] x e = absurd cc
found_passes test (y ∷ ys) x e = on (found_passes test ys x) (test y) refl e
  where
    on : (find test ys ≡ Some x → test x ≡ true) → (b : Bool) → test y ≡ b → cond b (Some y) (find test ys) ≡ Some x → test x ≡ true
    on later true t h = let same : y ≡ x = cc in ap test (sym same) ∙ t
    on later false t h = later h

by_own_name : (o : Operation) → operation_named (operation_name o) ≡ Some o
by_own_name Cast = refl
by_own_name Route = refl
by_own_name Register = refl
by_own_name Delete = refl
by_own_name ReadTable = refl
by_own_name WriteTable = refl
by_own_name Learn = refl
by_own_name Network = refl
by_own_name Read = refl
by_own_name Write = refl
by_own_name Listing = refl
by_own_name Enter = refl
by_own_name Claim = refl

pub named_same : (text : List ℕ) (o : Option Operation) → ((x : Operation) → (o ≡ Some x) ↔ (text ≡ operation_name x)) → o ≡ operation_named text
named_same text o is = on o refl (operation_named text) refl
  where
    on : (r : Option Operation) → o ≡ r → (w : Option Operation) → operation_named text ≡ w → o ≡ operation_named text
    on (Some x) e w f = e ∙ sym (ap operation_named ((is x).0 e) ∙ by_own_name x)
    on None e None f = e ∙ sym f
    on None e (Some x) f =
        let passes = found_passes (λ operation. pointwise nat_eq (operation_name operation) text) ALL x f in
        (is x).1 (sym (same_text (operation_name x) text (sym passes))) ∙ sym f

-- the text after `@`, by what a search for it says
pub name_after_from : (text : List ℕ) (r : Option (Bor (List ℕ))) → MatchOption r ((rest : List ℕ) → text ≢ 64 ∷ rest) (λ x. text ≡ 64 ∷ x.now) → option_map (λ t. t.now) r ≡ name_after_at text
name_after_from [] None h = refl
name_after_from [] (Some x) h = absurd cc
name_after_from (c ∷ cs) None h = on (eqb c 64) refl
  where
    on : (b : Bool) → eqb c 64 ≡ b → None ≡ cond b (Some cs) None
    on true e = absurd (h cs (ap (λ n. n ∷ cs) (eqb-true c 64 e)))
    on false e = refl
name_after_from (c ∷ cs) (Some x) h =
    let first : c ≡ 64 = cc in
    let rest : cs ≡ x.now = cc in
    rw (eq-eqb c 64 first, rest) refl
