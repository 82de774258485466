-- Two values are the same exactly if they are equal.
use Rattle.std.proofs.Common.{◌≡◌, ◌∙◌, refl, sym, ap, Bool, true, false, not, if◌then◌else◌}
use Rattle.std.proofs.lemmas.Bool.{eqb-true}
use Rattle.std.proofs.lemmas.Bool.Decides.{Decides-int_eq}
use Rattle.std.proofs.lemmas.Cmp.{int_eq_equiv, nat_eq_equiv, nat_list_eq_equiv}
use Rattle.std.specs.Cmp.Lexicographic.{same_text}
use Rattle.gw_objects.specs.declared.value.PropertyValue.{PropertyValue}
use Rattle.gw_objects.specs.declared.value.PropertyValue.TheVariants.{Binary, State, Text, Integer, PositiveInteger}
use Rattle.gw_objects.specs.Values.{SameValuesAreEqual, same_value}

as_itself : (value : PropertyValue) → same_value value value ≡ true
as_itself (Binary true) = refl
as_itself (Binary false) = refl
as_itself (State n) = nat_eq_equiv.refl n
as_itself (Text octets) = nat_list_eq_equiv.refl octets
as_itself (Integer z) = int_eq_equiv.refl z
as_itself (PositiveInteger n) = nat_eq_equiv.refl n

one_state : (a b : Bool) → (if a then b else not b) ≡ true → a ≡ b
one_state true true e = refl
one_state true false e = absurd cc
one_state false true e = absurd cc
one_state false false e = refl

equal : (a b : PropertyValue) → same_value a b ≡ true → a ≡ b
equal (Binary a) (Binary b) e = ap Binary (one_state a b e)
equal (Binary a) (State b) e = absurd cc
equal (Binary a) (Text b) e = absurd cc
equal (Binary a) (Integer b) e = absurd cc
equal (Binary a) (PositiveInteger b) e = absurd cc
equal (State a) (Binary b) e = absurd cc
equal (State a) (State b) e = ap State (eqb-true a b e)
equal (State a) (Text b) e = absurd cc
equal (State a) (Integer b) e = absurd cc
equal (State a) (PositiveInteger b) e = absurd cc
equal (Text a) (Binary b) e = absurd cc
equal (Text a) (State b) e = absurd cc
equal (Text a) (Text b) e = ap Text (same_text a b (sym e))
equal (Text a) (Integer b) e = absurd cc
equal (Text a) (PositiveInteger b) e = absurd cc
equal (Integer a) (Binary b) e = absurd cc
equal (Integer a) (State b) e = absurd cc
equal (Integer a) (Text b) e = absurd cc
equal (Integer a) (Integer b) e = ap Integer ((Decides-int_eq a b).0 e)
equal (Integer a) (PositiveInteger b) e = absurd cc
equal (PositiveInteger a) (Binary b) e = absurd cc
equal (PositiveInteger a) (State b) e = absurd cc
equal (PositiveInteger a) (Text b) e = absurd cc
equal (PositiveInteger a) (Integer b) e = absurd cc
equal (PositiveInteger a) (PositiveInteger b) e = ap PositiveInteger (eqb-true a b e)

pub same_values_are_equal : SameValuesAreEqual
same_values_are_equal a b = (equal a b, λ e. ap (same_value a) (sym e) ∙ as_itself a)
