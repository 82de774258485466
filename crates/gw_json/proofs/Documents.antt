-- A reader of JSON reads the line of a value whose numbers are below 2^64, and which isn't deep, as that value.
use Rattle.std.proofs.Common.{◌≡◌, ℕ, suc, ◌^◌, ◌<◌, ◌≤◌, Bool, true, false, List, [], ◌∷◌, map, Option, Some, None, decimal, refl, sym, subst, arith}
use Rattle.std.specs.Prelude.{⊤, if◌then◌else◌}
use Rattle.std.specs.Option.{option_map_or}
use Rattle.std.specs.List.{flat_map}
use Rattle.json.specs.Json.{Json, null, boolean, number, string, array, object, Items, no_items, item, Members, no_members, member}
use Rattle.json.specs.Print.{print}
use Rattle.json.specs.Tree.{json_tokens, items_tokens, members_tokens, depth, items_depth, members_depth, HasNumbers, ItemsHaveNumbers, MembersHaveNumbers}
use Rattle.json.proofs.Printed.Decimals.{IsNumber-decimal}
use Rattle.json.proofs.Printed.Trees.{document-print}
use Rattle.gw_json.specs.Document.{items_of}
use Rattle.gw_json.specs.Laws.{IsRead}
use Rattle.gw_json.proofs.Plain.{Each, IsPlain, IsPlainToken, all_plain, decimal_plain, each_append, print_plain}

-- each number is a decimal below 2^64
abbrev mutual
  pub AreDecimals : Json → Type 0
  AreDecimals null = ⊤
  AreDecimals (boolean b) = ⊤
  AreDecimals (number s) = (n : ℕ) × (s ≡ decimal n) × (n < 2 ^ 64)
  AreDecimals (string s) = ⊤
  AreDecimals (array js) = ItemsAreDecimals js
  AreDecimals (object ms) = MembersAreDecimals ms

  pub ItemsAreDecimals : Items → Type 0
  ItemsAreDecimals no_items = ⊤
  ItemsAreDecimals (item j js) = AreDecimals j × ItemsAreDecimals js

  pub MembersAreDecimals : Members → Type 0
  MembersAreDecimals no_members = ⊤
  MembersAreDecimals (member k j ms) = AreDecimals j × MembersAreDecimals ms

mutual
  numbers_are : (j : Json) → AreDecimals j → HasNumbers j
  numbers_are null is = tt
  numbers_are (boolean b) is = tt
  numbers_are (number s) is = subst (λ (t : List ℕ). HasNumbers (number t)) (sym is.1) (IsNumber-decimal is.0 is.2)
  numbers_are (string s) is = tt
  numbers_are (array js) is = items_numbers js is
  numbers_are (object ms) is = members_numbers ms is

  items_numbers : (js : Items) → ItemsAreDecimals js → ItemsHaveNumbers js
  items_numbers no_items are = tt
  items_numbers (item j js) are = (numbers_are j are.0, items_numbers js are.1)

  members_numbers : (ms : Members) → MembersAreDecimals ms → MembersHaveNumbers ms
  members_numbers no_members are = tt
  members_numbers (member k j ms) are = (numbers_are j are.0, members_numbers ms are.1)

mutual
  tokens_plain : (j : Json) → AreDecimals j → Each IsPlainToken (json_tokens j)
  tokens_plain null is = (tt, tt)
  tokens_plain (boolean b) is = (tt, tt)
  tokens_plain (number s) is = (subst IsPlain (sym is.1) (decimal_plain is.0 is.2), tt)
  tokens_plain (string s) is = (tt, tt)
  tokens_plain (array js) is = (tt, items_plain js is)
  tokens_plain (object ms) is = (tt, members_plain ms is)

  items_plain : (js : Items) → ItemsAreDecimals js → Each IsPlainToken (items_tokens js)
  items_plain no_items are = (tt, tt)
  items_plain (item j js) are = each_append IsPlainToken (json_tokens j) (items_tokens js) (tokens_plain j are.0) (items_plain js are.1)

  members_plain : (ms : Members) → MembersAreDecimals ms → Each IsPlainToken (members_tokens ms)
  members_plain no_members are = (tt, tt)
  members_plain (member k j ms) are = (tt, each_append IsPlainToken (json_tokens j) (members_tokens ms) (tokens_plain j are.0) (members_plain ms are.1))

-- ---- arrays

-- a value of decimals that nests at most so deep
pub record IsShallow (most : ℕ) (j : Json) : Type 0 where
  pub decimals : AreDecimals j
  pub shallow : depth j ≤ most

pub record AreShallow (most : ℕ) (ms : Members) : Type 0 where
  pub decimals : MembersAreDecimals ms
  pub shallow : members_depth ms ≤ most

items_decimals : (most : ℕ) (js : List Json) → Each (IsShallow most) js → ItemsAreDecimals (items_of js)
items_decimals most [] are = tt
items_decimals most (j ∷ js) are = (are.0.decimals, items_decimals most js are.1)

items_shallow : (most : ℕ) (js : List Json) → Each (IsShallow most) js → items_depth (items_of js) ≤ most
items_shallow most [] are = omega arith
items_shallow most (j ∷ js) are = omega (arith, are.0.shallow, items_shallow most js are.1)

each_flat : {A B : Type 0} (P : B → Type 0) (f : A → List B) (xs : List A) → ((x : A) → Each P (f x)) → Each P (flat_map f xs)
each_flat P f [] each = tt
each_flat P f (x ∷ xs) each = each_append P (f x) (flat_map f xs) (each x) (each_flat P f xs each)

each_mapped : {A : Type 0} (most : ℕ) (f : A → Json) (xs : List A) → ((x : A) → IsShallow most (f x)) → Each (IsShallow most) (map f xs)
each_mapped most f [] each = tt
each_mapped most f (x ∷ xs) each = (each x, each_mapped most f xs each)

pub items_array : (most : ℕ) (js : List Json) → Each (IsShallow most) js → IsShallow (suc most) (array (items_of js))
items_array most js items = record { decimals = items_decimals most js items; shallow = omega (arith, items_shallow most js items) }

pub array_shallow : {A : Type 0} (most : ℕ) (f : A → List Json) (xs : List A) → ((x : A) → Each (IsShallow most) (f x)) → IsShallow (suc most) (array (items_of (flat_map f xs)))
array_shallow most f xs each = items_array most (flat_map f xs) (each_flat (IsShallow most) f xs each)

pub mapped_shallow : {A : Type 0} (most : ℕ) (f : A → Json) (xs : List A) → ((x : A) → IsShallow most (f x)) → IsShallow (suc most) (array (items_of (map f xs)))
mapped_shallow most f xs each = items_array most (map f xs) (each_mapped most f xs each)

pub wider : (least most : ℕ) (j : Json) → least ≤ most → IsShallow least j → IsShallow most j
wider least most j less one = record { decimals = one.decimals; shallow = omega (arith, less, one.shallow) }

pub member_shallow : (most : ℕ) (k : List ℕ) (j : Json) (ms : Members) → IsShallow most j → AreShallow most ms → AreShallow most (member k j ms)
member_shallow most k j ms one others =
    record { decimals = (one.decimals, others.decimals); shallow = omega (arith, one.shallow, others.shallow) }

pub none_shallow : (most : ℕ) → AreShallow most no_members
none_shallow most = record { decimals = tt; shallow = omega arith }

pub object_shallow : (most : ℕ) (ms : Members) → AreShallow most ms → IsShallow (suc most) (object ms)
object_shallow most ms are = record { decimals = are.decimals; shallow = omega (arith, are.shallow) }

pub number_shallow : (most n : ℕ) → n < 2 ^ 64 → IsShallow most (number (decimal n))
number_shallow most n fits = record { decimals = (n, refl, fits); shallow = omega arith }

pub string_shallow : (most : ℕ) (text : List ℕ) → IsShallow most (string text)
string_shallow most text = record { decimals = tt; shallow = omega arith }

pub boolean_shallow : (most : ℕ) (truth : Bool) → IsShallow most (boolean truth)
boolean_shallow most truth = record { decimals = tt; shallow = omega arith }

pub null_shallow : (most : ℕ) → IsShallow most null
null_shallow most = record { decimals = tt; shallow = omega arith }

pub chosen_shallow : (most : ℕ) (b : Bool) (x y : Json) → IsShallow most x → IsShallow most y → IsShallow most (if b then x else y)
chosen_shallow most true x y one other = one
chosen_shallow most false x y one other = other

pub or_shallow : {A : Type 0} (most : ℕ) (f : A → Json) (o : Option A) (d : Json) → ((a : A) → IsShallow most (f a)) → IsShallow most d → IsShallow most (option_map_or f o d)
or_shallow most f None d some none = none
or_shallow most f (Some a) d some none = some a

-- ---- a line

pub line_read : (most : ℕ) (j : Json) → most ≤ 128 → IsShallow most j → IsRead j
line_read most j few is = record {
  text = print (json_tokens j);
  ends = refl;
  plain = all_plain (print (json_tokens j)) (print_plain false (json_tokens j) (tokens_plain j is.decimals));
  reads = document-print j (numbers_are j is.decimals) (omega (arith, few, is.shallow));
}
