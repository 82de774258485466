-- The numbers by which rules know operations and addresses.
use Rattle.std.proofs.Common.{◌≡◌, ◌∙◌, ℕ, Bool, true, false, cond, List, [], ◌∷◌, Option, Some, None, ap, sym, refl, arith, nat_eq, nat_le}
use Rattle.std.specs.Prelude.{IfSome}
use Rattle.std.specs.Cmp.Lexicographic.{pointwise}
use Rattle.std.specs.List.{find, list_all}
use Rattle.std.specs.Option.{option_map}
use Rattle.std.proofs.lemmas.Bool.{and_from, and_parts, le-leb}
use Rattle.gw_addr.specs.declared.bip.BipAddr.{BipAddr}
use Rattle.gw_addr.specs.Address.{IsAddress, big_endian, octets_of}
use Rattle.gw_addr.proofs.Addresses.{keys_below}
use Rattle.gw_rules.specs.declared.field.FieldName.TheVariants as fields
use Rattle.gw_rules.specs.declared.format.Format.TheVariants as formats
use Rattle.gw_codecs.specs.names.Names.{number_in}
use Rattle.gw_codecs.specs.names.Tables.{object_types, properties, services}
use Rattle.gw_rules.specs.Bounds.{bounds, is_within}
use Rattle.gw_configuration.specs.declared.shape.Names.{Names}
use Rattle.gw_configuration.specs.declared.shape.Names.TheVariants.{Services, ObjectTypes, Properties}
use Rattle.gw_configuration.specs.declared.shape.Scalar.TheVariants.{Named}
use Rattle.gw_policy_text.specs.keys.Items.{number_of, only}
use Rattle.gw_policy_text.specs.keys.Range.{bounds_of}
use Rattle.gw_rules.specs.Range.{holds}

pub key_held : (address : BipAddr) → IsAddress address → holds (big_endian (octets_of address)) (bounds formats.One fields.SourceKey) ≡ true
key_held address is =
    let key = big_endian (octets_of address) in
    and_from (nat_le 0 key) (nat_le key 281474976710655) (le-leb 0 key (omega arith)) (le-leb key 281474976710655 (omega (arith, keys_below address is)))

-- each row's number is at most so many
all_below : (most : ℕ) (table : List (ℕ × List ℕ)) → list_all (λ row. nat_le row.0 most) table ≡ true → (name : List ℕ) (number : ℕ) → number_in table name ≡ Some number → nat_le number most ≡ true
all_below most [] all name number e = absurd cc
all_below most (row ∷ table) all name number e =
    let parts = and_parts (nat_le row.0 most) (list_all (λ r. nat_le r.0 most) table) all in
    on (pointwise nat_eq row.1 name) parts.0 (all_below most table parts.1 name number) e
  where
    on : (b : Bool) → nat_le row.0 most ≡ true → (number_in table name ≡ Some number → nat_le number most ≡ true) → option_map (λ r. r.0) (cond b (Some row) (find (λ r. pointwise nat_eq r.1 name) table)) ≡ Some number → nat_le number most ≡ true
    on true here later h = let same : row.0 ≡ number = cc in ap (λ n. nat_le n most) (sym same) ∙ here
    on false here later h = later h

services_below : list_all (λ row. nat_le row.0 1031) services ≡ true
unfolding services
services_below = refl

types_below : list_all (λ row. nat_le row.0 1023) object_types ≡ true
unfolding object_types
types_below = refl

properties_below : list_all (λ row. nat_le row.0 4194303) properties ≡ true
unfolding properties
properties_below = refl

within : (most number : ℕ) → nat_le number most ≡ true → is_within (record { low = 0; high = most }) (only number) ≡ true
within most number e = and_from (nat_le 0 number) (nat_le number most) (le-leb 0 number (omega arith)) e

pub number_within : (names : Names) (name : List ℕ) (number : ℕ) → number_of names name ≡ Some number → is_within (bounds_of (Named names)) (only number) ≡ true
number_within Services name number e = within 1031 number (all_below 1031 services services_below name number e)
number_within ObjectTypes name number e = within 1023 number (all_below 1023 object_types types_below name number e)
number_within Properties name number e = within 4194303 number (all_below 4194303 properties properties_below name number e)

pub held : (names : Names) (name : List ℕ) (r : Option ℕ) → r ≡ number_of names name → IfSome r (λ n. is_within (bounds_of (Named names)) (only n) ≡ true)
held names name None e = tt
held names name (Some n) e = number_within names name n (sym e)
