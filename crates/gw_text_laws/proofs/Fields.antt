-- A field that may be missing, and is, changes nothing of the fault of a table.
use Rattle.std.proofs.Common.{◌≡◌, ◌||◌, ◌++◌, ◌∷◌, ◌∙◌, [], ℕ, Bool, true, false, List, Option, Some, None, Ordering, Less, Equal, Greater, ap, cond, if◌then◌else◌, refl, sym, is_eq, nat_cmp, nat_eq}
use Rattle.std.specs.Prelude.{is_some}
use Rattle.std.specs.Option.{option_map}
use Rattle.std.specs.List.{find}
use Rattle.std.specs.Ordering.{match_ordering}
use Rattle.std.specs.Cmp.Lexicographic.{pointwise, slice_cmp}
use Rattle.std.proofs.lemmas.Map.Text.{is_eq-slice_cmp}
use Rattle.toml.specs.Data.{Data, Members, no_members, member, get_member}
use Rattle.gw_configuration.specs.declared.fault.ConfigFault.{ConfigFault}
use Rattle.gw_configuration.specs.declared.fault.ConfigFault.TheVariants as faults
use Rattle.gw_configuration.specs.declared.located.Place.{Place}
use Rattle.gw_configuration.specs.declared.shape.Shape.{Shape}
use Rattle.gw_configuration.specs.Located.{Located, at_key}
use Rattle.gw_policy_text.specs.keys.Field.{Field, at_field, fault_of, fault_where, field_fault, field_with, has, is_key, is_this, located_as, located_beside, stranger}
use Rattle.gw_policy_text.specs.keys.Range.{is_kind, is_missing, is_range, is_too_many}
use Rattle.gw_policy_text.specs.keys.Tables as now

-- ---- a field that may be missing, and is

pub or_parts : (a b : Bool) → (a || b) ≡ false → (a ≡ false) × (b ≡ false)
or_parts true b e = absurd cc
or_parts false b e = (refl, e)

pub none_from : (o : Option Data) → is_some o ≡ false → o ≡ None
none_from None e = refl
none_from (Some d) e = absurd cc

-- a key that isn't there is neither the first one nor among the others
absent : (key k : List ℕ) (v : Data) (ms : Members) → get_member key (member k v ms) ≡ None → (pointwise nat_eq key k ≡ false) × (get_member key ms ≡ None)
absent key k v ms h = on (slice_cmp nat_cmp key k) (is_eq-slice_cmp key k) h
  where
    on : (o : Ordering) → is_eq o ≡ pointwise nat_eq key k → match_ordering o (get_member key ms) (Some v) (get_member key ms) ≡ None → (pointwise nat_eq key k ≡ false) × (get_member key ms ≡ None)
    on Less e h = (sym e, h)
    on Equal e h = absurd cc
    on Greater e h = (sym e, h)

key_more : (fields rest : List Field) (field : Field) (key : List ℕ) → pointwise nat_eq field.key key ≡ false → is_key (fields ++ field ∷ rest) key ≡ is_key (fields ++ rest) key
key_more [] rest field key e = rw e refl
key_more (first ∷ fields) rest field key e = ap (λ (b : Bool). pointwise nat_eq first.key key || b) (key_more fields rest field key e)

stranger_more : (fields rest : List Field) (field : Field) (table : Members) → get_member field.key table ≡ None → stranger (fields ++ field ∷ rest) table ≡ stranger (fields ++ rest) table
stranger_more fields rest field no_members h = refl
stranger_more fields rest field (member k v ms) h =
    let parts = absent field.key k v ms h in
    ap (λ (b : Bool). if b then stranger (fields ++ field ∷ rest) ms else Some k) (key_more fields rest field k parts.0)
    ∙ ap (λ (s : Option (List ℕ)). if is_key (fields ++ rest) k then s else Some k) (stranger_more fields rest field ms parts.1)

has_more : (sets : List Data) (test : Option ConfigFault → Bool) (fields rest : List Field) (field : Field) (table : Members) → test (field_fault sets table field) ≡ false
    → has sets test (fields ++ field ∷ rest) table ≡ has sets test (fields ++ rest) table
has_more sets test [] rest field table e = rw e refl
has_more sets test (first ∷ fields) rest field table e = ap (λ (b : Bool). test (field_fault sets table first) || b) (has_more sets test fields rest field table e)

find_more : (test : Field → Bool) (fields rest : List Field) (field : Field) → test field ≡ false → find test (fields ++ field ∷ rest) ≡ find test (fields ++ rest)
find_more test [] rest field e = rw e refl
find_more test (first ∷ fields) rest field e = ap (λ (o : Option Field). cond (test first) (Some first) o) (find_more test fields rest field e)

-- a field without a fault, whose key isn't in the table
pub record IsMissed (sets : List Data) (field : Field) (table : Members) : Type 0 where
  pub key : get_member field.key table ≡ None
  pub fault : field_fault sets table field ≡ None

pub missed : (sets : List Data) (key : List ℕ) (shape : Shape) (table : Members) → get_member key table ≡ None → IsMissed sets (now.may key shape) table
missed sets key shape table h = record { key = h; fault = ap (fault_where sets (now.may key shape)) h }

fault_more : (sets : List Data) (fields rest : List Field) (field : Field) (table : Members) → IsMissed sets field table → fault_of sets (fields ++ field ∷ rest) table ≡ fault_of sets (fields ++ rest) table
fault_more sets fields rest field table m =
    rw (stranger_more fields rest field table m.key, has_more sets is_missing fields rest field table (ap is_missing m.fault), has_more sets is_kind fields rest field table (ap is_kind m.fault), has_more sets is_range fields rest field table (ap is_range m.fault), has_more sets is_too_many fields rest field table (ap is_too_many m.fault)) refl

with_more : (sets : List Data) (place : Place) (fault : ConfigFault) (fields rest : List Field) (field : Field) (table : Members) → is_this fault (field_fault sets table field) ≡ false
    → at_field sets place fault table (field_with sets fault (fields ++ field ∷ rest) table) ≡ at_field sets place fault table (field_with sets fault (fields ++ rest) table)
with_more sets place fault fields rest field table e =
    ap (at_field sets place fault table) (find_more (λ f. is_this fault (field_fault sets table f)) fields rest field e)

as_more : (sets : List Data) (place : Place) (fault : ConfigFault) (fields rest : List Field) (field : Field) (table : Members) → IsMissed sets field table
    → located_as sets place (fields ++ field ∷ rest) table fault ≡ located_as sets place (fields ++ rest) table fault
as_more sets place faults.UnknownKey fields rest field table m = ap (λ (s : Option (List ℕ)). at_key place faults.UnknownKey s) (stranger_more fields rest field table m.key)
as_more sets place faults.Missing fields rest field table m = with_more sets place faults.Missing fields rest field table (ap (is_this faults.Missing) m.fault)
as_more sets place faults.Kind fields rest field table m = with_more sets place faults.Kind fields rest field table (ap (is_this faults.Kind) m.fault)
as_more sets place faults.Range fields rest field table m = with_more sets place faults.Range fields rest field table (ap (is_this faults.Range) m.fault)
as_more sets place faults.TooMany fields rest field table m = with_more sets place faults.TooMany fields rest field table (ap (is_this faults.TooMany) m.fault)
as_more sets place faults.NotToml fields rest field table m = with_more sets place faults.NotToml fields rest field table refl
as_more sets place faults.Duplicate fields rest field table m = with_more sets place faults.Duplicate fields rest field table refl
as_more sets place faults.Memory fields rest field table m = with_more sets place faults.Memory fields rest field table refl

-- the fault of a table is the same with it and without
pub located_more : (sets : List Data) (place : Place) (fields rest : List Field) (field : Field) (table : Members) → IsMissed sets field table
    → located_beside sets place (fields ++ field ∷ rest) table ≡ located_beside sets place (fields ++ rest) table
unfolding located_beside
located_more sets place fields rest field table m =
    ap (option_map (located_as sets place (fields ++ field ∷ rest) table)) (fault_more sets fields rest field table m) ∙ on (fault_of sets (fields ++ rest) table)
  where
    on : (found : Option ConfigFault) → option_map (located_as sets place (fields ++ field ∷ rest) table) found ≡ option_map (located_as sets place (fields ++ rest) table) found
    on None = refl
    on (Some fault) = ap (λ (l : Located). Some l) (as_more sets place fault fields rest field table m)
