-- What places give once that of one object more is noted.
use Rattle.std.proofs.Common.{◌≡◌, ℕ, ◌+◌, ◌<◌, ◌≤◌, suc, Bool, true, false, cond, if◌then◌else◌, List, [], ◌∷◌, ◌++◌, ◌&&◌, length, take, position, Option, Some, None, is_some, IfSome, Vec, nat_eq, arith, refl, sym, ap, ◌∙◌, true≢false, add-zero, zero-add, length-take-le, take_all, ltb-false, find, option_map, option_and_then, nat_lt}
use Rattle.std.specs.Cmp.{nat_eq_equiv}
use Rattle.std.specs.Map.{lookup}
use Rattle.std.specs.List.{position_from, position_or_len}
use Rattle.std.specs.Option.{option_or}
use Rattle.std.specs.Prelude.{slice_get}
use Rattle.std.specs.declared.alloc.Global.{Global}
use Rattle.std.proofs.Math.Seq.{take-suc}
use Rattle.std.proofs.lemmas.Bool.{and_parts}
use Rattle.std.proofs.lemmas.Cmp.{nat_list_eq_equiv}
use Rattle.std.proofs.lemmas.Iterator.Adapters.{position_from-zero}
use Rattle.std.proofs.lemmas.List.Folds.{find_at}
use Rattle.std.proofs.lemmas.List.Quantifiers.{position-Some}
use Rattle.std.proofs.lemmas.Option.{slice_get_within, slice_get_past, get_or_from_slice_get}
use Rattle.indexmap.specs.IndexMap.{IndexMap, get, insert_entry}
use Rattle.indexmap.proofs.CallerLemmas.{insert_entry-new}
use Rattle.gw_codecs.specs.declared.tags.object.ObjectId.{ObjectId}
use Rattle.gw_codecs.specs.tags.Object.{object_view}
use Rattle.gw_objects.specs.declared.configured.Configured.{Configured}
use Rattle.gw_objects.specs.declared.configured.ConfiguredObject.{ConfiguredObject}
use Rattle.gw_objects.specs.Objects.{device_id, is_name, named, object_id_of, same}
use Rattle.gw_objects.specs.internal.Index.{FindsIds, FindsNames, is_id, with_place}

-- the first that passes, after one more is pushed
module _ {X : Type 0} (t : X → Bool) (x : X) where
  from_push : (i : ℕ) (xs : List X) → position_from t i (xs ++ x ∷ []) ≡ option_or (position_from t i xs) (cond (t x) (Some (i + length xs)) None)
  from_push i [] = ap (λ n. cond (t x) (Some n) None) (sym (add-zero i))
  from_push i (y ∷ ys) = by (t y) (from_push (i + 1) ys)
    where
      next : (i + 1) + length ys ≡ i + length (y ∷ ys)
      next = omega arith

      by : (b : Bool) → position_from t (i + 1) (ys ++ x ∷ []) ≡ option_or (position_from t (i + 1) ys) (cond (t x) (Some ((i + 1) + length ys)) None)
          → cond b (Some i) (position_from t (i + 1) (ys ++ x ∷ [])) ≡ option_or (cond b (Some i) (position_from t (i + 1) ys)) (cond (t x) (Some (i + length (y ∷ ys))) None)
      by true rest = refl
      by false rest = rest ∙ ap (λ n. option_or (position_from t (i + 1) ys) (cond (t x) (Some n) None)) next

  position_push : (xs : List X) → position t (xs ++ x ∷ []) ≡ option_or (position t xs) (cond (t x) (Some (length xs)) None)
  position_push xs =
      position_from-zero t (xs ++ x ∷ []) ∙ from_push 0 xs
      ∙ ap (λ n. option_or (position_from t 0 xs) (cond (t x) (Some n) None)) (zero-add (length xs))
      ∙ ap (λ first. option_or first (cond (t x) (Some (length xs)) None)) (sym (position_from-zero t xs))

module _ {K : Type 0} (test : K → Bool) (key : K) (place : ℕ) where
  lookup_push : (places : List (K × ℕ)) → lookup test (places ++ (key, place) ∷ []) ≡ option_or (lookup test places) (cond (test key) (Some place) None)
  lookup_push [] = refl
  lookup_push (e ∷ es) = by (test e.0) (lookup_push es)
    where
      by : (b : Bool) → lookup test (es ++ (key, place) ∷ []) ≡ option_or (lookup test es) (cond (test key) (Some place) None)
          → cond b (Some e.1) (lookup test (es ++ (key, place) ∷ [])) ≡ option_or (cond b (Some e.1) (lookup test es)) (cond (test key) (Some place) None)
      by true rest = refl
      by false rest = rest

-- what is there isn't changed by a later one
kept : (first : Option ℕ) (b : Bool) (n : ℕ) → (b ≡ true → is_some first ≡ true) → first ≡ option_or first (cond b (Some n) None)
kept (Some place) b n some = refl
kept None true n some = absurd (true≢false (sym (some refl)))
kept None false n some = refl

module _ {K X : Type 0} (eq : K → K → Bool) (test : K → Bool) (key : K) (p : X → Bool) (x : X) (places : List (K × ℕ)) (xs : List X)
    (alike : (a b : K) → test a ≡ true → test b ≡ eq a b) (agree : test key ≡ p x) (stand : lookup test places ≡ position p xs) where
  -- where the key has no place yet, it gets that of the object
  new_place : lookup test (places ++ (key, length xs) ∷ []) ≡ position p (xs ++ x ∷ [])
  new_place =
      lookup_push test key (length xs) places
      ∙ (λ j. option_or (stand j) (cond (agree j) (Some (length xs)) None))
      ∙ sym (position_push p x xs)

  -- where it has one, that is of an earlier object
  old_place : is_some (lookup (eq key) places) ≡ true → lookup test places ≡ position p (xs ++ x ∷ [])
  old_place there =
      kept (lookup test places) (test key) (length xs) (λ one. ap is_some (ap (λ (t : K → Bool). lookup t places) (λ j b. alike key b one j)) ∙ there)
      ∙ (λ j. option_or (stand j) (cond (agree j) (Some (length xs)) None))
      ∙ sym (position_push p x xs)

  noted : lookup test (with_place eq places key (length xs)) ≡ position p (xs ++ x ∷ [])
  noted = by (is_some (lookup (eq key) places)) refl
    where
      by : (b : Bool) → is_some (lookup (eq key) places) ≡ b → lookup test (if b then places else places ++ (key, length xs) ∷ []) ≡ position p (xs ++ x ∷ [])
      by true there = old_place there
      by false none = new_place

-- two keys that an identifier, or a name, is, are one
ids_alike : (wanted a b : ObjectId) → is_id wanted a ≡ true → is_id wanted b ≡ is_id a b
ids_alike wanted a b one =
    let parts = and_parts (nat_eq wanted.kind a.kind) (nat_eq wanted.instance a.instance) one in
    λ j. nat_eq_equiv.congr wanted.kind a.kind b.kind parts.0 j && nat_eq_equiv.congr wanted.instance a.instance b.instance parts.1 j

module _ (objects : List ConfiguredObject) (place : ℕ) (object : ConfiguredObject) (is : slice_get objects place ≡ Some object) where
  -- the objects up to one more
  one_more : take place objects ++ object ∷ [] ≡ take (place + 1) objects
  one_more =
      let next : suc place ≡ place + 1 = omega arith in
      sym (take-suc objects place object (slice_get_within objects place object is) ∙ ap (λ o. take place objects ++ o ∷ []) (get_or_from_slice_get objects place object object is))
      ∙ ap (λ (n : ℕ). take n objects) next

  long : length (take place objects) ≡ place
  long = length-take-le place objects (omega (arith, slice_get_within objects place object is))

  pub more_ids : (places : List (ObjectId × ℕ)) (id : ObjectId) → object_view id ≡ object_id_of object → FindsIds places (take place objects) → FindsIds (with_place is_id places id place) (take (place + 1) objects)
  more_ids places id of stand = λ wanted.
      let p = λ (o : ConfiguredObject). same (object_view wanted) (object_id_of o) in
      ap (λ n. lookup (is_id wanted) (with_place is_id places id n)) (sym long)
      ∙ noted is_id (is_id wanted) id p object places (take place objects) (ids_alike wanted) (ap (same (object_view wanted)) of) (stand wanted)
      ∙ ap (position p) one_more

  pub more_names : (places : List (Vec ℕ Global × ℕ)) (name : Vec ℕ Global) → name.items ≡ object.name → FindsNames places (take place objects) → FindsNames (with_place (λ a b. is_name a.items b.items) places name place) (take (place + 1) objects)
  more_names places name of stand = λ wanted.
      let p = λ (o : ConfiguredObject). is_name wanted o.name in
      let test = λ (key : Vec ℕ Global). is_name wanted key.items in
      ap (λ n. lookup test (with_place (λ a b. is_name a.items b.items) places name n)) (sym long)
      ∙ noted (λ a b. is_name a.items b.items) test name p object places (take place objects) (λ a b one. nat_list_eq_equiv.congr wanted a.items b.items one) (ap (is_name wanted) of) (stand wanted)
      ∙ ap (position p) one_more

-- there is no object to begin with
pub no_ids : (places : List (ObjectId × ℕ)) (objects : List ConfiguredObject) → places ≡ [] → FindsIds places (take 0 objects)
no_ids places objects empty = λ wanted. ap (lookup (is_id wanted)) empty

pub no_names : (places : List (Vec ℕ Global × ℕ)) (objects : List ConfiguredObject) → places ≡ [] → FindsNames places (take 0 objects)
no_names places objects empty = λ wanted. ap (lookup (λ (key : Vec ℕ Global). is_name wanted key.items)) empty

-- a place is that of an object that is there
pub position_within : {X : Type 0} (p : X → Bool) (xs : List X) (o : Option ℕ) → o ≡ position p xs → IfSome o (λ place. place < length xs)
position_within p xs None e = tt
position_within p [] (Some place) e = absurd (true≢false (ap is_some e))
position_within p (x ∷ xs) (Some place) e = (position-Some p (x ∷ xs) place x (sym e)).0

-- the first that passes is that at its place
found : {X : Type 0} (p : X → Bool) (xs : List X) → find p xs ≡ option_and_then (slice_get xs) (position p xs)
found p xs = find_at p xs ∙ by (nat_lt (position_or_len p xs) (length xs)) refl
  where
    by : (b : Bool) → nat_lt (position_or_len p xs) (length xs) ≡ b → slice_get xs (position_or_len p xs) ≡ option_and_then (slice_get xs) (cond b (Some (position_or_len p xs)) None)
    by true e = refl
    by false e = slice_get_past xs (position_or_len p xs) (ltb-false (position_or_len p xs) (length xs) e)

-- the identifier of a name that isn't the device's
module _ (c : Configured) (name : List ℕ) (other : is_name name c.device.name ≡ false) where
  value_object : named c name ≡ option_map object_id_of (find (λ object. is_name name object.name) c.objects)
  value_object = ap (λ b. if b then Some (device_id c.device) else option_map object_id_of (find (λ object. is_name name object.name) c.objects)) other

  pub named_at : (place : Option ℕ) → place ≡ position (λ object. is_name name object.name) c.objects → option_map object_id_of (option_and_then (slice_get c.objects) place) ≡ named c name
  named_at place is =
      ap (λ at. option_map object_id_of (option_and_then (slice_get c.objects) at)) is
      ∙ sym (ap (option_map object_id_of) (found (λ object. is_name name object.name) c.objects))
      ∙ sym value_object

nothing : {X : Type 0} (o : Option X) → is_some o ≡ false → o ≡ None
nothing None e = refl
nothing (Some x) e = absurd (true≢false e)

-- a key that has no place yet is a new entry
pub new_entry : {K S : Type 0} (eq : K → K → Bool) (places : IndexMap K ℕ S) (key : K) (place : ℕ) → is_some (get eq places key) ≡ false → insert_entry eq places.entries key place ≡ with_place eq places.entries key place
new_entry eq places key place none =
    insert_entry-new eq places key place (nothing (get eq places key) none)
    ∙ sym (ap (λ b. if b then places.entries else places.entries ++ (key, place) ∷ []) none)

-- all objects are those up to the last
pub all_objects : (objects : List ConfiguredObject) (place : ℕ) → length objects ≤ place → take place objects ≡ objects
all_objects objects place all = take_all place objects all
