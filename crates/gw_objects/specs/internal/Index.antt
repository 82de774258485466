-- The place of the first object of each identifier and of each name.
use Rattle.std.specs.Prelude.{◌≡◌, ℕ, Bool, if◌then◌else◌, List, [], ◌∷◌, ◌++◌, position, is_some, Vec}
use Rattle.std.specs.Map.{lookup}
use Rattle.std.specs.declared.alloc.Global.{Global}
use Rattle.gw_codecs.specs.declared.tags.object.ObjectId.{ObjectId}
use Rattle.gw_codecs.specs.tags.Object.{object_view}
use Rattle.gw_objects.specs.declared.configured.ConfiguredObject.{ConfiguredObject}
use Rattle.gw_objects.specs.Identifier.{is_name, object_id_of, same}

-- places of keys, with that of a key that has none yet
abbrev pub with_place : {K : Type 0} → (K → K → Bool) → List (K × ℕ) → K → ℕ → List (K × ℕ)
with_place eq places key place =
    if is_some (lookup (eq key) places) then places else places ++ (key, place) ∷ []

-- an identifier is this one
abbrev pub is_id : ObjectId → ObjectId → Bool
is_id wanted id = same (object_view wanted) (object_view id)

-- places give the first object of each identifier
abbrev pub FindsIds : List (ObjectId × ℕ) → List ConfiguredObject → Type 0
FindsIds places objects = (wanted : ObjectId) →
    lookup (is_id wanted) places
    ≡ position (λ object. same (object_view wanted) (object_id_of object)) objects

-- places give the first object of each name
abbrev pub FindsNames : List (Vec ℕ Global × ℕ) → List ConfiguredObject → Type 0
FindsNames places objects = (wanted : List ℕ) →
    lookup (λ key. is_name wanted key.items) places
    ≡ position (λ object. is_name wanted object.name) objects
