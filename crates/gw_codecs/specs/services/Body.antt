-- The body of a service: its parameters in their order, which of them must and which may be there,
-- and what is wrong with octets that are no such body.
use Rattle.std.specs.Prelude.{◌≡◌, ◌≢◌, ◌⊎◌, true, false, ℕ, List, [], ◌∷◌}
use Rattle.gw_codecs.specs.tags.Context.{BeginsWithOther}
use Rattle.gw_codecs.specs.declared.services.fault.BodyFault.{BodyFault}
use Rattle.gw_codecs.specs.declared.services.fault.BodyFault.TheVariants.{InvalidTag, Missing, OutOfRange, TooMany}
use Rattle.gw_codecs.specs.services.Parameter.{Content, Shape, Parameter, under, Holds, allows}

-- what is to come: nothing more; a parameter that must be there; or a parameter under a context tag
-- that may be there, what follows it, and what comes if it is absent
pub data Body : Type 0 where
  done : Body
  must : Parameter → Body → Body
  may : (tag : ℕ) → Shape → (behind : Body) → (without : Body) → Body

-- a parameter that may be there, and nothing depends on it
abbrev pub optional : ℕ → Shape → Body → Body
optional tag shape rest = may tag shape rest rest

-- the octets begin with the parameter, and what it holds is in its range
pub record Begins (p : Parameter) (octets : List ℕ) (held : Content) (rest : List ℕ) : Type 0 where
  pub holds : Holds p octets held rest
  pub allowed : allows p held ≡ true

-- A parameter that may be there is absent: the body ends, or another tag is in its place. What
-- opens or closes a list is another tag.
abbrev pub IsAbsent : ℕ → List ℕ → Type 0
IsAbsent tag octets = (octets ≡ []) ⊎ BeginsWithOther tag octets

-- The octets are the parameters that are there, one after the other, and hold these contents.
pub data IsBody : Body → List ℕ → List Content → Type 0 where
  nothing_more : IsBody done [] []
  required : {p : Parameter} {body : Body} {octets : List ℕ} {others : List Content}
      (held : Content) (rest : List ℕ) → Begins p octets held rest → IsBody body rest others
      → IsBody (must p body) octets (held ∷ others)
  given : {tag : ℕ} {shape : Shape} {behind without : Body} {octets : List ℕ}
      {others : List Content} (held : Content) (rest : List ℕ)
      → Begins (under tag shape) octets held rest → IsBody behind rest others
      → IsBody (may tag shape behind without) octets (held ∷ others)
  left_out : {tag : ℕ} {shape : Shape} {behind without : Body} {octets : List ℕ}
      {held : List Content} → IsAbsent tag octets → IsBody without octets held
      → IsBody (may tag shape behind without) octets held

-- What is wrong where a parameter is due: the body ends; what is there isn't the parameter; or
-- it is, with a number outside its range.
pub data IsWrong : BodyFault → Parameter → List ℕ → Type 0 where
  body_ends : {p : Parameter} {octets : List ℕ} → octets ≡ [] → IsWrong Missing p octets
  something_else : {p : Parameter} {octets : List ℕ} → octets ≢ []
      → ((held : Content) (rest : List ℕ) → Holds p octets held rest → ⊥)
      → IsWrong InvalidTag p octets
  outside_its_range : {p : Parameter} {octets : List ℕ} (held : Content) (rest : List ℕ)
      → Holds p octets held rest → allows p held ≡ false → IsWrong OutOfRange p octets

-- What is wrong with octets that are no such body: the first parameter in their order that is wrong,
-- if all before it are right, or octets after the last one.
pub data HasFault (fault : BodyFault) : Body → List ℕ → Type 0 where
  octets_behind : {octets : List ℕ} → fault ≡ TooMany → octets ≢ [] → HasFault fault done octets
  at_required : {p : Parameter} {body : Body} {octets : List ℕ} → IsWrong fault p octets
      → HasFault fault (must p body) octets
  behind_required : {p : Parameter} {body : Body} {octets : List ℕ} (held : Content)
      (rest : List ℕ) → Begins p octets held rest → HasFault fault body rest
      → HasFault fault (must p body) octets
  at_given : {tag : ℕ} {shape : Shape} {behind without : Body} {octets : List ℕ}
      → (IsAbsent tag octets → ⊥) → IsWrong fault (under tag shape) octets
      → HasFault fault (may tag shape behind without) octets
  behind_given : {tag : ℕ} {shape : Shape} {behind without : Body} {octets : List ℕ}
      (held : Content) (rest : List ℕ) → Begins (under tag shape) octets held rest
      → HasFault fault behind rest → HasFault fault (may tag shape behind without) octets
  behind_absent : {tag : ℕ} {shape : Shape} {behind without : Body} {octets : List ℕ}
      → IsAbsent tag octets → HasFault fault without octets
      → HasFault fault (may tag shape behind without) octets
