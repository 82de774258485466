-- Computes; believe `IsMulti` and `HasMultiFault` (Multi.antt). How a ReadPropertyMultiple is read.
use Rattle.std.specs.Prelude.{ℕ, zero, suc, ◌-◌, Bool, true, false, List, [], ◌∷◌, ◌++◌, Option, Some, None, Result, Ok}
use Rattle.std.specs.Prelude.{Err, if◌then◌else◌}
use Rattle.gw_addr.specs.Reading.{◌>>=◌}
use Rattle.gw_codecs.specs.declared.tags.fault.ContextFault.{ContextFault}
use Rattle.gw_codecs.specs.tags.ContextReading.{opening_at, closing_tag_at}
use Rattle.gw_codecs.specs.tags.Object.{Object}
use Rattle.gw_codecs.specs.declared.services.fault.BodyFault.{BodyFault}
use Rattle.gw_codecs.specs.declared.services.fault.BodyFault.TheVariants.{Missing, TooMany, Inconsistent}
use Rattle.gw_codecs.specs.services.Limits.{last_property, last_number}
use Rattle.gw_codecs.specs.services.Reading.{or_invalid, object_at, number_at, number_maybe_at}
use Rattle.gw_codecs.specs.services.Multi.{Reference, is_consistent, most_references}

abbrev pub reference : Bool → Object → ℕ → Option ℕ → Reference
reference begins id p i = record { begins = begins; object = id; property = p; index = i }

-- an opening tag that has to be there
abbrev pub opened_at : List ℕ → Result (List ℕ) BodyFault
opened_at [] = Err Missing
opened_at (octet ∷ octets) = or_invalid (opening_at 1 (octet ∷ octets))

-- a property, and its index where it is given
abbrev pub named_at : Bool → Object → List ℕ → Result (Reference × List ℕ) BodyFault
named_at begins id octets = do
  property ← number_at 0 0 last_property octets
  index ← number_maybe_at 1 0 last_number property.1
  Ok (reference begins id property.0 index.0, index.1)

-- a list has a first property
abbrev pub first_at : Object → List ℕ → Result (List ℕ) ContextFault
    → Result (Reference × List ℕ) BodyFault
first_at id octets (Ok rest) = Err Missing
first_at id octets (Err fault) = named_at true id octets

abbrev pub reference_at : Option Object → List ℕ → Result (Reference × List ℕ) BodyFault
reference_at None octets = do
  id ← object_at 0 octets
  inner ← opened_at id.1
  first_at id.0 inner (closing_tag_at 1 inner)
reference_at (Some id) octets = named_at false id octets

-- what follows a reference
pub data Next : Type 0 where
  finished : Next
  more_at : Option Object → List ℕ → Next

abbrev pub behind_closing : List ℕ → Next
behind_closing [] = finished
behind_closing (octet ∷ octets) = more_at None (octet ∷ octets)

abbrev pub next_of : Object → List ℕ → Result (List ℕ) ContextFault → Next
next_of id octets (Ok rest) = behind_closing rest
next_of id octets (Err fault) = more_at (Some id) octets

abbrev pub next_at : Object → List ℕ → Next
next_at id octets = next_of id octets (closing_tag_at 1 octets)

abbrev pub and_more : Reference → Result (List Reference) BodyFault → Result (List Reference) BodyFault
and_more r others = others >>= λ rs. Ok (r ∷ rs)

-- at most so many references
unfoldable pub references_at : ℕ → Option Object → List ℕ → Result (List Reference) BodyFault
references_at zero current octets = reference_at current octets >>= λ r. Err TooMany
references_at (suc left) current octets = reference_at current octets >>= λ r.
    if is_consistent r.0
    then elim (next_at r.0.object r.1) [
      | finished ↦ Ok (r.0 ∷ [])
      | more_at place rest ↦ and_more r.0 (references_at left place rest)
    ]
    else Err Inconsistent

-- one reference, of which so many may still come, and what follows it
abbrev pub judged : ℕ → Reference × List ℕ → Result (Reference × Next) BodyFault
judged zero r = Err TooMany
judged (suc left) r =
    if is_consistent r.0 then Ok (r.0, next_at r.0.object r.1) else Err Inconsistent

abbrev pub step_at : ℕ → Option Object → List ℕ → Result (Reference × Next) BodyFault
step_at left current octets = reference_at current octets >>= λ r. judged left r

-- that one, and those after it
abbrev pub walked : ℕ → Result (Reference × Next) BodyFault → Result (List Reference) BodyFault
walked left (Err fault) = Err fault
walked left (Ok (r, finished)) = Ok (r ∷ [])
walked left (Ok (r, more_at place rest)) = and_more r (references_at (left - 1) place rest)

-- these, and those that are read after them
abbrev pub behind_these : List Reference → Result (List Reference) BodyFault
    → Result (List Reference) BodyFault
behind_these before others = others >>= λ rs. Ok (before ++ rs)

abbrev pub multi_at : List ℕ → Result (List Reference) BodyFault
multi_at octets = references_at most_references None octets
