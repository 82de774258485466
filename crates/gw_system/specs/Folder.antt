-- Files by their names: what is known of one, and what taking it away does.
use Rattle.std.specs.Prelude.{◌≡◌, ⊤, ℕ, List, Option, Some, None}
use Rattle.std.specs.Global.{Vec}

-- What is known of the file of a name: nothing; that there is none; or its octets.
abbrev pub Known : Type 0
Known = Option (Option (List ℕ))

-- it has these octets, or there is none, as far as is known
abbrev pub Holds : Known → Option (List ℕ) → Type 0
Holds None octets = ⊤
Holds (Some held) octets = held ≡ octets

-- it was there, and is no more
abbrev pub IsTakenAway : (was is : Known) → Type 0
IsTakenAway None is = Holds is None
IsTakenAway (Some None) is = ⊥
IsTakenAway (Some (Some octets)) is = Holds is None

-- the octets that were read of it
abbrev pub octets_of : Option (Vec ℕ) → Option (List ℕ)
octets_of None = None
octets_of (Some octets) = Some octets.items

-- An answer belongs to a request: that was taken away, and this is what the file of the answer holds.
pub record IsAnswer (request answer : Known) (text : List ℕ) : Type 0 where
  pub gone : Holds request None
  pub holds : Holds answer (Some text)
