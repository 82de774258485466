-- Reading from the front of a list of octets, with the first fault that is met: the common ground
-- of all codecs. Each reading function (`octet_at` and the like) computes: it answers the value
-- with the octets after it, or the fault that its caller names. What a codec asks to be believed is
-- its relation between octets and values (`Is..`), above these.
use Rattle.std.specs.Prelude.{◌≡◌, ℕ, ◌<◌, List, [], ◌∷◌, ◌++◌, length, take, drop, slice_index, Result, Ok, Err}
use Rattle.std.specs.Prelude.{nat_lt, if◌then◌else◌}
use Rattle.std.specs.Int.{Width, byte_len, from_be_bytes}

-- what is read next, unless there was a fault
infixl 10 ◌>>=◌
abbrev pub ◌>>=◌ : {A B F : Type 0} → Result A F → (A → Result B F) → Result B F
(Ok x) >>= f = f x
(Err e) >>= f = Err e

-- What a function returned, seen by view, is what the reading function gives.
abbrev pub Gives : {X Y F : Type 0} → (X → Y) → Result X F → Result Y F → Type 0
Gives view (Ok x) reading = reading ≡ Ok (view x)
Gives view (Err e) reading = reading ≡ Err e

-- one octet
abbrev pub octet_at : {F : Type 0} → F → List ℕ → Result (ℕ × List ℕ) F
octet_at short [] = Err short
octet_at short (octet ∷ rest) = Ok (octet, rest)

-- the first octets, so many
abbrev pub front_at : {F : Type 0} → F → ℕ → List ℕ → Result (List ℕ × List ℕ) F
front_at short count octets =
    if nat_lt (length octets) count then Err short else Ok (take count octets, drop count octets)

-- a number of so many bits, big-endian
abbrev pub number_at : {F : Type 0} → F → Width → List ℕ → Result (ℕ × List ℕ) F
number_at short width octets =
    if nat_lt (length octets) (byte_len width) then Err short
    else Ok (from_be_bytes width (take (byte_len width) octets), drop (byte_len width) octets)

-- each number of the list is an octet
abbrev pub AreOctets : List ℕ → Type 0
AreOctets octets = (i : ℕ) → slice_index octets i < 256

-- The octets are this text and then the rest.
pub record Takes (octets text rest : List ℕ) : Type 0 where
  pub parts : octets ≡ text ++ rest
  pub rest_octets : AreOctets rest

-- What a buffer held is still at its front.
abbrev pub Keeps : List ℕ → List ℕ → Type 0
Keeps old new = take (length old) new ≡ old
