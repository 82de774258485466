-- What holds of known bytes.
use Rattle.std.proofs.Common.{ℕ, List, Option, Some, None, IsSomeAnd, subst, sym}
use Rattle.std.specs.Io.KnownBytes.{Keeps}

-- what holds of known bytes holds where they are kept
pub kept : (P : List ℕ → Type 0) (held now : Option (List ℕ)) → Keeps held now → IsSomeAnd held P → IsSomeAnd now P
kept P None now keeps holds = absurd holds
kept P (Some xs) None keeps holds = absurd keeps
kept P (Some xs) (Some ys) keeps holds = subst P (sym keeps) holds

-- a fact of known bytes that follows from another
pub weaker : (P Q : List ℕ → Type 0) (held : Option (List ℕ)) → ((bytes : List ℕ) → P bytes → Q bytes) → IsSomeAnd held P → IsSomeAnd held Q
weaker P Q None follows holds = absurd holds
weaker P Q (Some bytes) follows holds = follows bytes holds
