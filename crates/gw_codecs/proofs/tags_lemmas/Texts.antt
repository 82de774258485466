-- Whether octets are UTF-8, as std's reader says.
use Rattle.std.proofs.Common.{◌≡◌, ℕ, Bool, true, false, List, Result, Ok, Err, refl, sym}
use Rattle.std.specs.Prelude.{MatchResult}
use Rattle.std.specs.Result.{is_ok}
use Rattle.std.specs.Str.{IsUtf8, is_utf8}
use Rattle.std.proofs.lemmas.Str.{IsUtf8-from_is_utf8, is_utf8-from_IsUtf8}

not_utf8 : (b : Bool) (octets : List ℕ) → is_utf8 octets ≡ b → ¬ (IsUtf8 octets) → false ≡ b
not_utf8 true octets e other = absurd (other (IsUtf8-from_is_utf8 octets e))
not_utf8 false octets e other = refl

pub tells_utf8 : {A E : Type 0} (r : Result A E) (octets : List ℕ) (P : A → Type 0) (Q : E → Type 0) → MatchResult r (λ x. P x × IsUtf8 octets) (λ e. ¬ (IsUtf8 octets) × Q e) → is_ok r ≡ is_utf8 octets
tells_utf8 (Ok x) octets P Q h = sym (is_utf8-from_IsUtf8 octets h.1)
tells_utf8 (Err e) octets P Q h = not_utf8 (is_utf8 octets) octets refl h.0
