-- What is shown of a text is printable.
use Rattle.std.specs.Prelude.{◌≡◌, ℕ, ◌<◌, Bool, true, nat_le, ◌&&◌, List}
use Rattle.std.specs.List.{AllByRecursion, list_all}
use Rattle.gw_state_words.specs.Words.{quoted}

abbrev pub is_printable : ℕ → Bool
is_printable octet = nat_le 32 octet && nat_le octet 126

-- Whatever octets a text has, what is shown of it has only printable characters of ASCII.
abbrev pub TextsArePrintable : Type 0
TextsArePrintable = (octets : List ℕ) → AllByRecursion (λ n. n < 256) octets → list_all is_printable (quoted octets) ≡ true
