-- The text of a request to a running gateway, and what is given of the configuration by it.
use Rattle.std.specs.Prelude.{◌≡◌, ⊤, ℕ, ◌-◌, Bool, ◌&&◌, ◌||◌, not, ◌==◌, nat_eq, if◌then◌else◌, List, [], ◌∷◌, ◌++◌, take, length, Option, Some, Result, Ok, Err, codes, decimal}
use Rattle.std.specs.List.{ends_with, list_any, starts_with}
use Rattle.std.specs.Cmp.Lexicographic.{pointwise}
use Rattle.hex.specs.Hex.{encode_lower}
use Rattle.sha2.specs.Sha256.{sha256}
use Rattle.gw_system.specs.declared.obstacle.Obstacle.TheVariants as obstacle
use Rattle.gw_system.specs.declared.reading.ReadFailure.{ReadFailure}
use Rattle.gw_system.specs.declared.reading.ReadFailure.TheVariants as reading

-- the line of a request to read a configuration of this text again, and no other: how many octets it has, and its SHA-256
abbrev pub reload_request : List ℕ → List ℕ
reload_request text = codes "reload " ++ (decimal (length text) ++ (codes " " ++ (encode_lower (sha256 text) ++ 10 ∷ [])))

-- a text that ends in its only line feed
abbrev pub is_line : List ℕ → Bool
is_line text = ends_with nat_eq text (10 ∷ []) && not (list_any (λ o. o == 10) (take (length text - 1) text))

-- A request to read the configuration again is nothing, or a line that names the text of one.
abbrev pub is_reload : List ℕ → Bool
is_reload text = (length text == 0) || (starts_with nat_eq text (codes "reload ") && is_line text)

-- the line of a request to stop
abbrev pub stop_request : List ℕ
stop_request = codes "stop\n"

abbrev pub is_stop : List ℕ → Bool
is_stop text = pointwise nat_eq text stop_request

-- the line of a request to say what is counted
abbrev pub status_request : List ℕ
status_request = codes "status\n"

abbrev pub is_status : List ℕ → Bool
is_status text = pointwise nat_eq text status_request

-- a text is one of the three
abbrev pub is_request : List ℕ → Bool
is_request text = is_reload text || (is_stop text || is_status text)

-- what is given of a text that was read if a request names one: that text alone
abbrev pub checked_text : (request text : List ℕ) → Result (Option (List ℕ)) ReadFailure
checked_text request text =
    if pointwise nat_eq (reload_request text) request then Ok (Some text) else Err (reading.Unreadable obstacle.Changed)

-- the same, unless memory runs out for it
abbrev pub IsChecked : (request text : List ℕ) → (given : Result (Option (List ℕ)) ReadFailure) → Type 0
IsChecked request text (Err reading.Memory) = ⊤
IsChecked request text given = given ≡ checked_text request text

-- What is given of a configuration that was read, by the text of the request: an empty request takes all that was read; one
-- that names a text takes that alone.
abbrev pub IsGiven : (request : List ℕ) → (read given : Result (Option (List ℕ)) ReadFailure) → Type 0
IsGiven [] read given = given ≡ read
IsGiven (o ∷ request) (Ok (Some text)) given = IsChecked (o ∷ request) text given
IsGiven (o ∷ request) read given = given ≡ read

-- An empty request takes all that was read, and whatever else there is.
abbrev pub EmptyTakesAll : Type 0
EmptyTakesAll = (read given : Result (Option (List ℕ)) ReadFailure) → IsGiven [] read given → given ≡ read

-- By a request that names a text only what was read is given, and that has the length and the SHA-256 of the text.
abbrev pub NamedTextAlone : Type 0
NamedTextAlone = (text other : List ℕ) (read : Result (Option (List ℕ)) ReadFailure) → IsGiven (reload_request text) read (Ok (Some other))
    → (read ≡ Ok (Some other)) × (reload_request other ≡ reload_request text)
