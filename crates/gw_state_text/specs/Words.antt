-- Words, as they are read from the front of a text: each function answers what it read, and what comes after it.
use Rattle.std.specs.Prelude.{◌≡◌, ℕ, ◌+◌, ◌^◌, ◌==◌, ◌&&◌, nat_eq, nat_lt, if◌then◌else◌, List, [], ◌∷◌, length, take, drop, position}
use Rattle.std.specs.Prelude.{Option, Some, None}
use Rattle.std.specs.Cmp.Lexicographic.{pointwise}
use Rattle.std.specs.Fmt.{decimal}
use Rattle.std.specs.Option.{option_map}
use Rattle.std.specs.Str.Parse.{digits_value}
use Rattle.gw_addr.specs.declared.bip.BipAddr.{BipAddr}
use Rattle.gw_addr.specs.declared.mask.Mask.{Mask}
use Rattle.gw_addr.specs.Station.{network_of}

-- what is read next, if something was read before
infixl 10 ◌>>=◌
abbrev pub ◌>>=◌ : {A B : Type 0} → Option A → (A → Option B) → Option B
None >>= f = None
(Some x) >>= f = f x

-- what a function returned, seen by view, is what the reading function gives
abbrev pub Finds : {X Y : Type 0} → (X → Y) → Option X → Option Y → Type 0
Finds view None reading = reading ≡ None
Finds view (Some x) reading = reading ≡ Some (view x)

-- what comes after a word
unfoldable pub after_word : List ℕ → List ℕ → Option (List ℕ)
after_word word text = if pointwise nat_eq (take (length word) text) word then Some (drop (length word) text) else None

-- what comes before the first such character, and what comes after it
unfoldable pub parted_at : ℕ → List ℕ → Option (List ℕ × List ℕ)
parted_at c text = option_map (λ place. (take place text, drop (place + 1) text)) (position (λ x. x == c) text)

-- the number of 64 bits that a text is in decimal
abbrev pub number_in : List ℕ → Option ℕ
number_in text =
    let number = digits_value 10 text in
    if nat_lt number (2 ^ 64) && pointwise nat_eq (decimal number) text then Some number else None

-- a number up to such a character
unfoldable pub number_to : ℕ → List ℕ → Option (ℕ × List ℕ)
number_to c text = do
  word ← parted_at c text
  number ← number_in word.0
  Some (number, word.1)

-- a number below a limit
unfoldable pub small_to : ℕ → ℕ → List ℕ → Option (ℕ × List ℕ)
small_to limit c text = number_to c text >>= λ x. if nat_lt x.0 limit then Some x else None

-- a network's number up to a space
unfoldable pub network_to : List ℕ → Option (ℕ × List ℕ)
network_to text = do
  number ← small_to (2 ^ 16) 32 text
  network ← network_of number.0
  Some (network, number.1)

-- the number below a limit that a text is
unfoldable pub small_in : ℕ → List ℕ → Option ℕ
small_in limit text = number_in text >>= λ n. if nat_lt n limit then Some n else None

-- an address, `a.b.c.d:port`
unfoldable pub address_in : List ℕ → Option BipAddr
address_in text = do
  first ← small_to 256 46 text
  second ← small_to 256 46 first.1
  third ← small_to 256 46 second.1
  fourth ← small_to 256 58 third.1
  udp ← small_in (2 ^ 16) fourth.1
  Some (record { ip = first.0 ∷ second.0 ∷ third.0 ∷ fourth.0 ∷ []; udp = udp })

-- an address up to such a character
unfoldable pub address_to : ℕ → List ℕ → Option (BipAddr × List ℕ)
address_to c text = do
  word ← parted_at c text
  address ← address_in word.0
  Some (address, word.1)

-- a mask, `a.b.c.d`
unfoldable pub mask_in : List ℕ → Option Mask
mask_in text = do
  first ← small_to 256 46 text
  second ← small_to 256 46 first.1
  third ← small_to 256 46 second.1
  fourth ← small_in 256 third.1
  Some (record { octets = first.0 ∷ second.0 ∷ third.0 ∷ fourth ∷ [] })

-- a mask up to the line feed
unfoldable pub mask_to : List ℕ → Option (Mask × List ℕ)
mask_to text = do
  word ← parted_at 10 text
  mask ← mask_in word.0
  Some (mask, word.1)
