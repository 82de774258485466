-- A script: the text of a list of events, a line for each.
use Rattle.std.specs.Prelude.{◌≡◌, ℕ, ◌+◌, ◌≤◌, List, [], ◌∷◌, ◌++◌, length, codes, Ok, ⊤, ◌==◌, ◌⊎◌, if◌then◌else◌}
use Rattle.hex.specs.Hex.{decode_of}
use Rattle.gw_addr.specs.declared.bip.BipAddr.{BipAddr}
use Rattle.gw_addr.specs.Address.{IsAddress, text_of}
use Rattle.gw_script.specs.Event.{Event, Datagram, Tick}

-- a character in front of the first line
abbrev pub onto_first : ℕ → List (List ℕ) → List (List ℕ)
onto_first c [] = (c ∷ []) ∷ []
onto_first c (line ∷ lines) = (c ∷ line) ∷ lines

-- The lines of a text: each ends at a line feed, which the last may lack. An empty text has none.
unfoldable pub lines_of : List ℕ → List (List ℕ)
lines_of [] = []
lines_of (c ∷ text) = if c == 10 then [] ∷ lines_of text else onto_first c (lines_of text)

-- Octets as they are written: digit pairs of either case, or `-` for none.
abbrev pub WritesOctets : List ℕ → List ℕ → Type 0
WritesOctets text octets = ((text ≡ 45 ∷ []) × (octets ≡ [])) ⊎ ((1 ≤ length text) × (decode_of text ≡ Ok octets))

-- a datagram as a line writes it: the port's digit, the address and the octets, with a space between
pub record WritesDatagram (ports : ℕ) (line : List ℕ) (port : ℕ) (from : BipAddr) (octets : List ℕ) : Type 0 where
  pub first : 1 ≤ port
  pub last : port ≤ ports
  pub address : IsAddress from
  pub written : List ℕ
  pub writes : WritesOctets written octets
  pub spelled : line ≡ (48 + port) ∷ 32 ∷ (text_of from ++ 32 ∷ written)

-- an event as a line writes it: `tick`, or a datagram on one of the ports, which are at most 8
abbrev pub Writes : ℕ → List ℕ → Event → Type 0
Writes ports line Tick = line ≡ codes "tick"
Writes ports line (Datagram port from octets) = WritesDatagram ports line port from octets

-- a line that writes this event, of at most 4096 octets without its line feed
pub record IsLine (ports : ℕ) (line : List ℕ) (event : Event) : Type 0 where
  pub most : length line ≤ 4096
  pub writes : Writes ports line event

-- lines that write these events, one each
abbrev pub AreLines : ℕ → List (List ℕ) → List Event → Type 0
AreLines ports [] [] = ⊤
AreLines ports [] (event ∷ events) = ⊥
AreLines ports (line ∷ lines) [] = ⊥
AreLines ports (line ∷ lines) (event ∷ events) = IsLine ports line event × AreLines ports lines events
