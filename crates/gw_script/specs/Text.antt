-- The pieces of the text that a replay writes.
use Rattle.std.specs.Prelude.{◌≡◌, ℕ, List, [], ◌∷◌, ◌++◌, codes}
use Rattle.std.specs.List.{flat_map}
use Rattle.std.specs.Fmt.{decimal}
use Rattle.hex.specs.Hex.{encode_upper}
use Rattle.gw_addr.specs.declared.bip.BipAddr.{BipAddr}
use Rattle.gw_addr.specs.Address.{text_of}

-- what comes before the address in the line of a datagram that is sent: `send <port> `
abbrev pub send_port : ℕ → List ℕ
send_port port = codes "send " ++ decimal port ++ 32 ∷ []

-- and what comes before the octets: `send <port> <address> `
abbrev pub send_head : ℕ → BipAddr → List ℕ
send_head port to = send_port port ++ text_of to ++ 32 ∷ []

-- and the rest from the octets on
abbrev pub send_tail : List ℕ → List ℕ
send_tail octets = encode_upper octets ++ 10 ∷ []

-- the line of a datagram that is sent: `send <port> <address> <HEX>` and a line feed
abbrev pub send_line : ℕ → BipAddr → List ℕ → List ℕ
send_line port to octets = send_head port to ++ encode_upper octets ++ 10 ∷ []

-- the lines of one that goes to each of these addresses
abbrev pub send_lines : ℕ → List BipAddr → List ℕ → List ℕ
send_lines port targets octets = flat_map (λ to. send_line port to octets) targets

-- these octets are at the end of a text
pub record EndsWith (text tail : List ℕ) : Type 0 where
  pub front : List ℕ
  pub is : text ≡ front ++ tail

-- the line after the last of an event
abbrev pub end_line : List ℕ
end_line = codes "end" ++ 10 ∷ []
