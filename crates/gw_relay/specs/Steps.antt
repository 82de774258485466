-- What is asked for a message on its way, and the sends that hang on it.
use Rattle.std.specs.Prelude.{ℕ, List, [], ◌∷◌, length, nat_le, Option, Some, None, if◌then◌else◌}
use Rattle.std.specs.List.{flat_map, list_all}
use Rattle.std.specs.Option.{option_map_or}
use Rattle.gw_addr.specs.declared.bip.BipAddr.{BipAddr}
use Rattle.gw_frames.specs.bvll.Bvll.{original_unicast}
use Rattle.gw_frames.specs.npdu.Npdu.{Fields, encoding}
use Rattle.gw_frames.specs.npdu.Numbers.{max_len}
use Rattle.gw_rules.specs.Ask.{Ask}
use Rattle.gw_rules.specs.RuleList.{allows}
use Rattle.gw_rules.specs.declared.rule.Rule.{Rule}
use Rattle.gw_relay.specs.Cast.{spread}
use Rattle.gw_relay.specs.Response.{Response}
use Rattle.gw_relay.specs.Sends.{Sending, sent}
use Rattle.gw_relay.specs.declared.port.PortState.{PortState}

-- asks, and what is sent if the policy allows all of them
pub record Step : Type 0 where
  pub asks : List Ask
  pub sends : List Sending

-- a step of one ask
abbrev pub step : Ask → List Sending → Step
step ask sends = record { asks = ask ∷ []; sends = sends }

-- all asks, in order
abbrev pub asks_of : List Step → List Ask
asks_of steps = flat_map (λ s. s.asks) steps

-- what is sent of a step: nothing if one of its asks is denied
abbrev pub allowed_sends : List Rule → Step → List Sending
allowed_sends rules s = if list_all (allows rules) s.asks then s.sends else []

-- what is sent of all, in order
abbrev pub sends_of : List Rule → List Step → List Sending
sends_of rules steps = flat_map (allowed_sends rules) steps

-- what taking the steps answers; it changes nothing
abbrev pub taken : List Rule → List Step → Response
taken rules steps =
    record { asks = asks_of steps; sends = sends_of rules steps; change = None }

-- ---- one NPDU

-- the octets of an NPDU; none if they are over 1497
abbrev pub npdu_octets : Fields → Option (List ℕ)
npdu_octets npdu =
    if nat_le (length (encoding npdu)) max_len then Some (encoding npdu) else None

-- an NPDU to one address on a port, as an Original-Unicast-NPDU; one that is too long isn't sent
abbrev pub unicast : ℕ → BipAddr → Fields → List Sending
unicast port to npdu =
    option_map_or (λ octets. sent port (to ∷ []) (original_unicast octets)) (npdu_octets npdu) []

-- an NPDU as a broadcast by the gateway on a port; one that is too long isn't sent
abbrev pub broadcast : Fields → PortState → List Sending
broadcast npdu state = option_map_or (spread state) (npdu_octets npdu) []
