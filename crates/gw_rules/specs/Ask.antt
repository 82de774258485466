-- An ask: a number or none for each of the twelve fields.
use Rattle.std.specs.Prelude.{◌≡◌, ℕ, Option, Some, None}
use Rattle.gw_rules.specs.declared.fields.Fields.{Fields}
use Rattle.gw_rules.specs.declared.operation.Operation.{Operation}
use Rattle.gw_rules.specs.Fields.{in_each}
use Rattle.gw_rules.specs.Operation.{operation_number}

-- what the policy is to judge: a number for each field, or none if the datagram doesn't have it
abbrev pub Ask : Type 0
Ask = Fields (Option ℕ)

-- the ask that has this operation and no other field
abbrev pub ask_of : Operation → Ask
ask_of operation = record (in_each None) { operation = Some (operation_number operation) }

-- an ask for this operation
abbrev pub IsFor : Operation → Ask → Type 0
IsFor operation ask = ask.operation ≡ Some (operation_number operation)

-- an ask of a source of this network and key, or of none
pub record IsFrom (net : ℕ) (key : Option ℕ) (ask : Ask) : Type 0 where
  pub source_network : ask.source_network ≡ Some net
  pub source_key : ask.source_key ≡ key
