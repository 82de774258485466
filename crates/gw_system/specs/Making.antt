-- A request that was made.
use Rattle.std.specs.Prelude.{◌≡◌, ℕ, List, string_bytes}
use Rattle.gw_system.specs.declared.making.MadeRequest.{MadeRequest}

-- a request that was made has this name and this text
pub record IsMade (name text : List ℕ) (made : MadeRequest) : Type 0 where
  pub named : string_bytes made.files.request.name ≡ name
  pub says : made.text.items ≡ text
