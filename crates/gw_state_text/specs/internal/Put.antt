-- What a function that appends to a buffer gives.
use Rattle.std.specs.Prelude.{◌≡◌, ℕ, List, ◌++◌, Result, OnOk}
use Rattle.gw_addr.specs.Reading.{Keeps}

-- the text is appended; after an Err, too, the buffer begins with what it held
pub record IsPut {T F : Type 0} (text old new : List ℕ) (result : Result T F) : Type 0 where
  pub ok : OnOk result (new ≡ old ++ text)
  pub front : Keeps old new
