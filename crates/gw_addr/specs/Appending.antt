-- What a function that appends to a buffer gives, in terms of the buffer as it was and as it is.
use Rattle.std.specs.Prelude.{◌≡◌, ℕ, ◌+◌, ◌≤◌, List, ◌++◌, length, Result, IsOk, OnOk, OnErr, vec_items, vec_len}
use Rattle.std.specs.Prelude.{vec_capacity}
use Rattle.std.specs.Global.{Vec}
use Rattle.gw_addr.specs.Reading.{Keeps}

-- The whole text follows what the buffer held. After an Err, too, what it held is still
-- in front. There is an Err only if the text would have passed the buffer's capacity, and none
-- of this capacity is given back.
pub record IsAppended {T F : Type 0} (text : List ℕ) (old new : Vec ℕ) (result : Result T F) : Type 0 where
  pub ok : OnOk result (vec_items new ≡ vec_items old ++ text)
  pub front : Keeps (vec_items old) (vec_items new)
  pub room : vec_len old + length text ≤ vec_capacity old → IsOk result
  pub capacity : vec_capacity old ≤ vec_capacity new

-- As IsAppended, and after an Err the buffer holds what it held.
pub record IsAppendedWhole {T F : Type 0} (text : List ℕ) (old new : Vec ℕ) (result : Result T F) : Type 0 where
  pub ok : OnOk result (vec_items new ≡ vec_items old ++ text)
  pub err : OnErr result (vec_items new ≡ vec_items old)
  pub room : vec_len old + length text ≤ vec_capacity old → IsOk result
  pub capacity : vec_capacity old ≤ vec_capacity new
