-- What is appended whole or not at all, one after the other.
use Rattle.std.proofs.Common.{◌≡◌, ◌∙◌, ◌++◌, ℕ, List, Result, Ok, Err, ap, length, take, refl}
use Rattle.std.proofs.lemmas.List.{take_at}
use Rattle.std.proofs.Math.Seq.{take-length}
use Rattle.std.specs.Prelude.{OnErr, OnOk}
use Rattle.std.specs.Global.{Vec}
use Rattle.gw_addr.specs.Appending.{IsAppended, IsAppendedWhole}
use Rattle.gw_addr.specs.Reading.{Keeps}
use Rattle.gw_addr.proofs.Appended.{then_put}

keeps_front : {T F : Type 0} (r : Result T F) (text u w : List ℕ) → OnOk r (w ≡ u ++ text) → OnErr r (w ≡ u) → Keeps u w
keeps_front (Ok x) text u w ok err = ap (take (length u)) ok ∙ take_at u text (length u) refl
keeps_front (Err e) text u w ok err = ap (take (length u)) err ∙ take-length u

pub of_whole : {T F : Type 0} {r : Result T F} {text : List ℕ} {u w : Vec ℕ} → IsAppendedWhole {T = T} {F = F} text u w r
    → IsAppended {T = T} {F = F} text u w r
of_whole put = record {
  ok = put.ok;
  front = keeps_front _ _ _ _ put.ok put.err;
  room = put.room;
  capacity = put.capacity;
}

-- a text that is appended whole, and another one after it
pub whole_then : {S G T F : Type 0} {x : S} {r : Result T F} {a b : List ℕ} {u v w : Vec ℕ} → IsAppendedWhole {T = S} {F = G} a u v (Ok x)
    → IsAppended {T = T} {F = F} b v w r → IsAppended {T = T} {F = F} (a ++ b) u w r
whole_then first then = then_put (of_whole first) then
