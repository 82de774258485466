-- Texts that are appended one after the other.
use Rattle.std.proofs.Common.{◌≡◌, ◌∙◌, ◌≤◌, ◌++◌, ℕ, List, Result, Ok, Err, ap, arith, append_assoc, length, subst}
use Rattle.std.proofs.lemmas.List.{length-append}
use Rattle.std.specs.Prelude.{OnOk, vec_capacity, vec_items}
use Rattle.std.specs.Global.{Vec}
use Rattle.gw_addr.specs.Appending.{IsAppended}
use Rattle.gw_addr.specs.Reading.{Keeps}
use Rattle.gw_addr.proofs.Writing.{Keeps-front}

-- the text follows what the buffer held
pub record IsGrown (text : List ℕ) (old new : Vec ℕ) : Type 0 where
  pub items : vec_items new ≡ vec_items old ++ text
  pub capacity : vec_capacity old ≤ vec_capacity new

ok_behind : {T F : Type 0} (r : Result T F) (a b u v w : List ℕ) → v ≡ u ++ a → OnOk r (w ≡ v ++ b) → OnOk r (w ≡ u ++ (a ++ b))
ok_behind (Ok x) a b u v w first then = then ∙ ap (λ (t : List ℕ). t ++ b) first ∙ append_assoc u a b
ok_behind (Err e) a b u v w first then = then

-- after a text in the buffer, another one is appended or refused
pub behind : {T F : Type 0} (r : Result T F) (a b : List ℕ) (u v w : Vec ℕ) → IsGrown a u v → IsAppended {T = T} {F = F} b v w r
    → IsAppended {T = T} {F = F} (a ++ b) u w r
behind r a b u v w grown put = record {
  ok = ok_behind r a b (vec_items u) (vec_items v) (vec_items w) grown.items put.ok;
  front = Keeps-front (vec_items u) a (vec_items w) (subst (λ (x : List ℕ). Keeps x (vec_items w)) grown.items put.front);
  room = λ enough. put.room
      (omega (arith, enough, grown.capacity, u.ok.0, v.ok.0, ap length grown.items, length-append (vec_items u) a, length-append a b));
  capacity = omega (arith, grown.capacity, put.capacity);
}

pub grown_by : {T F : Type 0} (x : T) (a : List ℕ) (u v : Vec ℕ) → IsAppended {T = T} {F = F} a u v (Ok x) → IsGrown a u v
grown_by x a u v put = record { items = put.ok; capacity = put.capacity }

-- two texts, one after the other
pub then_put : {S G T F : Type 0} {x : S} {r : Result T F} {a b : List ℕ} {u v w : Vec ℕ} → IsAppended {T = S} {F = G} a u v (Ok x)
    → IsAppended {T = T} {F = F} b v w r → IsAppended {T = T} {F = F} (a ++ b) u w r
then_put first then = behind _ _ _ _ _ _ (grown_by _ _ _ _ first) then
