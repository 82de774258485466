-- Texts that are appended one after the other.
use Rattle.std.proofs.Common.{◌≡◌, ◌∙◌, ◌++◌, ℕ, List, Result, Ok, Err, ap, append_assoc, subst}
use Rattle.std.specs.Prelude.{OnOk, vec_items}
use Rattle.std.specs.Global.{Vec}
use Rattle.gw_addr.specs.Appending.{IsAppended}
use Rattle.gw_addr.specs.Reading.{Keeps}
use Rattle.gw_addr.proofs.Writing.{Keeps-front}
use Rattle.gw_state_text.specs.internal.Put.{IsPut}

ok_after : {T F : Type 0} (r : Result T F) (a b u v w : List ℕ) → v ≡ u ++ a → OnOk r (w ≡ v ++ b) → OnOk r (w ≡ u ++ (a ++ b))
ok_after (Ok x) a b u v w first then = then ∙ ap (λ (t : List ℕ). t ++ b) first ∙ append_assoc u a b
ok_after (Err e) a b u v w first then = then

-- a text before one that is appended
pub before : {T F : Type 0} (a b u v w : List ℕ) (r : Result T F) → v ≡ u ++ a → IsPut {T = T} {F = F} b v w r
    → IsPut {T = T} {F = F} (a ++ b) u w r
before a b u v w r first put = record {
  ok = ok_after r a b u v w first put.ok;
  front = Keeps-front u a w (subst (λ (x : List ℕ). Keeps x w) first put.front);
}

-- the last text
pub last : {T F : Type 0} {a : List ℕ} {u v : Vec ℕ} {r : Result T F} → IsAppended {T = T} {F = F} a u v r
    → IsPut {T = T} {F = F} a (vec_items u) (vec_items v) r
last put = record { ok = put.ok; front = put.front }

-- the same text by another name
pub named : {T F : Type 0} {a b u v : List ℕ} {r : Result T F} → a ≡ b → IsPut {T = T} {F = F} a u v r → IsPut {T = T} {F = F} b u v r
named {T} {F} {a} {b} {u} {v} {r} same put = subst (λ (t : List ℕ). IsPut {T = T} {F = F} t u v r) same put

pub grown_as : (a b u v : List ℕ) → a ≡ b → v ≡ u ++ a → v ≡ u ++ b
grown_as a b u v same grown = grown ∙ ap (λ (t : List ℕ). u ++ t) same
