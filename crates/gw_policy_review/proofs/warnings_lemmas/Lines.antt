-- Lines that are appended one after the other.
use Rattle.std.proofs.Common.{◌≡◌, ◌∙◌, ◌+◌, ◌<◌, ◌≤◌, ◌++◌, [], ℕ, List, Option, Result, Ok, Err, ap, arith, refl, length, get_or, sym, subst, take}
use Rattle.std.proofs.lemmas.List.{append-nil, length-append, take_all, take_at}
use Rattle.std.specs.Option.{option_map_or}
use Rattle.std.specs.Prelude.{IsErr, vec_items}
use Rattle.std.specs.Global.{Vec}
use Rattle.gw_addr.specs.Appending.{IsAppended}
use Rattle.gw_addr.proofs.Appended.{IsGrown, behind, grown_by}
use Rattle.gw_script.proofs.Order.{in_order_front, in_order_next}
use Rattle.gw_script.specs.Order.{in_order}

appended_by : {T F : Type 0} (x : T) (a : List ℕ) (u v : Vec ℕ) → IsGrown a u v → IsAppended {T = T} {F = F} a u v (Ok x)
appended_by x a u v grown = record {
  ok = grown.items;
  front = ap (take (length (vec_items u))) grown.items ∙ take_at (vec_items u) a (length (vec_items u)) refl;
  room = λ enough. refl;
  capacity = grown.capacity;
}

-- where a front was refused, so is the whole, and what is answered is a fault
pub refused : {T F : Type 0} {e : F} {a : List ℕ} {u w : Vec ℕ} (r : Result T F) (b : List ℕ) → IsErr r → IsAppended {T = T} {F = F} a u w (Err e)
    → IsAppended {T = T} {F = F} (a ++ b) u w r
refused (Ok x) b is put = absurd cc
refused {a = a} {u = u} {w = w} (Err f) b is put = record {
  ok = put.ok;
  front = put.front;
  room = λ enough. put.room (omega (arith, enough, length-append a b));
  capacity = put.capacity;
}

pub nothing_put : {T F : Type 0} {x : T} {u : Vec ℕ} → IsAppended {T = T} {F = F} [] u u (Ok x)
nothing_put {x = x} {u = u} = appended_by x [] u u (record { items = sym (append-nil (vec_items u)); capacity = omega arith })

-- the lines of what is found, where it is found to be that
pub looked_up : {A T F : Type 0} {r : Result T F} {u w : Vec ℕ} (lines : A → List ℕ) (found there : Option A) → found ≡ there
    → IsAppended {T = T} {F = F} (option_map_or lines there []) u w r → IsAppended {T = T} {F = F} (option_map_or lines found []) u w r
looked_up {T = T} {F = F} {r = r} {u = u} {w = w} lines found there same put =
    subst (λ (o : Option _). IsAppended {T = T} {F = F} (option_map_or lines o []) u w r) (sym same) put

-- ---- the lines of items in their order

next_line : {A : Type 0} (lines : ℕ → A → List ℕ) (items : List A) (place : ℕ) (d : A) → place < length items →
    in_order lines 0 (take (place + 1) items) ≡ in_order lines 0 (take place items) ++ lines place (get_or items place d)
next_line lines items place d inside =
    let same : 0 + place ≡ place = omega arith in
    in_order_next lines 0 items place d inside
    ∙ ap (λ (n : ℕ). in_order lines 0 (take place items) ++ lines n (get_or items place d)) same

-- no line yet
pub lines_start : {A : Type 0} (lines : ℕ → A → List ℕ) (v : Vec ℕ) → IsGrown (in_order lines 0 []) v v
unfolding in_order
lines_start lines v = record { items = sym (append-nil (vec_items v)); capacity = omega arith }

-- those of one item more
pub lines_step : {A T F : Type 0} (x : T) (lines : ℕ → A → List ℕ) (items : List A) (place : ℕ) (d : A) (u v w : Vec ℕ) → place < length items
    → IsGrown (in_order lines 0 (take place items)) u v → IsAppended {T = T} {F = F} (lines place (get_or items place d)) v w (Ok x)
    → IsGrown (in_order lines 0 (take (place + 1) items)) u w
lines_step {T = T} {F = F} x lines items place d u v w inside grown put =
    let a = in_order lines 0 (take place items) in
    let b = lines place (get_or items place d) in
    let more : IsGrown (a ++ b) u w = grown_by x (a ++ b) u w (behind {T = T} {F = F} (Ok x) a b u v w grown put) in
    subst (λ (t : List ℕ). IsGrown t u w) (sym (next_line lines items place d inside)) more

-- those of an item were refused
pub lines_failed : {A T F : Type 0} (e : F) (r : Result T F) (lines : ℕ → A → List ℕ) (items : List A) (place : ℕ) (d : A) (u v w : Vec ℕ) → IsErr r → place < length items
    → IsGrown (in_order lines 0 (take place items)) u v → IsAppended {T = T} {F = F} (lines place (get_or items place d)) v w (Err e)
    → IsAppended {T = T} {F = F} (in_order lines 0 items) u w r
lines_failed {T = T} {F = F} e r lines items place d u v w is inside grown put =
    let a = in_order lines 0 (take place items) in
    let b = lines place (get_or items place d) in
    let parted = in_order_front lines 0 (place + 1) items in
    let whole : (a ++ b) ++ parted.0 ≡ in_order lines 0 items =
    sym (parted.1 ∙ ap (λ (t : List ℕ). t ++ parted.0) (next_line lines items place d inside)) in
    subst (λ (t : List ℕ). IsAppended {T = T} {F = F} t u w r) whole
    (refused {T = T} {F = F} r parted.0 is (behind {T = T} {F = F} (Err e) a b u v w grown put))

-- the same of an item that is there
pub item_step : {A T F : Type 0} (x : T) (lines : ℕ → A → List ℕ) (items : List A) (place : ℕ) (p : A) (u v w : Vec ℕ) → p ≡ get_or items place p → place < length items
    → IsGrown (in_order lines 0 (take place items)) u v → IsAppended {T = T} {F = F} (lines place p) v w (Ok x)
    → IsGrown (in_order lines 0 (take (place + 1) items)) u w
item_step {T = T} {F = F} x lines items place p u v w is inside grown put =
    lines_step x lines items place p u v w inside grown (subst (λ (q : _). IsAppended {T = T} {F = F} (lines place q) v w (Ok x)) is put)

pub item_failed : {A T F : Type 0} (e : F) (r : Result T F) (lines : ℕ → A → List ℕ) (items : List A) (place : ℕ) (p : A) (u v w : Vec ℕ) → p ≡ get_or items place p → IsErr r → place < length items
    → IsGrown (in_order lines 0 (take place items)) u v → IsAppended {T = T} {F = F} (lines place p) v w (Err e)
    → IsAppended {T = T} {F = F} (in_order lines 0 items) u w r
item_failed {T = T} {F = F} e r lines items place p u v w there is inside grown put =
    lines_failed e r lines items place p u v w is inside grown (subst (λ (q : _). IsAppended {T = T} {F = F} (lines place q) v w (Err e)) there put)

-- those of all items
pub lines_end : {A T F : Type 0} (x : T) (lines : ℕ → A → List ℕ) (items : List A) (place : ℕ) (u v : Vec ℕ) → length items ≤ place
    → IsGrown (in_order lines 0 (take place items)) u v → IsAppended {T = T} {F = F} (in_order lines 0 items) u v (Ok x)
lines_end {T = T} {F = F} x lines items place u v ends grown =
    let all : in_order lines 0 (take place items) ≡ in_order lines 0 items = ap (in_order lines 0) (take_all place items ends) in
    appended_by {T = T} {F = F} x (in_order lines 0 items) u v (subst (λ (t : List ℕ). IsGrown t u v) all grown)
