-- The own entry of a table, at the place where it is found.
use Rattle.std.proofs.Common.{◌≡◌, ◌∙◌, ℕ, zero, suc, ◌+◌, ◌<◌, ◌≤◌, Bool, true, false, cond, not, ◌||◌, List, [], ◌∷◌, ◌++◌, length, take, drop, position, get_or, Option, Some, None, is_some, nat_lt, refl, sym, ap, subst, true≢false, arith}
use Rattle.std.specs.List.{list_any, position_or_len}
use Rattle.std.proofs.lemmas.Bool.{or_parts, ltb-true, ltb-false}
use Rattle.std.proofs.lemmas.List.Sums.{fails_before_first, passes_at_first}
use Rattle.gw_addr.specs.declared.bip.BipAddr.{BipAddr}
use Rattle.gw_addr.specs.declared.entry.BdtEntry.{BdtEntry}
use Rattle.gw_tables.specs.bdt_fdt.Peers.{is_of, has_twice, peers}
use Rattle.gw_tables.proofs.bdt_fdt_lemmas.Same.{equal_of}

-- if no entry is an address's, all are peers
all_peers : (own : BipAddr) (es : List BdtEntry) → list_any (is_of own) es ≡ false → peers own es ≡ es
all_peers own [] none = refl
all_peers own (e ∷ es) none =
    let parts = or_parts (is_of own e) (list_any (is_of own) es) none in
    ap (λ b. cond (not b) (e ∷ peers own es) (peers own es)) parts.0 ∙ ap (λ rest. e ∷ rest) (all_peers own es parts.1)

-- the peers are those before the own entry and those after it
around : (own : BipAddr) (d : BdtEntry) (es : List BdtEntry) (i : ℕ) → i < length es → is_of own (get_or es i d) ≡ true
    → ((k : ℕ) → k < i → is_of own (get_or es k d) ≡ false) → has_twice es ≡ false
    → peers own es ≡ take i es ++ drop (i + 1) es
around own d [] i lt here before once = absurd (omega (arith, lt))
around own d (e ∷ es) zero lt here before once =
    let parts = or_parts (list_any (is_of e.address) es) (has_twice es) once in
    ap (λ b. cond (not b) (e ∷ peers own es) (peers own es)) here
    ∙ all_peers own es (ap (λ a. list_any (is_of a) es) (equal_of own e.address here) ∙ parts.0)
around own d (e ∷ es) (suc i) lt here before once =
    let parts = or_parts (list_any (is_of e.address) es) (has_twice es) once in
    let more : suc i + 1 ≡ suc (i + 1) = omega arith in
    ap (λ b. cond (not b) (e ∷ peers own es) (peers own es)) (before zero (omega arith))
    ∙ ap (λ rest. e ∷ rest) (around own d es i (omega (arith, lt)) here (λ k l. before (suc k) (omega (arith, l))) parts.1)
    ∙ ap (λ n. (e ∷ take i es) ++ drop n (e ∷ es)) (sym more)

placed : (p : BdtEntry → Bool) (es : List BdtEntry) (i : ℕ) → position p es ≡ Some i → (position_or_len p es ≡ i) × (i < length es)
placed p es i at = by (nat_lt (position_or_len p es) (length es)) refl at
  where
    value : Option ℕ → ℕ
    value None = i
    value (Some n) = n

    by : (b : Bool) → nat_lt (position_or_len p es) (length es) ≡ b → cond b (Some (position_or_len p es)) None ≡ Some i
        → (position_or_len p es ≡ i) × (i < length es)
    by true l e = let is : position_or_len p es ≡ i = ap value e in let below = ltb-true (position_or_len p es) (length es) l in (is, omega (arith, is, below))
    by false l e = absurd (true≢false (sym (ap is_some e)))

pub own_found : (own : BipAddr) (es : List BdtEntry) (i : ℕ) → position (is_of own) es ≡ Some i → has_twice es ≡ false
    → peers own es ≡ take i es ++ drop (i + 1) es
own_found own es i at once =
    let is = placed (is_of own) es i at in
    around own d es i is.1
    (ap (λ k. is_of own (get_or es k d)) (sym is.0) ∙ passes_at_first (is_of own) es d (subst (λ k. k < length es) (sym is.0) is.1))
    (λ k l. fails_before_first (is_of own) es k d (subst (λ n. k < n) (sym is.0) l))
    once
  where
    d : BdtEntry
    d = record { address = own; mask = [] }

none_found : (p : BdtEntry → Bool) (es : List BdtEntry) → length es ≤ position_or_len p es → list_any p es ≡ false
none_found p [] le = refl
none_found p (e ∷ es) le = by (p e) (none_found p es) le
  where
    by : (b : Bool) → (length es ≤ position_or_len p es → list_any p es ≡ false) → suc (length es) ≤ cond (not b) (1 + position_or_len p es) 0 → b || list_any p es ≡ false
    by true rest l = absurd (omega (arith, l))
    by false rest l = rest (omega (arith, l))

pub own_absent : (own : BipAddr) (es : List BdtEntry) → position (is_of own) es ≡ None → peers own es ≡ es
own_absent own es at = all_peers own es (none_found (is_of own) es (by (nat_lt (position_or_len (is_of own) es) (length es)) refl at))
  where
    by : (b : Bool) → nat_lt (position_or_len (is_of own) es) (length es) ≡ b → cond b (Some (position_or_len (is_of own) es)) None ≡ None
        → length es ≤ position_or_len (is_of own) es
    by true l e = absurd (true≢false (ap is_some e))
    by false l e = ltb-false (position_or_len (is_of own) es) (length es) l
