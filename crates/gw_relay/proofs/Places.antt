-- One state of the ports changes, or each in turn.
use Rattle.std.proofs.Common.{◌≡◌, ◌∙◌, sym, ap, refl, ℕ, zero, suc, inl, inr, ◌+◌, ◌-◌, ◌<◌, ◌≤◌, Bool, true, false, List, [], ◌∷◌, ◌++◌, length, map, take, drop, get_or, set, arith}
use Rattle.std.specs.Prelude.{◌==◌, if◌then◌else◌}
use Rattle.std.proofs.lemmas.List.{append_assoc, drop_more, get_or_at, set_at, map-append, length-map, length-take-le, take_at, take_more}
use Rattle.std.proofs.lemmas.Bool.Decides.{eqb_tells}
use Rattle.gw_tables.specs.bdt_fdt.Registrations.{Registrations, with_tick}
use Rattle.gw_relay.specs.State.{changed_at, changed_of, deleted, port_later, ports_after, registered}
use Rattle.gw_relay.specs.declared.change.Change.{Change}
use Rattle.gw_relay.specs.declared.change.Change.TheVariants.{Entries, Registration, Deletion, Learnings}
use Rattle.gw_relay.specs.declared.port.PortState.{PortState}

numbered : (number : ℕ) → 0 < number → (number == 0) ≡ false
numbered number pos = elim (eqb_tells number 0) [ inl is ↦ absurd (omega (arith, is.1)) | inr not ↦ not.0 ]

-- a place in the list
set_is : (ports : List PortState) (i : ℕ) (f : PortState → PortState) (d : PortState) → i < length ports
    → changed_at i f ports ≡ set ports i (f (get_or ports i d))
set_is [] i f d h = absurd (omega arith)
set_is (state ∷ ports) zero f d h = refl
set_is (state ∷ ports) (suc i) f d h = ap (λ (rest : List PortState). state ∷ rest) (set_is ports i f d (omega arith))

-- no place in the list
past_is : (ports : List PortState) (i : ℕ) (f : PortState → PortState) → length ports ≤ i → changed_at i f ports ≡ ports
past_is [] i f h = refl
past_is (state ∷ ports) zero f h = absurd (omega arith)
past_is (state ∷ ports) (suc i) f h = ap (λ (rest : List PortState). state ∷ rest) (past_is ports i f (omega arith))

-- a port that is there
pub changed_there : (number : ℕ) (f : PortState → PortState) (ports : List PortState) (d : PortState) → 0 < number → number ≤ length ports
    → changed_of number f ports ≡ set ports (number - 1) (f (get_or ports (number - 1) d))
changed_there number f ports d pos within = rw (numbered number pos) (set_is ports (number - 1) f d (omega arith))

-- no port has the number 0
pub changed_zero : (number : ℕ) (f : PortState → PortState) (ports : List PortState) → number ≡ 0 → changed_of number f ports ≡ ports
changed_zero number f ports e = rw e refl

-- a port that isn't there
pub changed_past : (number : ℕ) (f : PortState → PortState) (ports : List PortState) → 0 < number → length ports < number
    → changed_of number f ports ≡ ports
changed_past number f ports pos past = rw (numbered number pos) (past_is ports (number - 1) f (omega arith))

-- one state more is a tick later
pub later_step : (before now : List PortState) (i : ℕ) (d : PortState) (fdt : Registrations) → i < length before
    → now ≡ map port_later (take i before) ++ drop i before → fdt ≡ with_tick (get_or now i d).fdt
    → set now i (record { port = (get_or now i d).port; stations = (get_or now i d).stations; bdt = (get_or now i d).bdt; fdt = fdt }) ≡ map port_later (take (i + 1) before)
    ++ drop (i + 1) before
later_step before now i d fdt h e ticked =
    let first = map port_later (take i before) in
    let y : PortState = get_or before i d in
    let rest = drop (i + 1) before in
    let new : PortState = record { port = (get_or now i d).port; stations = (get_or now i d).stations; bdt = (get_or now i d).bdt; fdt = fdt } in
    let len : length first ≡ i = length-map (take i before) port_later ∙ length-take-le i before (omega arith) in
    let split : now ≡ first ++ y ∷ rest = e ∙ ap (λ (t : List PortState). first ++ t) (drop_more before i d h) in
    let here : get_or now i d ≡ y = ap (λ (t : List PortState). get_or t i d) split ∙ get_or_at first y rest d i len in
    let same : new ≡ port_later y = rw (ticked, here) refl in
    let more : map port_later (take (i + 1) before) ++ rest ≡ first ++ port_later y ∷ rest =
    ap (λ (t : List PortState). map port_later t ++ rest) (take_more before i d h)
    ∙ ap (λ (t : List PortState). t ++ rest) (map-append port_later (take i before) (y ∷ []))
    ∙ append_assoc first (port_later y ∷ []) rest in
    ap (λ (t : List PortState). set t i new) split ∙ set_at first y rest new i len ∙ ap (λ (a : PortState). first ++ a ∷ rest) same ∙ sym more

-- what is written through a slice of all is all
pub whole : (new items : List PortState) (len : ℕ) → length new ≡ len → take len (new ++ drop (length new) items) ≡ new
whole new items len e = take_at new (drop (length new) items) len e

-- a change leaves the number of ports
length_at : (i : ℕ) (f : PortState → PortState) (ports : List PortState) → length (changed_at i f ports) ≡ length ports
length_at i f [] = refl
length_at zero f (state ∷ ports) = refl
length_at (suc i) f (state ∷ ports) = ap (λ (n : ℕ). suc n) (length_at i f ports)

either_length : (b : Bool) (xs ys : List PortState) → length ys ≡ length xs → length (if b then xs else ys) ≡ length xs
either_length true xs ys e = refl
either_length false xs ys e = e

length_of : (number : ℕ) (f : PortState → PortState) (ports : List PortState) → length (changed_of number f ports) ≡ length ports
length_of number f ports = either_length (number == 0) ports (changed_at (number - 1) f ports) (length_at (number - 1) f ports)

pub length_after : (change : Change) (ports : List PortState) → length (ports_after change ports) ≡ length ports
length_after (Entries port bdt) ports = length_of port (λ state. record state { bdt = bdt }) ports
length_after (Registration port address time_to_live) ports =
    length_of port (λ state. record state { fdt = registered address time_to_live state.fdt }) ports
length_after (Deletion port address) ports = length_of port (λ state. record state { fdt = deleted address state.fdt }) ports
length_after (Learnings port next networks) ports = refl
