-- The addresses of stations, as they are kept with zeros after them.
use Rattle.std.proofs.Common.{◌≡◌, ℕ, ◌-◌, ◌<◌, ◌≤◌, Bool, true, ◌&&◌, List, [], ◌∷◌, ◌++◌, length, get_or, take, replicate, nat_eq, refl, sym, ap, ap₂, ◌∙◌, arith}
use Rattle.std.proofs.lemmas.Bool.{eqb-true, eq-eqb}
use Rattle.std.proofs.lemmas.Cmp.{nat_list_eq_equiv}
use Rattle.std.proofs.lemmas.List.{take_at}
use Rattle.std.specs.Cmp.Derive.{both_true as joined}
use Rattle.std.specs.Cmp.Lexicographic.{pointwise, same_text}
use Rattle.gw_addr.specs.declared.station.Source.{Source}
use Rattle.gw_addr.proofs.Reading.{both_true}

abbrev padded : List ℕ → List ℕ
padded octets = octets ++ replicate (255 - length octets) 0

-- how two stations are compared as they are kept
abbrev pub same : List ℕ → List ℕ → Bool
same xs ys = pointwise nat_eq (padded xs) (padded ys) && nat_eq (length xs) (length ys)

pub same_to : (xs ys : List ℕ) → same xs ys ≡ true → xs ≡ ys
same_to xs ys e =
    let both = both_true (pointwise nat_eq (padded xs) (padded ys)) (nat_eq (length xs) (length ys)) e in
    let whole : padded xs ≡ padded ys = same_text (padded xs) (padded ys) (sym both.0) in
    let len : length xs ≡ length ys = eqb-true (length xs) (length ys) both.1 in
    sym (take_at xs (replicate (255 - length xs) 0) (length ys) len) ∙ ap (take (length ys)) whole ∙ take_at ys (replicate (255 - length ys) 0) (length ys) refl

pub same_from : (xs ys : List ℕ) → xs ≡ ys → same xs ys ≡ true
same_from xs ys e =
    let whole : pointwise nat_eq (padded xs) (padded ys) ≡ true = ap (λ (t : List ℕ). pointwise nat_eq (padded xs) (padded t)) (sym e) ∙ nat_list_eq_equiv.refl (padded xs) in
    joined whole (eq-eqb (length xs) (length ys) (ap length e))

abbrev source : ℕ → List ℕ → Source
source net mac = record { net = net; mac = mac }

pub same_source_to : (a b : Source) → (nat_eq a.net b.net && same a.mac b.mac) ≡ true → a ≡ b
same_source_to a b e =
    let both = both_true (nat_eq a.net b.net) (same a.mac b.mac) e in
    ap₂ source (eqb-true a.net b.net both.0) (same_to a.mac b.mac both.1)

pub same_source_from : (a b : Source) → a ≡ b → (nat_eq a.net b.net && same a.mac b.mac) ≡ true
same_source_from a b e =
    joined (eq-eqb a.net b.net (ap (λ (s : Source). s.net) e)) (same_from a.mac b.mac (ap (λ (s : Source). s.mac) e))

-- the six octets of a list that has six
pub six : (xs : List ℕ) → 6 ≤ length xs → length xs < 7
    → get_or xs 0 0 ∷ get_or xs 1 0 ∷ get_or xs 2 0 ∷ get_or xs 3 0 ∷ get_or xs 4 0 ∷ get_or xs 5 0 ∷ [] ≡ xs
six [] least most = absurd (omega arith)
six (a ∷ []) least most = absurd (omega arith)
six (a ∷ b ∷ []) least most = absurd (omega arith)
six (a ∷ b ∷ c ∷ []) least most = absurd (omega arith)
six (a ∷ b ∷ c ∷ d ∷ []) least most = absurd (omega arith)
six (a ∷ b ∷ c ∷ d ∷ e ∷ []) least most = absurd (omega arith)
six (a ∷ b ∷ c ∷ d ∷ e ∷ f ∷ []) least most = refl
six (a ∷ b ∷ c ∷ d ∷ e ∷ f ∷ g ∷ others) least most = absurd (omega arith)
